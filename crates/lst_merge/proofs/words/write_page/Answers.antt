use Rattle.std.proofs.Common.{arith}
use Rattle.lst_merge.proofs.Wording.{written_whole, page_entries, page_absent}
use Rattle.lst_merge.proofs.words.write_page.Goals as goal

pub returns-clause-tps : goal.returns-clause-tps
returns-clause-tps c = (written_whole c.args.tps c.pack_part.new.part c.args.words.now (omega arith) c.pack_part.ensures.long).lineage

pub returns-clause-entries : goal.returns-clause-entries
returns-clause-entries c = page_entries c.args.tps c.pack_part.new.part c.args.words.now _ c.args.values.now _ (omega arith) (written_whole c.args.tps c.pack_part.new.part c.args.words.now (omega arith) c.pack_part.ensures.long) c.pack_part.ensures.long c.pack_part.ensures.packs c.requires

pub returns-clause-absent : goal.returns-clause-absent
returns-clause-absent c = page_absent c.args.tps c.pack_part.new.part c.args.words.now _ c.args.values.now _ (omega arith) (written_whole c.args.tps c.pack_part.new.part c.args.words.now (omega arith) c.pack_part.ensures.long) c.pack_part.ensures.long c.pack_part.ensures.packs c.requires
