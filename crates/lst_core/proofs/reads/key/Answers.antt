use Rattle.std.proofs.Common.{refl, slice_index_or}
use Rattle.lst_layout.specs.declared.place.Place.TheVariants.{KeyWord}
use Rattle.lst_core.proofs.Found.{read_at}
use Rattle.lst_core.proofs.reads.key.Goals as goal

pub returns : goal.returns
returns c = read_at c.args.layout.now.limits c.args.words.now c.requires.wide (KeyWord c.args.rec) c.requires.place c.keys.result (slice_index_or c.args.words.now c.keys.result 0) c.keys.ensures.address refl
