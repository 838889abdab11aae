use Rattle.std.proofs.Common.{refl, slice_index_or}
use Rattle.lst_layout.specs.declared.place.Place.TheVariants.{HeadWord}
use Rattle.lst_core.proofs.Found.{read_at}
use Rattle.lst_core.proofs.reads.head.Goals as goal

pub returns : goal.returns
returns c = read_at c.args.layout.now.limits c.args.words.now c.requires.wide (HeadWord c.args.rec) c.requires.place c.indirection.result (slice_index_or c.args.words.now c.indirection.result 0) c.indirection.ensures.address refl
