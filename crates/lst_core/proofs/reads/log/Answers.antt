use Rattle.std.proofs.Common.{refl, slice_index_or}
use Rattle.lst_layout.specs.declared.place.Place.TheVariants.{LogWord}
use Rattle.lst_core.proofs.Found.{read_at}
use Rattle.lst_core.proofs.reads.log.Goals as goal

pub returns : goal.returns
returns c = read_at c.args.layout.now.limits c.args.words.now c.requires.wide (LogWord c.args.time) c.requires.place c.log.result (slice_index_or c.args.words.now c.log.result 0) c.log.ensures.address refl
