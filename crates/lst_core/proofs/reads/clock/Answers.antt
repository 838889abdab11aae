use Rattle.std.proofs.Common.{refl, slice_index_or}
use Rattle.lst_layout.specs.declared.place.Place.TheVariants.{ClockWord}
use Rattle.lst_core.proofs.Found.{read_at}
use Rattle.lst_core.proofs.reads.clock.Goals as goal

pub returns : goal.returns
returns c = read_at c.args.layout.now.limits c.args.words.now c.requires.wide (ClockWord) tt c.clock.result (slice_index_or c.args.words.now c.clock.result 0) c.clock.ensures.address refl
