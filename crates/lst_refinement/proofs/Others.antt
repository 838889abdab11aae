-- Words that are alike where the machine's state is told of them tell one state.
use Rattle.lst_refinement.specs.Telling.{told_store}
use Rattle.lst_refinement.specs.Laws.{OtherAreasTellNothing}

pub other_areas_tell_nothing : OtherAreasTellNothing
other_areas_tell_nothing l a b known same = λ i. told_store l (record a {
  clock = same.clock i;
  counter = same.counter i;
  log = same.log i;
  begins = same.begins i;
  states = same.states i;
  keys = same.keys i;
  counts = same.counts i;
  cells = same.cells i;
}) known
