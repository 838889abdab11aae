use Rattle.std.proofs.Common.{refl}
use Rattle.lst_script.specs.Pairs.{filled}
use Rattle.lst_script.proofs.PairFronts.{cells_of_pairs}
use Rattle.lst_script.proofs.pair_fronts.named_cells_in_front.Goals as goal

pub returns : goal.returns
returns c = cells_of_pairs c.args.names.now c.args.text.now c.in_ok-rest.rest.now c.pairs_in_front.new.changes (filled c.pairs_in_front.new.changes) c.in_ok-rest.ensures refl
