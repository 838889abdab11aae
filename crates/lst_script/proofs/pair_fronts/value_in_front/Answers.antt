use Rattle.lst_script.proofs.PairFronts.{number_value, null_value}
use Rattle.lst_script.proofs.pair_fronts.value_in_front.Goals as goal

pub returns-in-Some : goal.returns-in-Some
returns-in-Some c = number_value c.args.text.now c.in-Some.rest.now c.in-Some.number c.in-Some.ensures

pub returns : goal.returns
returns c = null_value c.args.text.now c.in_ok-rest.rest.now c.in_ok-rest.ensures
