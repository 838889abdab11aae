use Rattle.lst_log.proofs.Ones.{has_one_list, damage_is_none}
use Rattle.lst_log.proofs.laws.image_has_one_history.Goals as goal

pub returns-clause-one : goal.returns-clause-one
returns-clause-one c = has_one_list

pub returns-clause-damaged : goal.returns-clause-damaged
returns-clause-damaged c = damage_is_none
