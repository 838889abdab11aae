use Rattle.lst_serial_laws.proofs.Placing.{places_answer_keys, places_answer_all}
use Rattle.lst_serial_laws.proofs.laws.places_answer.Goals as goal

pub returns-clause-keys : goal.returns-clause-keys
returns-clause-keys c = places_answer_keys

pub returns-clause-all : goal.returns-clause-all
returns-clause-all c = places_answer_all
