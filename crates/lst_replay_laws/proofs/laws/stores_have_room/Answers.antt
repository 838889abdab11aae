use Rattle.lst_replay_laws.proofs.Counted.{opening_is_counted, calls_are_counted, counted_has_room}
use Rattle.lst_replay_laws.proofs.laws.stores_have_room.Goals as goal

pub returns-clause-opening : goal.returns-clause-opening
returns-clause-opening c = opening_is_counted

pub returns-clause-calls : goal.returns-clause-calls
returns-clause-calls c = calls_are_counted

pub returns-clause-room : goal.returns-clause-room
returns-clause-room c = counted_has_room
