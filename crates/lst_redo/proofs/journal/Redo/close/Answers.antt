use Rattle.lst_replay_laws.proofs.Counted.{counted_has_room}
use Rattle.lst_session.specs.Crews.{store_told}
use Rattle.lst_redo.specs.Journals.{view_of}
use Rattle.lst_redo.proofs.journal.Redo.close.Goals as goal

pub returns-clause-room : goal.returns-clause-room
returns-clause-room g c = λ commits journal. counted_has_room (view_of c.args.self).limits (store_told (view_of c.args.self)) commits journal.counted journal.same
