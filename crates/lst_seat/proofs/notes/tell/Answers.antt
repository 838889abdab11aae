use Rattle.lst_seat.proofs.Telling.{tells}
use Rattle.lst_seat.proofs.notes.tell.Goals as goal

pub returns-clause-note : goal.returns-clause-note
returns-clause-note c = tells c.args.store.now c.args.seat.now.view c.note_of-seat.result c.best_teller-teller.result c.consider.ensures c.note_of-seat.ensures.new c.best_teller-teller.ensures.hosted c.note_of-seat.ensures.note c.best_teller-teller.ensures.most
