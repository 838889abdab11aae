use Rattle.lst_seat.proofs.Telling.{heard}
use Rattle.lst_seat.proofs.notes.hear.Goals as goal

pub returns-clause-hears : goal.returns-clause-hears
returns-clause-hears c = heard c.args.seat.now.view c.hear_note.new.seat.view c.args.note.seat.view c.args.note.bare c.hear_note.ensures.heard
