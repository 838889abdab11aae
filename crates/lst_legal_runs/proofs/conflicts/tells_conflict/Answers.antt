use Rattle.std.proofs.Common.{◌≡◌, ◌↔◌, IsTrue, ap, sym, subst}
use Rattle.lst_model.specs.declared.lines.Line.TheVariants.{Call}
use Rattle.lst_replies.specs.Seen.{seen}
use Rattle.lst_replies.specs.Runs.{Answered, answered, speaker_of, write_of}
use Rattle.lst_replies.specs.States.{state_of}
use Rattle.lst_legal_runs.specs.declared.outlines.StateOutline.{StateOutline}
use Rattle.lst_legal_runs.specs.Outlines.{outline_of}
use Rattle.lst_legal_runs.specs.Places.{seen_at, outline_at}
use Rattle.lst_legal_runs.specs.Conflicts.{TellsConflict}
use Rattle.lst_legal_runs.proofs.conflicts.tells_conflict.Goals as goal

pub returns-in-Call : goal.returns-in-Call
returns-in-Call c = λ history run before conflicts outline.
    let session = c.in-Call.session in
    let call = c.in-Call.call.now in
    let one_is : seen_at c.args.place.now ≡ answered (Call session call) c.in-Call.reply.now = ap seen c.in-Call.is in
    let here : c.args.place.now.outline ≡ outline_of (state_of session before) = subst (λ (one : Answered). c.args.place.now.outline ≡ outline_at before (speaker_of one.line)) one_is outline in
    subst (λ (one : Answered). IsTrue c.explains_write.result ↔ TellsConflict history run before one) (sym one_is)
    (c.explains_write.ensures history run (state_of session before).current (write_of call) conflicts (ap (λ (o : StateOutline). o.current) here) c.key_written.ensures)
