use Rattle.std.proofs.Common.{◌≡◌, ◌↔◌, ◌<◌, IsTrue, IfSome, length, Option, None, sym, ap, ◌∙◌, subst}
use Rattle.std.proofs.lemmas.List.{get_or_default}
use Rattle.lst_model.specs.declared.lines.Line.TheVariants.{Call}
use Rattle.lst_replies.specs.Seen.{seen}
use Rattle.lst_replies.specs.Runs.{Answered, answered, speaker_of}
use Rattle.lst_replies.specs.States.{state_of}
use Rattle.lst_legal_runs.specs.declared.outlines.StateOutline.{StateOutline}
use Rattle.lst_legal_runs.specs.Outlines.{outline_of}
use Rattle.lst_legal_runs.specs.Places.{seen_at, outline_at}
use Rattle.lst_snapshots.specs.declared.sight.Sight.{Sight}
use Rattle.lst_legal.specs.Sights.{from_begin, TellsSeen, IsSightOf}
use Rattle.lst_legal.proofs.sights.tells_seen.Goals as goal

pub returns-in-Call : goal.returns-in-Call
returns-in-Call c = λ before are outline.
    let session = c.in-Call.session in
    let call = c.in-Call.call.now in
    let sights = c.args.sights.now in
    let one_is : seen_at c.args.place.now ≡ answered (Call session call) c.in-Call.reply.now = ap seen c.in-Call.is in
    let here : c.args.place.now.outline ≡ outline_of (state_of session before) = subst (λ (one : Answered). c.args.place.now.outline ≡ outline_at before (speaker_of one.line)) one_is outline in
    let within : session < length sights = subst (λ (one : Answered). IfSome (speaker_of one.line) (λ s. s < length sights)) one_is c.requires in
    let decides = c.tells_call.ensures (state_of session before)
    (subst (λ (o : Option Sight). IsSightOf c.args.snapshots.now from_begin o (state_of session before)) (sym (c.index-sights-session.is ∙ get_or_default sights session c.index-sights-session.result None within)) (are session within))
    (ap (λ (o : StateOutline). o.current) here) in
    subst (λ (one : Answered). IsTrue c.tells_call.result ↔ TellsSeen c.args.limits.now c.args.snapshots.now before one) (sym one_is)
    ((λ e. let h = decides.0 e in record { read = h.0; write = h.1 }), (λ h. decides.1 (h.read, h.write)))
