use Rattle.std.proofs.Common.{◌≡◌, ◌↔◌, ◌<◌, IsTrue, IfSome, length, Option, None, sym, ap, ◌∙◌, subst}
use Rattle.std.proofs.lemmas.List.{get_or_default}
use Rattle.lst_model.specs.declared.lines.Line.TheVariants.{Call}
use Rattle.lst_replies.specs.Seen.{seen}
use Rattle.lst_replies.specs.Runs.{Answered, answered, speaker_of}
use Rattle.lst_replies.specs.States.{state_of}
use Rattle.lst_legal_runs.specs.Outlines.{outline_of}
use Rattle.lst_legal_runs.specs.Places.{seen_at, outline_at}
use Rattle.lst_snapshots.specs.declared.sight.Sight.{Sight}
use Rattle.lst_legal.specs.Sights.{IsSightOf}
use Rattle.lst_legal.specs.Serials.{TellsPlace}
use Rattle.lst_legal.proofs.Serials.{opened_same}
use Rattle.lst_legal.proofs.places.tells_place.Goals as goal

pub returns-in-Call : goal.returns-in-Call
returns-in-Call c = λ at before are outline.
    let session = c.in-Call.session in
    let call = c.in-Call.call.now in
    let sights = c.args.sights.now in
    let one_is : seen_at c.args.place.now ≡ answered (Call session call) c.in-Call.reply.now = ap seen c.in-Call.is in
    let here : c.args.place.now.outline ≡ outline_of (state_of session before) = subst (λ (one : Answered). c.args.place.now.outline ≡ outline_at before (speaker_of one.line)) one_is outline in
    let within : session < length sights = subst (λ (one : Answered). IfSome (speaker_of one.line) (λ s. s < length sights)) one_is c.requires in
    subst (λ (one : Answered). IsTrue c.is_in_place.result ↔ TellsPlace c.args.snapshots.now at before one) (sym one_is)
    (c.is_in_place.ensures (at session) (state_of session before)
    (subst (λ (o : Option Sight). IsSightOf c.args.snapshots.now (at session) o (state_of session before)) (sym (c.index-sights-session.is ∙ get_or_default sights session c.index-sights-session.result None within)) (are session within))
    (c.is_some.ensures ∙ opened_same c.args.place.now.outline (state_of session before) here))
