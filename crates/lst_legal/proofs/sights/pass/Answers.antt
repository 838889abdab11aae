use Rattle.std.proofs.Common.{◌≡◌, ◌<◌, [], ◌∷◌, ◌++◌, length, get_or, set, Option, None, IfSome, sym, ap, subst}
use Rattle.std.proofs.lemmas.List.{get_or_default}
use Rattle.lst_model.specs.declared.replies.Reply.TheVariants.{Silent}
use Rattle.lst_replies.specs.Seen.{seen}
use Rattle.lst_replies.specs.Runs.{Answered, speaker_of}
use Rattle.lst_replies.specs.States.{state_of}
use Rattle.lst_legal_runs.specs.Places.{IfCall}
use Rattle.lst_snapshots.specs.declared.sight.Sight.{Sight}
use Rattle.lst_legal.specs.Sights.{AreSights, IsSightOf, Opens}
use Rattle.lst_legal.proofs.Sighting.{sights_phase, sights_merge, sights_call}
use Rattle.lst_legal.proofs.sights.pass.Goals as goal

pub returns-in-Phase : goal.returns-in-Phase
returns-in-Phase c = λ at front opens are. subst (λ (one : Answered). AreSights c.args.snapshots.now at c.args.sights.now (front ++ one ∷ [])) (sym (ap seen c.in-Phase.is)) (sights_phase c.args.snapshots.now at c.args.sights.now front Silent are)

pub returns-in-Merge : goal.returns-in-Merge
returns-in-Merge c = λ at front opens are. subst (λ (one : Answered). AreSights c.args.snapshots.now at c.args.sights.now (front ++ one ∷ [])) (sym (ap seen c.in-Merge.is)) (sights_merge c.args.snapshots.now at c.args.sights.now front c.in-Merge.reply.now c.in-Merge.range c.in-Merge.column are)

pub returns-in_ok-pass_call-in-Call : goal.returns-in_ok-pass_call-in-Call
returns-in_ok-pass_call-in-Call c = λ at front opens are.
    let session = c.in-Call.session in
    let call = c.in-Call.call.now in
    let reply = c.in-Call.reply.now in
    let sights = c.args.sights.now in
    let within : session < length sights = subst (λ (one : Answered). IfSome (speaker_of one.line) (λ s. s < length sights)) (ap seen c.in-Call.is) c.requires in
    let opens_here : Opens (at session) (state_of session front) reply c.args.opening = subst (λ (one : Answered). IfCall (λ s k r. Opens (at s) (state_of s front) r c.args.opening) one.line one.reply) (ap seen c.in-Call.is) opens in
    let read : get_or sights session c.index-sights-session.result ≡ get_or sights session None = get_or_default sights session c.index-sights-session.result None within in
    subst (λ (one : Answered). AreSights c.args.snapshots.now at (set sights session c.pass_call.new.sight) (front ++ one ∷ [])) (sym (ap seen c.in-Call.is))
    (sights_call c.args.snapshots.now at sights front reply session call c.pass_call.new.sight within
    (λ is. c.in_ok-pass_call-in-Call.ensures (at session) (state_of session front) opens_here (subst (λ (o : Option Sight). IsSightOf c.args.snapshots.now (at session) o (state_of session front)) (sym read) is))
    are)
