use Rattle.std.proofs.Common.{◌≡◌, ◌<◌, List, [], ◌∷◌, ◌++◌, length, get_or, set, None, IfSome, refl, sym, ap, ◌∙◌, subst}
use Rattle.lst_model.specs.declared.acts.Write.{Write}
use Rattle.lst_model.specs.declared.replies.Reply.TheVariants.{Silent}
use Rattle.lst_model.specs.declared.lines.Line.TheVariants.{Phase, Merge, Call}
use Rattle.std.proofs.lemmas.List.{get_or_default}
use Rattle.lst_model.specs.Histories.{by_key, StandByKey}
use Rattle.lst_replies.specs.Seen.{seen}
use Rattle.lst_replies.specs.Runs.{Answered, answered, speaker_of, commit_time}
use Rattle.lst_replies.specs.States.{state_of}
use Rattle.lst_legal_runs.specs.declared.outlines.StateOutline.{StateOutline}
use Rattle.lst_legal_runs.specs.Outlines.{outline_of}
use Rattle.lst_legal_runs.specs.Places.{seen_at, outline_at}
use Rattle.lst_legal_runs.specs.Gathering.{ArePending, CommitsNothing, IsStep, pending_after}
use Rattle.lst_model.proofs.InOrder.{by_key-stands}
use Rattle.lst_legal_runs.proofs.Pending.{pending_phase, pending_merge, pending_call}
use Rattle.lst_legal_runs.proofs.Gathered.{gathered_silent}
use Rattle.lst_legal_runs.proofs.Stepping.{ended_none, ended_some, step_commit}
use Rattle.lst_legal_runs.proofs.gathering.step.Goals as goal

pub returns-in-Phase : goal.returns-in-Phase
returns-in-Phase c = λ run front rest next.
    let one_is : seen_at c.args.place.now ≡ answered Phase Silent = ap seen c.in-Phase.is in (
      subst (λ (one : Answered). ArePending c.args.pending.now (front ++ one ∷ [])) (sym one_is) (pending_phase c.args.pending.now front Silent next.pend),
      gathered_silent run c.args.stamps.now c.args.slots.now front (seen_at c.args.place.now) (subst (λ (one : Answered). commit_time one.reply ≡ None) (sym one_is) refl) next.gathered,
    )

pub returns-in-Merge : goal.returns-in-Merge
returns-in-Merge c = λ run front rest next.
    let one_is : seen_at c.args.place.now ≡ answered (Merge c.in-Merge.range c.in-Merge.column) c.in-Merge.reply.now = ap seen c.in-Merge.is in
    let silent : commit_time c.in-Merge.reply.now ≡ None = subst CommitsNothing one_is next.call in (
      subst (λ (one : Answered). ArePending c.args.pending.now (front ++ one ∷ [])) (sym one_is) (pending_merge c.args.pending.now front c.in-Merge.reply.now c.in-Merge.range c.in-Merge.column next.pend),
      gathered_silent run c.args.stamps.now c.args.slots.now front (seen_at c.args.place.now) (subst (λ (one : Answered). commit_time one.reply ≡ None) (sym one_is) silent) next.gathered,
    )

pub returns-in-None : goal.returns-in-None
returns-in-None c = λ run front rest next.
    let session = c.in-Call.session in
    let call = c.in-Call.call.now in
    let reply = c.in-Call.reply.now in
    let pending = c.args.pending.now in
    let one_is : seen_at c.args.place.now ≡ answered (Call session call) reply = ap seen c.in-Call.is in
    let within : session < length pending = subst (λ (one : Answered). IfSome (speaker_of one.line) (λ s. s < length pending)) one_is c.requires.within in
    let old : List Write = get_or pending session c.index-pending-session.result in
    let read : old ≡ get_or pending session [] = get_or_default pending session c.index-pending-session.result [] within in
    let silent : commit_time reply ≡ None = ended_none (commit_time reply) old (sym c.in-None.is ∙ c.in_ok-pend-in-Call.ensures.ended) in (
      subst (λ (one : Answered). ArePending (set pending session c.pend.new.pending) (front ++ one ∷ [])) (sym one_is)
          (pending_call pending front reply session call c.pend.new.pending within (c.in_ok-pend-in-Call.ensures.pending refl ∙ ap (pending_after call reply) read) next.pend),
      gathered_silent run c.args.stamps.now c.args.slots.now front (seen_at c.args.place.now) (subst (λ (one : Answered). commit_time one.reply ≡ None) (sym one_is) silent) next.gathered,
    )

pub returns-in_ok-writes-in-Some : goal.returns-in_ok-writes-in-Some
returns-in_ok-writes-in-Some c = λ run front rest next.
    let session = c.in-Call.session in
    let call = c.in-Call.call.now in
    let reply = c.in-Call.reply.now in
    let pending = c.args.pending.now in
    let one_is : seen_at c.args.place.now ≡ answered (Call session call) reply = ap seen c.in-Call.is in
    let within : session < length pending = subst (λ (one : Answered). IfSome (speaker_of one.line) (λ s. s < length pending)) one_is c.requires.within in
    let old : List Write = get_or pending session c.index-pending-session.result in
    let read : old ≡ get_or pending session [] = get_or_default pending session c.index-pending-session.result [] within in
    let ended = ended_some (commit_time reply) old c.in-Some.time c.in-Some.writes (sym c.in-Some.is ∙ c.in_ok-pend-in-Call.ensures.ended) in
    let sorted : c.in_ok-writes-in-Some.writes ≡ by_key (get_or pending session []) = c.in_ok-writes-in-Some.ensures ∙ ap by_key (ended.all ∙ read) in
    let place_is : run ≡ front ++ answered (Call session call) reply ∷ rest = subst (λ (one : Answered). run ≡ front ++ one ∷ rest) one_is next.is in
    let outline : c.args.place.now.outline ≡ outline_of (state_of session front) = subst (λ (one : Answered). c.args.place.now.outline ≡ outline_at front (speaker_of one.line)) one_is next.outline in
    subst (λ (one : Answered). IsStep c.enter.result run c.args.stamps.now (set pending session c.pend.new.pending) c.enter.new.slots (front ++ one ∷ [])) (sym one_is)
    (step_commit run c.args.stamps.now c.args.slots.now front rest session call reply c.in-Some.time c.enter.result c.enter.new.slots c.args.place.now.outline.current c.in_ok-writes-in-Some.writes (set pending session c.pend.new.pending)
    place_is ended.at next.gathered (ap (λ (o : StateOutline). o.current) outline)
    (λ transaction opened. next.pend session transaction within opened ∙ sym sorted)
    (subst StandByKey (sym sorted) (by_key-stands (get_or pending session [])))
    c.enter.ensures.can c.enter.ensures.entered
    (pending_call pending front reply session call c.pend.new.pending within (c.in_ok-pend-in-Call.ensures.pending refl ∙ ap (pending_after call reply) read) next.pend))
