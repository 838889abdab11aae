use Rattle.std.proofs.Common.{◌∙◌, ℕ, ◌+◌, ◌<◌, ◌++◌, ◌∷◌, [], take, drop, length, List, IfSome, sym, subst}
use Rattle.lst_replies.specs.Runs.{Answered, speaker_of}
use Rattle.lst_legal_runs.specs.Places.{seen_at, run_at}
use Rattle.lst_legal_runs.proofs.Placing.{run_more}
use Rattle.lst_legal_runs.proofs.Stepping.{Filling, next_place, speaker_within, step_on, step_off}
use Rattle.lst_legal_runs.proofs.gathering.fill_all.Goals as goal

pub step-requires-clause-within : goal.step-requires-clause-within
step-requires-clause-within c =
    subst (λ (n : ℕ). IfSome (speaker_of (seen_at c.place-item.result).line) (λ session. session < n)) (sym c.loop-place.invariant.all)
    (speaker_within c.args.places.now (length c.args.pending.now) c.loop-place.place-index c.place-item.result c.loop-place-test.true c.place-item.is c.requires.within)

pub returns-then-not-branch : goal.returns-then-not-branch
returns-then-not-branch c =
    let places = c.args.places.now in
    let i = c.loop-place.place-index in
    let place = c.place-item.result in
    let front = run_at (take i places) in
    step_off c.in_ok-step.field-0 (run_at places) c.args.stamps.now c.step.new.pending c.step.new.slots (front ++ seen_at place ∷ []) c.if-not-branch.true
    (c.in_ok-step.ensures (run_at places) front (run_at (drop (i + 1) places))
    (next_place places c.args.stamps.now (length c.args.pending.now) i place c.loop-place.pending c.loop-place.slots c.loop-place-test.true c.place-item.is c.requires.traced c.requires.calls c.loop-place.invariant))

pub loop-place-preserved : goal.loop-place-preserved
loop-place-preserved c =
    let places = c.args.places.now in
    let i = c.loop-place.place-index in
    let place = c.place-item.result in
    let front = run_at (take i places) in
    subst (λ (f : List Answered). Filling (run_at places) c.args.stamps.now (length c.args.pending.now) c.step.new.pending c.step.new.slots f) (sym (run_more places i place c.loop-place-test.true c.place-item.is))
    (step_on c.in_ok-step.field-0 (run_at places) c.args.stamps.now (length c.args.pending.now) c.step.new.pending c.step.new.slots (front ++ seen_at place ∷ []) c.if-not-branch.false (c.step.auto.pending ∙ c.loop-place.invariant.all)
    (c.in_ok-step.ensures (run_at places) front (run_at (drop (i + 1) places))
    (next_place places c.args.stamps.now (length c.args.pending.now) i place c.loop-place.pending c.loop-place.slots c.loop-place-test.true c.place-item.is c.requires.traced c.requires.calls c.loop-place.invariant)))
