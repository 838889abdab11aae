use Rattle.std.proofs.Common.{ℕ, ◌+◌, ◌<◌, ◌≤◌, List, [], ◌∷◌, ◌++◌, All, Contains, sym, subst, arith}
use mathlib.Core.Logic.{dite}
use native.Mathlib.Decide.{ℕ_discrete}
use Rattle.std.proofs.lemmas.List.Elements.{All-nil, All-cons, All-append, Contains-append_left, Contains-push}
use Rattle.lst_rule.specs.declared.records.RecordId.{RecordId}
use Rattle.lst_test_calls.proofs.scan_tests.all_records.Goals as goal

pub loop-number-preserved : goal.loop-number-preserved
loop-number-preserved c = let n = c.loop-number.number in let before = c.loop-number.records.items in let invariant = c.loop-number.invariant in
    let new : RecordId = record { number = n } in let few : n < 512 = (let t = c.loop-number-test.true in omega arith) in
    subst (λ (list : List RecordId). All (λ (r : RecordId). r.number < 512) list × ((rec : ℕ) → rec < n + 1 → Contains list record { number = rec }) × (n + 1 ≤ 512)) (sym c.in_ok-push.ensures.items) (
      All-append (λ (r : RecordId). r.number < 512) before (new ∷ []) invariant.0 (All-cons (λ (r : RecordId). r.number < 512) new [] few (All-nil (λ (r : RecordId). r.number < 512))),
      λ rec low. dite (ℕ_discrete rec n)
          (λ same. subst (λ (k : ℕ). Contains (before ++ new ∷ []) record { number = k }) (sym same) (Contains-push before new))
          (λ apart. Contains-append_left before (new ∷ []) record { number = rec } (invariant.1 rec (omega arith))),
      omega arith,
    )
