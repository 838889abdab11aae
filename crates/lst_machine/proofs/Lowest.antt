-- The lowest session that passes a test, found from the lowest one on.
use Rattle.std.proofs.Common.{◌≡◌, ℕ, zero, suc, ◌+◌, ◌<◌, ◌≤◌, Bool, true, false, cond, refl, sym, ap, ◌∙◌, arith, ⊎_elim, add-one}
use Rattle.std.proofs.lemmas.Bool.{cases_lt}
use Rattle.std.specs.Prelude.{Option, Some, None, is_some}
use Rattle.lst_machine.specs.Merges.{lowest_where}

-- none below passes, nor does this one
pub lowest-next : (test : ℕ → Bool) (session : ℕ) → lowest_where test session ≡ None → test session ≡ false → lowest_where test (session + 1) ≡ None
lowest-next test session none fails =
    ap (lowest_where test) (add-one session)
    ∙ ap (λ (found : Option ℕ). cond (is_some found) found (cond (test session) (Some session) None)) none
    ∙ ap (λ b. cond b (Some session) None) fails

-- none below passes, but this one does
pub lowest-found : (test : ℕ → Bool) (session count : ℕ) → lowest_where test session ≡ None → test session ≡ true → session < count → lowest_where test count ≡ Some session
lowest-found test session zero none passes low = absurd (omega (arith, low))
lowest-found test session (suc count) none passes low = ⊎_elim
    (λ (below : session < count). ap (λ (found : Option ℕ). cond (is_some found) found (cond (test count) (Some count) None)) (lowest-found test session count none passes below))
    (λ (here : count ≤ session). let same : session ≡ count = omega (arith, low, here) in
    ap (λ (found : Option ℕ). cond (is_some found) found (cond (test count) (Some count) None)) (ap (lowest_where test) (sym same) ∙ none)
    ∙ ap (λ b. cond b (Some count) None) (ap test (sym same) ∙ passes)
    ∙ ap Some (sym same))
    (cases_lt session count)

-- tests that agree below a number
pub lowest-same : (f g : ℕ → Bool) (count : ℕ) → ((session : ℕ) → session < count → f session ≡ g session) → lowest_where f count ≡ lowest_where g count
lowest-same f g zero same = refl
lowest-same f g (suc count) same =
    ap (λ (found : Option ℕ). cond (is_some found) found (cond (f count) (Some count) None)) (lowest-same f g count (λ session low. same session (omega (arith, low))))
    ∙ ap (λ b. cond (is_some (lowest_where g count)) (lowest_where g count) (cond b (Some count) None)) (same count (omega arith))
