-- The first commit that passes a test, one commit on.
use Rattle.std.proofs.Common.{◌≡◌, ◌↔◌, ℕ, zero, suc, ◌+◌, ◌<◌, ◌≤◌, Bool, true, false, cond, ◌&&◌, ◌||◌, eqb, IsTrue, List, [], ◌∷◌, ◌++◌, length, take, get_or, refl, sym, ap, ◌∙◌, subst, arith, ⊎_elim, ◌⊎◌, inl, inr}
use Rattle.std.specs.List.{list_any}
use Rattle.std.proofs.lemmas.Bool.{eqb-true, eqb-false, cases_lt}
use Rattle.std.proofs.lemmas.List.{take_all, take-append-le, length_push, take_more, length-take-le}
use Rattle.std.proofs.lemmas.List.Folds.{list_any-append}
use Rattle.lst_model.specs.declared.commits.Commit.{Commit}
use Rattle.lst_legal_runs.specs.Firsts.{IsFirst, first_after}

pub first_none : (test : Commit → Bool) → IsFirst test [] 0
first_none test = record { most = omega arith; by = λ begin. ((λ e. absurd (cc (e, nothing begin))), (λ h. absurd (omega (arith, h.0)))) }
  where
    nothing : (n : ℕ) → list_any test (take n []) ≡ false
    nothing zero = refl
    nothing (suc n) = refl

or_right : (b : Bool) → (b || (true || false)) ≡ true
or_right true = refl
or_right false = refl

or_left : (b : Bool) → (b || (false || false)) ≡ b
or_left true = refl
or_left false = refl

module _ (test : Commit → Bool) (front : List Commit) (commit : Commit) (first : ℕ) where
  early : (begin : ℕ) → begin ≤ length front → list_any test (take begin (front ++ commit ∷ [])) ≡ list_any test (take begin front)
  early begin le = ap (list_any test) (take-append-le begin front (commit ∷ []) le)

  late : (begin : ℕ) → length front < begin → list_any test (take begin (front ++ commit ∷ [])) ≡ (list_any test front || (test commit || false))
  late begin less = ap (list_any test) (take_all begin (front ++ commit ∷ []) (omega (arith, length_push front commit))) ∙ list_any-append test front (commit ∷ [])

  front_all : (begin : ℕ) → length front < begin → list_any test (take begin front) ≡ list_any test front
  front_all begin less = ap (list_any test) (take_all begin front (omega arith))

  pub first_push : IsFirst test front first → IsFirst test (front ++ commit ∷ []) (first_after (test commit) first (length front + 1))
  first_push is = by_zero (eqb first 0) (test commit) refl refl
    where
      most : first ≤ length front
      most = is.most

      longer : length (front ++ commit ∷ []) ≡ length front + 1
      longer = length_push front commit

      kept : (test commit ≡ false) ⊎ (0 < first) → IsFirst test (front ++ commit ∷ []) first
      kept why = record { most = omega (arith, most, longer); by = λ begin. by_place begin (cases begin) }
        where
          cases : (begin : ℕ) → (length front < begin) ⊎ (begin ≤ length front)
          cases begin = cases_lt (length front) begin

          by_place : (begin : ℕ) → (length front < begin) ⊎ (begin ≤ length front) → IsTrue (list_any test (take begin (front ++ commit ∷ []))) ↔ ((0 < first) × (first ≤ begin))
          by_place begin (inr le) = ((λ e. (is.by begin).0 (sym (early begin le) ∙ e)), (λ h. early begin le ∙ (is.by begin).1 h))
          by_place begin (inl less) = (
            (λ e. ⊎_elim
                (λ h. (is.by begin).0 (front_all begin less ∙ sym (or_left (list_any test front)) ∙ ap (λ (b : Bool). list_any test front || (b || false)) (sym h) ∙ sym (late begin less) ∙ e))
                (λ h. (h, omega (arith, most, less))) why),
            (λ h. late begin less ∙ ap (λ (b : Bool). b || (test commit || false)) (sym (front_all begin less) ∙ (is.by begin).1 h)),
          )

      found : first ≡ 0 → test commit ≡ true → IsFirst test (front ++ commit ∷ []) (length front + 1)
      found zero_yet passes = record { most = omega (arith, longer); by = λ begin. by_place begin (cases begin) }
        where
          cases : (begin : ℕ) → (length front < begin) ⊎ (begin ≤ length front)
          cases begin = cases_lt (length front) begin

          by_place : (begin : ℕ) → (length front < begin) ⊎ (begin ≤ length front) → IsTrue (list_any test (take begin (front ++ commit ∷ []))) ↔ ((0 < length front + 1) × (length front + 1 ≤ begin))
          by_place begin (inr le) = ((λ e. let h = (is.by begin).0 (sym (early begin le) ∙ e) in absurd (omega (arith, h.0, zero_yet))), (λ h. absurd (omega (arith, h.1, le))))
          by_place begin (inl less) = ((λ e. (omega arith, omega (arith, less))), (λ h. late begin less ∙ ap (λ (b : Bool). list_any test front || (b || false)) passes ∙ or_right (list_any test front)))

      by_zero : (z p : Bool) → eqb first 0 ≡ z → test commit ≡ p → IsFirst test (front ++ commit ∷ []) (cond (eqb first 0 && test commit) (length front + 1) first)
      by_zero true true z p = subst (IsFirst test (front ++ commit ∷ [])) (sym (ap (λ (b : Bool). cond (b && test commit) (length front + 1) first) z ∙ ap (λ (b : Bool). cond b (length front + 1) first) p)) (found (eqb-true first 0 z) p)
      by_zero true false z p = subst (IsFirst test (front ++ commit ∷ [])) (sym (ap (λ (b : Bool). cond (b && test commit) (length front + 1) first) z ∙ ap (λ (b : Bool). cond b (length front + 1) first) p)) (kept (inl p))
      by_zero false p z q = subst (IsFirst test (front ++ commit ∷ [])) (sym (ap (λ (b : Bool). cond (b && test commit) (length front + 1) first) z)) (kept (inr (above (eqb-false first 0 z))))
        where
          above : ¬ (first ≡ 0) → 0 < first
          above h = omega arith

-- the same at a commit that is read from a history
pub first_more : (test : Commit → Bool) (history : List Commit) (i : ℕ) (commit : Commit) (first now : ℕ) → i < length history → commit ≡ get_or history i commit → IsFirst test (take i history) first → now ≡ first_after (test commit) first (i + 1) → IsFirst test (take (i + 1) history) now
first_more test history i commit first now below read is next =
    subst (λ (cs : List Commit). IsFirst test cs now) (sym (take_more history i commit below ∙ ap (λ c. take i history ++ c ∷ []) (sym read)))
    (subst (IsFirst test (take i history ++ commit ∷ [])) (ap (λ n. first_after (test commit) first (n + 1)) (length-take-le i history (omega arith)) ∙ sym next)
    (first_push test (take i history) commit first is))
