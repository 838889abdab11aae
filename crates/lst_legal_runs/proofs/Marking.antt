-- One number set.
use Rattle.std.proofs.Common.{◌≡◌, ◌↔◌, IsTrue, ℕ, ◌<◌, Bool, true, false, cond, ◌&&◌, eqb, ltb, Option, Some, Ordering, refl, sym, ap, ◌∙◌, arith}
use Rattle.std.specs.Prelude.{unwrap_or}
use Rattle.std.specs.declared.cmp.Ordering.TheVariants.{Less, Equal, Greater}
use Rattle.std.specs.Ordering.{nat_cmp, ordering_then, is_eq}
use Rattle.std.specs.BTreeMap.{is_at}
use Rattle.std.proofs.lemmas.Bool.{ltb-true, ne_eqb}
use Rattle.lst_legal_runs.specs.Marks.{triple_cmp, are_same}

is_eq-nat_cmp : (x y : ℕ) → is_eq (nat_cmp x y) ≡ eqb x y
is_eq-nat_cmp x y = by_less (ltb x y) refl
  where
    by_equal : (b : Bool) → is_eq (cond b Equal Greater) ≡ b
    by_equal true = refl
    by_equal false = refl

    by_less : (b : Bool) → ltb x y ≡ b → is_eq (cond b Less (cond (eqb x y) Equal Greater)) ≡ eqb x y
    by_less true less = let below : x < y = ltb-true x y less in sym (ne_eqb x y (λ e. absurd (omega arith)))
    by_less false more = by_equal (eqb x y)

is_eq-then : (one other : Ordering) → is_eq (ordering_then one other) ≡ (is_eq one && is_eq other)
is_eq-then Less other = refl
is_eq-then Equal other = refl
is_eq-then Greater other = refl

pub is_at-triple : (first second third a b c : ℕ) → is_at (triple_cmp (first, second, third)) (a, b, c) ≡ are_same first second third a b c
is_at-triple first second third a b c =
    is_eq-then (ordering_then (nat_cmp first a) (nat_cmp second b)) (nat_cmp third c)
    ∙ ap (λ (t : Bool). t && is_eq (nat_cmp third c)) (is_eq-then (nat_cmp first a) (nat_cmp second b) ∙ ap (λ (t : Bool). t && is_eq (nat_cmp second b)) (is_eq-nat_cmp first a) ∙ ap (λ (t : Bool). eqb first a && t) (is_eq-nat_cmp second b))
    ∙ ap (λ (t : Bool). (eqb first a && eqb second b) && t) (is_eq-nat_cmp third c)

pub number_set : (b same : Bool) (number : ℕ) (old : Option ℕ) → b ≡ same → unwrap_or (cond b (Some number) old) 0 ≡ cond same number (unwrap_or old 0)
number_set true same number old is = ap (λ t. cond t number (unwrap_or old 0)) is
number_set false same number old is = ap (λ t. cond t number (unwrap_or old 0)) is

-- where nothing is marked, nothing was seen
pub nothing_marked : {number : ℕ} → number ≡ 0 → (0 < number) ↔ IsTrue false
nothing_marked {number} none = ((λ h. absurd (omega (arith, none, h))), (λ e. absurd (cc)))
