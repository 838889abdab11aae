-- A key more among those that are noted.
use Rattle.std.proofs.Common.{◌≡◌, ℕ, ◌<◌, ◌≤◌, Bool, true, false, cond, eqb, List, length, get_or, set, nat_lt, refl, sym, ap, ◌∙◌, arith, replicate}
use Rattle.std.specs.Ordering.{nat_cmp}
use Rattle.std.specs.BTreeMap.{is_at}
use Rattle.std.specs.BTreeSet.{BTreeSet, contains}
use Rattle.std.specs.Cmp.{unsigned_tied}
use Rattle.std.proofs.lemmas.Bool.{eqb-true, eqb-false, ne_eqb, lt-ltb, ltb-true}
use Rattle.std.proofs.lemmas.List.{get_or-set_same, get_or-set_other, length-set, get_or-replicate, length-replicate}

abbrev noted : List Bool → BTreeSet ℕ → ℕ → Bool
noted flags others key = cond (nat_lt key (length flags)) (get_or flags key false) (contains nat_cmp others key)

pub none_noted : (count : ℕ) (flags : List Bool) (others : BTreeSet ℕ) (key : ℕ) → flags ≡ replicate count false → contains nat_cmp others key ≡ false → noted flags others key ≡ false
none_noted count flags others key are none = by (nat_lt key (length flags)) refl
  where
    by : (low : Bool) → nat_lt key (length flags) ≡ low → cond low (get_or flags key false) (contains nat_cmp others key) ≡ false
    by false is = none
    by true is =
        let below : key < length flags = ltb-true _ _ is in
        let long : length flags ≡ count = ap length are ∙ length-replicate count false in
        ap (λ (fs : List Bool). get_or fs key false) are ∙ get_or-replicate count key false false (omega (arith, below, long))

-- a key with a flag
pub flag_set : (flags : List Bool) (others : BTreeSet ℕ) (key other : ℕ) → key < length flags → noted (set flags key true) others other ≡ cond (eqb key other) true (noted flags others other)
flag_set flags others key other low = by (eqb key other) refl
  where
    by : (same : Bool) → eqb key other ≡ same → noted (set flags key true) others other ≡ cond same true (noted flags others other)
    by true is =
        let here : key ≡ other = eqb-true _ _ is in
        ap (noted (set flags key true) others) (sym here)
        ∙ ap (λ b. cond b (get_or (set flags key true) key false) (contains nat_cmp others key)) (lt-ltb key (length (set flags key true)) (omega (arith, low, length-set flags key true)))
        ∙ get_or-set_same flags key true false low
    by false is =
        ap (λ n. cond (nat_lt other n) (get_or (set flags key true) other false) (contains nat_cmp others other)) (length-set flags key true)
        ∙ ap (λ b. cond (nat_lt other (length flags)) b (contains nat_cmp others other)) (get_or-set_other flags key other true false (λ e. eqb-false _ _ is (sym e)))

-- another one
pub set_more : (flags : List Bool) (others more : BTreeSet ℕ) (key other : ℕ) → length flags ≤ key → contains nat_cmp more other ≡ cond (is_at (nat_cmp key) other) true (contains nat_cmp others other)
    → noted flags more other ≡ cond (eqb key other) true (noted flags others other)
set_more flags others more key other high is = by (nat_lt other (length flags)) refl
  where
    by : (low : Bool) → nat_lt other (length flags) ≡ low → cond low (get_or flags other false) (contains nat_cmp more other) ≡ cond (eqb key other) true (cond low (get_or flags other false) (contains nat_cmp others other))
    by true e =
        let below : other < length flags = ltb-true _ _ e in
        ap (λ b. cond b true (get_or flags other false)) (sym (apart key other (omega (arith, below, high))))
      where
        apart : (a b : ℕ) → b < a → eqb a b ≡ false
        apart a b less = ne_eqb a b (λ same. absurd (omega (arith, less, same)))
    by false e = is ∙ ap (λ b. cond b true (contains nat_cmp others other)) (unsigned_tied key other)
