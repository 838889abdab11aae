-- A write that joins others by key.
use Rattle.std.proofs.Common.{◌≡◌, ℕ, zero, suc, ◌+◌, ◌-◌, ◌<◌, ◌≤◌, Bool, true, false, List, [], ◌∷◌, ◌++◌, cond, length, take, drop, get_or, refl, sym, ap, ◌∙◌, subst, arith}
use Rattle.std.proofs.lemmas.Bool.{ltb-true, ltb-false}
use Rattle.std.specs.Prelude.{nat_lt}
use Rattle.lst_model.specs.declared.acts.Write.{Write}
use Rattle.lst_model.specs.Histories.{StandFrom, StandByKey, joined}

-- each is of the first key at least
least : (from : ℕ) (ws : List Write) (i : ℕ) (d : Write) → StandFrom from ws → i < length ws → from ≤ (get_or ws i d).key
least from [] i d stand low = absurd (omega arith)
least from (w ∷ ws) zero d stand low = stand.0
least from (w ∷ ws) (suc i) d stand low = let rest = least w.key ws i d stand.1 (omega arith) in let first = stand.0 in omega (arith, rest, first)

-- behind all writes of keys up to its own, before those of others
pub joined_at : (from : ℕ) (ws : List Write) (p : ℕ) (new : Write) → StandFrom from ws → p ≤ length ws → (0 < p → (get_or ws (p - 1) new).key ≤ new.key) → (p < length ws → new.key < (get_or ws p new).key)
    → joined ws new ≡ take p ws ++ new ∷ drop p ws
joined_at from [] zero new stand within before behind = refl
joined_at from [] (suc p) new stand within before behind = absurd (omega arith)
joined_at from (w ∷ ws) zero new stand within before behind = sooner (nat_lt new.key w.key) refl
  where
    sooner : (b : Bool) → nat_lt new.key w.key ≡ b → cond b (new ∷ w ∷ ws) (w ∷ joined ws new) ≡ new ∷ w ∷ ws
    sooner true e = refl
    sooner false e = let low = behind (omega arith) in absurd (omega (arith, low, ltb-false new.key w.key e))
joined_at from (w ∷ ws) (suc p) new stand within before behind =
    later (nat_lt new.key w.key) refl (joined_at w.key ws p new stand.1 (omega (arith, within)) rest_before (λ low. behind (omega (arith, low))))
  where
    first_low : w.key ≤ new.key
    first_low = at p refl
      where
        at : (q : ℕ) → p ≡ q → w.key ≤ new.key
        at zero e = let low = before (omega arith) in subst (λ (n : ℕ). (get_or (w ∷ ws) n new).key ≤ new.key) (let z : suc p - 1 ≡ 0 = omega (arith, e) in z) low
        at (suc q) e =
            let low = before (omega arith) in
            let last : (get_or ws q new).key ≤ new.key = subst (λ (n : ℕ). (get_or (w ∷ ws) n new).key ≤ new.key) (let z : suc p - 1 ≡ suc q = omega (arith, e) in z) low in
            let high = least w.key ws q new stand.1 (omega (arith, within, e)) in
            omega (arith, last, high)

    rest_before : 0 < p → (get_or ws (p - 1) new).key ≤ new.key
    rest_before some =
        let low = before (omega arith) in
        let place : suc p - 1 ≡ suc (p - 1) = omega (arith, some) in
        subst (λ (n : ℕ). (get_or (w ∷ ws) n new).key ≤ new.key) place low

    later : (b : Bool) → nat_lt new.key w.key ≡ b → joined ws new ≡ take p ws ++ new ∷ drop p ws → cond b (new ∷ w ∷ ws) (w ∷ joined ws new) ≡ w ∷ (take p ws ++ new ∷ drop p ws)
    later true e rest = absurd (omega (arith, first_low, ltb-true new.key w.key e))
    later false e rest = ap (λ (zs : List Write). w ∷ zs) rest
