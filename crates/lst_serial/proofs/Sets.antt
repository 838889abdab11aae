-- Sets of keys, by the list of their keys.
use Rattle.std.proofs.Common.{◌≡◌, ◌≢◌, ℕ, ◌+◌, ◌<◌, List, [], ◌∷◌, ◌++◌, Bool, true, false, length, drop, get_or, refl, sym, subst, ap, ◌∙◌, true≢false}
use Rattle.std.specs.Prelude.{◌||◌}
use Rattle.std.proofs.Math.Bool.{or-true}
use Rattle.std.proofs.lemmas.Bool.{eqb-true, eq-eqb}
use Rattle.std.proofs.lemmas.List.{drop_more}
use Rattle.std.proofs.lemmas.List.Elements.{All-head, All-tail}
use Rattle.std.proofs.lemmas.List.Folds.{list_any-append}
use Rattle.std.specs.List.{All, list_any}
use Rattle.std.specs.Ordering.{nat_cmp}
use Rattle.std.specs.BTreeMap.{is_at}
use Rattle.std.specs.BTreeSet.{Updates}
use Rattle.std.specs.Cmp.{unsigned_tied}
use Rattle.lst_serial.specs.declared.keys.KeySet.{KeySet}
use Rattle.lst_serial.specs.Keys.{has, Joins, SameKeys}

-- ---- lists of keys

-- the key at hand, and those behind it
pub left : (xs : List ℕ) (i x : ℕ) → i < length xs → x ≡ get_or xs i x → drop i xs ≡ x ∷ drop (i + 1) xs
left xs i x low is = drop_more xs i x low ∙ ap (λ (y : ℕ). y ∷ drop (i + 1) xs) (sym is)

pub same_at : (key other : ℕ) → is_at (nat_cmp key) other ≡ true → key ≡ other
same_at key other is = eqb-true key other (sym (unsigned_tied key other) ∙ is)

pub at_itself : (key : ℕ) → is_at (nat_cmp key) key ≡ true
at_itself key = unsigned_tied key key ∙ eq-eqb key key refl

pub apart : (key other : ℕ) → other ≢ key → is_at (nat_cmp key) other ≡ false
apart key other ne = choose (is_at (nat_cmp key) other) refl
  where
    choose : (b : Bool) → is_at (nat_cmp key) other ≡ b → is_at (nat_cmp key) other ≡ false
    choose true is = absurd (ne (sym (same_at key other is)))
    choose false is = is

pub any_front : (key : ℕ) (xs ys : List ℕ) → list_any (is_at (nat_cmp key)) xs ≡ true → list_any (is_at (nat_cmp key)) (xs ++ ys) ≡ true
any_front key xs ys e = list_any-append (is_at (nat_cmp key)) xs ys ∙ ap (λ (b : Bool). b || list_any (is_at (nat_cmp key)) ys) e

pub any_behind : (key : ℕ) (xs ys : List ℕ) → list_any (is_at (nat_cmp key)) ys ≡ true → list_any (is_at (nat_cmp key)) (xs ++ ys) ≡ true
any_behind key xs ys e = list_any-append (is_at (nat_cmp key)) xs ys ∙ (ap (λ (b : Bool). list_any (is_at (nat_cmp key)) xs || b) e ∙ or-true (list_any (is_at (nat_cmp key)) xs))

pub any_last : (key : ℕ) (xs : List ℕ) → list_any (is_at (nat_cmp key)) (xs ++ key ∷ []) ≡ true
any_last key xs = any_behind key xs (key ∷ []) (ap (λ (b : Bool). b || false) (at_itself key))

-- one key more is no matter to another
pub any_without : (other key : ℕ) (xs : List ℕ) → is_at (nat_cmp other) key ≡ false → list_any (is_at (nat_cmp other)) (xs ++ key ∷ []) ≡ list_any (is_at (nat_cmp other)) xs
any_without other key [] none = ap (λ (b : Bool). b || false) none
any_without other key (x ∷ xs) none = ap (λ (b : Bool). is_at (nat_cmp other) x || b) (any_without other key xs none)

-- a property of the last key, and of another one where it is one of those before, is one of each
pub last_or_before : (P : ℕ → Type 0) (xs : List ℕ) (key other : ℕ) → P key → (list_any (is_at (nat_cmp other)) xs ≡ true → P other) → list_any (is_at (nat_cmp other)) (xs ++ key ∷ []) ≡ true → P other
last_or_before P xs key other last before was = choose (is_at (nat_cmp other) key) refl
  where
    choose : (b : Bool) → is_at (nat_cmp other) key ≡ b → P other
    choose true is = subst P (sym (same_at other key is)) last
    choose false is = before (sym (any_without other key xs is) ∙ was)

-- a property of all keys of the list is one of each key that it has
pub each_has : (P : ℕ → Type 0) (keys : List ℕ) → All P keys → (key : ℕ) → list_any (is_at (nat_cmp key)) keys ≡ true → P key
each_has P [] all key e = absurd (true≢false (sym e))
each_has P (x ∷ keys) all key e = step (is_at (nat_cmp key) x) refl (each_has P keys (All-tail P x keys all) key) e
  where
    step : (b : Bool) → is_at (nat_cmp key) x ≡ b → (list_any (is_at (nat_cmp key)) keys ≡ true → P key) → (b || list_any (is_at (nat_cmp key)) keys) ≡ true → P key
    step true is on f = subst P (sym (same_at key x is)) (All-head P x keys all)
    step false is on f = on f

-- ---- sets

pub has_already : (set : KeySet) (key : ℕ) → list_any (is_at (nat_cmp key)) set.few.items ≡ true → Joins set set key
has_already set key is = record { here = any_front key set.few.items set.keys.keys is; others = λ other ne. refl }

-- one of the few more
pub joined_few : (old new : KeySet) (key : ℕ) → new.few.items ≡ old.few.items ++ key ∷ [] → new.keys.keys ≡ old.keys.keys → Joins old new key
joined_few old new key few same = record {
  here = any_front key new.few.items new.keys.keys (subst (λ (xs : List ℕ). list_any (is_at (nat_cmp key)) xs ≡ true) (sym few) (any_last key old.few.items));
  others = λ other ne. let is = is_at (nat_cmp other) in
      (list_any-append is new.few.items new.keys.keys
      ∙ ap (λ (xs : List ℕ). list_any is new.few.items || list_any is xs) same)
      ∙ (ap (λ (b : Bool). b || list_any is old.keys.keys) (ap (list_any is) few ∙ any_without other key old.few.items (apart other key (λ e. ne (sym e))))
      ∙ sym (list_any-append is old.few.items old.keys.keys));
}

-- one of the others more
pub joined : (old new : KeySet) (key : ℕ) → new.few.items ≡ old.few.items → Updates nat_cmp old.keys new.keys key true → Joins old new key
joined old new key few u = record {
  here = any_behind key new.few.items new.keys.keys u.1;
  others = λ other ne. let is = is_at (nat_cmp other) in
      (list_any-append is new.few.items new.keys.keys
      ∙ ap (λ (xs : List ℕ). list_any is xs || list_any is new.keys.keys) few)
      ∙ (ap (λ (b : Bool). list_any is old.few.items || b) (u.2 other (apart key other ne))
      ∙ sym (list_any-append is old.few.items old.keys.keys));
}

pub empty_has : (set : KeySet) → set.few.items ≡ [] → set.keys.keys ≡ [] → (key : ℕ) → has set key ≡ false
empty_has set few none key = ap (λ (xs : List ℕ). list_any (is_at (nat_cmp key)) (xs ++ set.keys.keys)) few ∙ ap (list_any (is_at (nat_cmp key))) none

pub same_has : (old new : KeySet) → new.few.items ≡ old.few.items → new.keys.keys ≡ old.keys.keys → SameKeys old new
same_has old new few e key = ap (λ (xs : List ℕ). list_any (is_at (nat_cmp key)) (xs ++ new.keys.keys)) few ∙ ap (λ (xs : List ℕ). list_any (is_at (nat_cmp key)) (old.few.items ++ xs)) e
