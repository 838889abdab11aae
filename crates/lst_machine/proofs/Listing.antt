-- The rows of keys, listed by rising key, are the entries of the table that has these rows.
use Rattle.std.proofs.Common.{◌≡◌, ℕ, Bool, true, false, cond, List, [], ◌∷◌, ◌++◌, refl, sym, ap, ◌∙◌, subst, append_assoc}
use Rattle.std.proofs.lemmas.Bool.{eqb-true}
use Rattle.std.proofs.lemmas.Map.Keys.{sorted_head, sorted_tail}
use Rattle.std.specs.Prelude.{Option, Some, None, ◌&&◌, ◌||◌, T}
use Rattle.std.specs.List.{list_any, AllByRecursion}
use Rattle.std.specs.List.Sorted.{IsStrictlySortedBy}
use Rattle.std.specs.declared.cmp.Ordering.TheVariants.{Less}
use Rattle.std.specs.Ordering.{nat_cmp, is_lt}
use Rattle.std.specs.BTreeMap.{is_at}
use Rattle.std.specs.FinMap.{find, is_sorted, entries, get, from_sorted, entries-from_sorted, get-from_sorted, same_map, nat_cmp-IsAntisymmetric}
use Rattle.std.specs.FinMap.Entries.{below_all}
use Rattle.std.specs.Cmp.{nat_cmp_total, unsigned_tied}
use Rattle.lst_model.specs.Cells.{Cell}
use Rattle.lst_model.specs.Tables.{Rows}
use Rattle.lst_machine.specs.Listings.{listed_row, listed}

both : (a b : Bool) → T a → T b → T (a && b)
both true b one two = two
both false b one two = absurd one

module _ (row : ℕ → Option (List Cell)) where
  below : (x : ℕ) (keys : List ℕ) → AllByRecursion (λ y. nat_cmp x y ≡ Less) keys → T (below_all nat_cmp x (listed row keys))
  below x [] all = tt
  below x (key ∷ keys) all = step (below x keys all.1) (row key)
    where
      step : T (below_all nat_cmp x (listed row keys)) → (found : Option (List Cell)) → T (below_all nat_cmp x (listed_row key found (listed row keys)))
      step rest None = rest
      step rest (Some cells) = both (is_lt (nat_cmp x key)) (below_all nat_cmp x (listed row keys)) (subst (λ o. T (is_lt o)) (sym all.0) tt) rest

  rises : (keys : List ℕ) → IsStrictlySortedBy nat_cmp keys → T (is_sorted nat_cmp (listed row keys))
  rises [] sorted = tt
  rises (key ∷ keys) sorted = step (rises keys (sorted_tail nat_cmp key keys sorted)) (row key)
    where
      step : T (is_sorted nat_cmp (listed row keys)) → (found : Option (List Cell)) → T (is_sorted nat_cmp (listed_row key found (listed row keys)))
      step rest None = rest
      step rest (Some cells) = both (below_all nat_cmp key (listed row keys)) (is_sorted nat_cmp (listed row keys)) (below key keys (sorted_head nat_cmp key keys sorted)) rest

  none : (b : Bool) → ◌≡◌ {A = Option (List Cell)} (cond b None None) None
  none true = refl
  none false = refl

  found_in : (keys : List ℕ) (q : ℕ) → find nat_cmp q (listed row keys) ≡ cond (list_any (is_at (nat_cmp q)) keys) (row q) None
  found_in [] q = refl
  found_in (key ∷ keys) q = step (row key) refl (is_at (nat_cmp q) key) refl (found_in keys q)
    where
      same_key : is_at (nat_cmp q) key ≡ true → row q ≡ row key
      same_key is = ap row (eqb-true _ _ (sym (unsigned_tied q key) ∙ is))

      step : (found : Option (List Cell)) → row key ≡ found → (b : Bool) → is_at (nat_cmp q) key ≡ b → find nat_cmp q (listed row keys) ≡ cond (list_any (is_at (nat_cmp q)) keys) (row q) None
          → find nat_cmp q (listed_row key found (listed row keys)) ≡ cond (b || list_any (is_at (nat_cmp q)) keys) (row q) None
      step None is true at rest = rest ∙ ap (λ r. cond (list_any (is_at (nat_cmp q)) keys) r None) (same_key at ∙ is) ∙ none (list_any (is_at (nat_cmp q)) keys) ∙ sym (same_key at ∙ is)
      step None is false at rest = rest
      step (Some cells) is true at rest = ap (λ b. cond b (Some cells) (find nat_cmp q (listed row keys))) at ∙ sym (same_key at ∙ is)
      step (Some cells) is false at rest = ap (λ b. cond b (Some cells) (find nat_cmp q (listed row keys))) at ∙ rest

  -- the table that has these rows, and no other ones
  pub listed_entries : (table : Rows) (keys : List ℕ) → IsStrictlySortedBy nat_cmp keys → ((q : ℕ) → get table q ≡ row q) → ((q : ℕ) → list_any (is_at (nat_cmp q)) keys ≡ false → row q ≡ None)
      → listed row keys ≡ entries table
  listed_entries table keys sorted same covers =
      let rising = rises keys sorted in
      sym (entries-from_sorted nat_cmp (listed row keys) rising)
      ∙ ap entries (same_map nat_cmp_total nat_cmp-IsAntisymmetric (from_sorted (listed row keys)) table (λ q.
      get-from_sorted nat_cmp (listed row keys) q rising ∙ found_in keys q ∙ step q (list_any (is_at (nat_cmp q)) keys) refl ∙ sym (same q)))
    where
      step : (q : ℕ) (b : Bool) → list_any (is_at (nat_cmp q)) keys ≡ b → cond b (row q) None ≡ row q
      step q true is = refl
      step q false is = sym (covers q is)

  before_others : (key : ℕ) (found : Option (List Cell)) (rest : List (ℕ × List Cell)) → listed_row key found [] ++ rest ≡ listed_row key found rest
  before_others key None rest = refl
  before_others key (Some cells) rest = refl

  -- a loop over the keys: one more of them
  pub listed_next : (rows more : List (ℕ × List Cell)) (key : ℕ) (found : Option (List Cell)) (rest all : List ℕ) → more ≡ rows ++ listed_row key found [] → found ≡ row key → rows ++ listed row (key ∷ rest) ≡ listed row all
      → more ++ listed row rest ≡ listed row all
  listed_next rows more key found rest all one is so_far =
      ap (λ (xs : List (ℕ × List Cell)). xs ++ listed row rest) one
      ∙ append_assoc rows (listed_row key found []) (listed row rest)
      ∙ ap (λ (xs : List (ℕ × List Cell)). rows ++ xs) (before_others key found (listed row rest))
      ∙ ap (λ (o : Option (List Cell)). rows ++ listed_row key o (listed row rest)) is
      ∙ so_far

  ends : (xs : List (ℕ × List Cell)) → xs ++ [] ≡ xs
  ends [] = refl
  ends (x ∷ xs) = ap (λ rest. x ∷ rest) (ends xs)

  -- and its end
  pub listed_all : (rows : List (ℕ × List Cell)) (rest all : List ℕ) → rest ≡ [] → rows ++ listed row rest ≡ listed row all → rows ≡ listed row all
  listed_all rows rest all none so_far = sym (ends rows) ∙ ap (λ keys. rows ++ listed row keys) (sym none) ∙ so_far
