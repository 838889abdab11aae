-- The keys that were written cover a table: any other key is absent.
use Rattle.std.proofs.Common.{◌≡◌, ℕ, Bool, true, false, cond, refl, sym, ap, ◌∙◌}
use Rattle.std.proofs.lemmas.Bool.{eqb-true}
use Rattle.std.specs.Prelude.{None, ◌==◌}
use Rattle.std.specs.List.{list_any}
use Rattle.std.specs.Ordering.{nat_cmp}
use Rattle.std.specs.BTreeMap.{is_at}
use Rattle.std.specs.BTreeSet.{BTreeSet, contains}
use Rattle.std.specs.FinMap.{get}
use Rattle.lst_model.specs.declared.acts.Write.{Write}
use Rattle.lst_model.specs.Tables.{Rows, applied, row_of}
use Rattle.lst_model.specs.Histories.{row_after}
use Rattle.lst_model.proofs.Folds.{get_applied}

abbrev pub Covers : BTreeSet ℕ → Rows → Type 0
Covers keys table = (key : ℕ) → contains nat_cmp keys key ≡ false → row_of table key ≡ None

-- the same keys
pub covers_same : (keys same : BTreeSet ℕ) (table : Rows) → same.keys ≡ keys.keys → Covers keys table → Covers same table
covers_same keys same table is covers key none = covers key (ap (list_any (is_at (nat_cmp key))) (sym is) ∙ none)

-- one key more
pub covers_more : (keys more : BTreeSet ℕ) (table : Rows) (key : ℕ) → ((q : ℕ) → contains nat_cmp more q ≡ cond (is_at (nat_cmp key) q) true (contains nat_cmp keys q)) → Covers keys table → Covers more table
covers_more keys more table key has covers q none = step (is_at (nat_cmp key) q) refl
  where
    step : (b : Bool) → is_at (nat_cmp key) q ≡ b → row_of table q ≡ None
    step true at = absurd (let both : true ≡ false = ap (λ b. cond b true (contains nat_cmp keys q)) (sym at) ∙ sym (has q) ∙ none in cc)
    step false at = covers q (ap (λ b. cond b true (contains nat_cmp keys q)) (sym at) ∙ sym (has q) ∙ none)

-- a write to one of the keys
pub covers_applied : (keys : BTreeSet ℕ) (table : Rows) (w : Write) → contains nat_cmp keys w.key ≡ true → Covers keys table → Covers keys (applied table w)
covers_applied keys table w here covers q none = get_applied table w q ∙ step (w.key == q) refl
  where
    step : (b : Bool) → (w.key == q) ≡ b → cond b (row_after (get table q) w.act) (get table q) ≡ None
    step true same = absurd (let both : true ≡ false = sym here ∙ ap (contains nat_cmp keys) (eqb-true w.key q same) ∙ none in cc)
    step false other = covers q none
