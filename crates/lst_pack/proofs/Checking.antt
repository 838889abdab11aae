-- The first word names the form, and words in a form stand for a list of values.
use Rattle.std.proofs.Common.{◌≡◌, ℕ, zero, suc, ◌+◌, ◌/◌, ◌%◌, ◌<◌, ◌≤◌, List, [], ◌∷◌, length, slice_index, refl, ap, arith, subst, sym, ◌∙◌}
use Rattle.lst_pack.specs.declared.forms.Form.{Form}
use Rattle.lst_pack.specs.declared.forms.Form.TheVariants.{Constant, Dictionary, Runs, Reference, Plain}
use Rattle.lst_pack.specs.Forms.{form_word, form_words, run_value, run_end, AreRuns, HasForm, StandsAt, PacksAs, IsPacked}
use Rattle.lst_pack.proofs.Runs.{in_one, one_run}

-- two forms with one word are one
pub same_form : (form other : Form) → form_word form ≡ form_word other → form ≡ other
same_form Constant Constant e = refl
same_form Constant (Dictionary size) e = absurd (omega arith)
same_form Constant (Runs runs) e = absurd (omega arith)
same_form Constant (Reference width) e = absurd (omega arith)
same_form Constant Plain e = absurd (omega arith)
same_form (Dictionary size) Constant e = absurd (omega arith)
same_form (Dictionary size) (Dictionary more) e = ap (λ n. Dictionary n) (omega arith)
same_form (Dictionary size) (Runs runs) e = absurd (omega arith)
same_form (Dictionary size) (Reference width) e = absurd (omega arith)
same_form (Dictionary size) Plain e = absurd (omega arith)
same_form (Runs runs) Constant e = absurd (omega arith)
same_form (Runs runs) (Dictionary size) e = absurd (omega arith)
same_form (Runs runs) (Runs more) e = ap (λ n. Runs n) (omega arith)
same_form (Runs runs) (Reference width) e = absurd (omega arith)
same_form (Runs runs) Plain e = absurd (omega arith)
same_form (Reference width) Constant e = absurd (omega arith)
same_form (Reference width) (Dictionary size) e = absurd (omega arith)
same_form (Reference width) (Runs runs) e = absurd (omega arith)
same_form (Reference width) (Reference more) e = ap (λ n. Reference n) (omega arith)
same_form (Reference width) Plain e = absurd (omega arith)
same_form Plain Constant e = absurd (omega arith)
same_form Plain (Dictionary size) e = absurd (omega arith)
same_form Plain (Runs runs) e = absurd (omega arith)
same_form Plain (Reference width) e = absurd (omega arith)
same_form Plain Plain e = refl

-- packed words have the form that their first word names
pub form_named : (words : List ℕ) (form : Form) → slice_index words 0 ≡ form_word form → IsPacked words → HasForm form words
form_named words form first packed = let is = packed.1 in subst (λ (f : Form). HasForm f words) (same_form is.form form (sym is.is.first ∙ first)) is.is.has

-- of constant and plain ones it is the kind alone
no_number_of : (words values : List ℕ) (form : Form) → PacksAs form words values → slice_index words 0 % 8 < 2 → slice_index words 0 / 8 ≡ 0
no_number_of words values Constant p low = omega (arith, p.first)
no_number_of words values (Dictionary size) p low = absurd (omega (arith, p.first))
no_number_of words values (Runs runs) p low = absurd (omega (arith, p.first))
no_number_of words values (Reference width) p low = absurd (omega (arith, p.first))
no_number_of words values Plain p low = omega (arith, p.first)

pub no_number : (words : List ℕ) → IsPacked words → slice_index words 0 % 8 < 2 → slice_index words 0 / 8 ≡ 0
no_number words packed low = no_number_of words packed.0 packed.1.form packed.1.is low

-- each end of a run is above the one before it
pub end_low : (words : List ℕ) (runs run end : ℕ) → AreRuns words runs → run < runs → (run ≡ 0 → end ≡ 0) → ((before : ℕ) → run ≡ before + 1 → end ≡ run_end words before) → end < run_end words run
end_low words runs zero end are low none some = let e = none refl in omega (arith, are.begins)
end_low words runs (suc before) end are low none some = let s : suc before ≡ before + 1 = omega arith in let e = some before s in let f = ap (λ n. run_end words n) s in omega (arith, are.rising before (omega arith))

-- a list of which each item is as it should be
collected : (P : ℕ → ℕ → Type 0) (n : ℕ) → ((i : ℕ) → i < n → (v : ℕ) × P i v) → (vs : List ℕ) × (length vs ≡ n) × ((i : ℕ) → i < n → P i (slice_index vs i))
collected P zero f = ([], refl, λ i low. absurd (omega arith))
collected P (suc n) f = let rest = collected (λ i v. P (suc i) v) n (λ i low. f (suc i) (omega arith)) in let first = f 0 (omega arith) in
    (first.0 ∷ rest.0, ap suc rest.1, each first.0 rest.0 first.1 rest.2)
  where
    each : (v : ℕ) (vs : List ℕ) → P 0 v → ((i : ℕ) → i < n → P (suc i) (slice_index vs i)) → (i : ℕ) → i < suc n → P i (slice_index (v ∷ vs) i)
    each v vs here later zero low = here
    each v vs here later (suc i) low = later i (omega arith)

-- some value stands at each place
stands : (form : Form) (words : List ℕ) → HasForm form words → (place : ℕ) → place < 256 → (value : ℕ) × StandsAt form words place value
stands Constant words has place low = (_, refl)
stands (Dictionary size) words has place low = (_, refl)
stands (Runs runs) words has place low = let one = in_one words runs place has low in (run_value words one.0, λ run other. ap (λ n. run_value words n) (one_run words runs place one.0 run has one.1 other))
stands (Reference width) words has place low = (_, refl)
stands Plain words has place low = (_, refl)

-- words with what makes them a form are packed
pub packed_as : (words : List ℕ) (form : Form) → slice_index words 0 ≡ form_word form → form_words form ≤ length words → HasForm form words → IsPacked words
packed_as words form first long has = let values = collected (λ place value. StandsAt form words place value) 256 (stands form words has) in
    (values.0, record { form = form; is = record { first = first; long = long; has = has; full = values.1; stands = values.2 } })
