-- What the first word of a packed page says of the others.
use Rattle.std.proofs.Common.{◌≡◌, ℕ, ◌+◌, ◌*◌, ◌/◌, ◌%◌, ◌^◌, ◌<◌, inl, inr, List, length, slice_index, refl, ap, arith, subst, sym, ◌∙◌}
use Rattle.std.proofs.lemmas.Grind.{same_number_lists}
use Rattle.lst_pack.specs.declared.forms.Form.{Form}
use Rattle.lst_pack.specs.declared.forms.Form.TheVariants.{Constant, Dictionary, Runs, Reference, Plain}
use Rattle.lst_pack.specs.Forms.{number_at, code_at, difference_at, IsWidth, PacksAs, Packs}
use Rattle.lst_pack.specs.Laws.{StandsForOne, RestIsFree, ZerosAreZeros}
use Rattle.lst_pack.proofs.Numbers.{number_of_page, word_within}
use Rattle.lst_pack.proofs.Runs.{in_one}

-- two lists of 256 values are one where each place has its value
pub same_page : (out values : List ℕ) → length out ≡ 256 → length values ≡ 256 → ((place : ℕ) → place < 256 → slice_index out place ≡ slice_index values place) → out ≡ values
same_page out values long full each = same_number_lists out values (long ∙ sym full) (λ k h. each k (omega arith))

runs_of : (words values : List ℕ) (form : Form) → PacksAs form words values → slice_index words 0 % 8 ≡ 3 → PacksAs (Runs (slice_index words 0 / 8)) words values
runs_of words values Constant p e = absurd (omega (arith, p.first))
runs_of words values (Dictionary size) p e = absurd (omega (arith, p.first))
runs_of words values (Runs runs) p e = let n : runs ≡ slice_index words 0 / 8 = omega (arith, p.first) in subst (λ (n : ℕ). PacksAs (Runs n) words values) n p
runs_of words values (Reference width) p e = absurd (omega (arith, p.first))
runs_of words values Plain p e = absurd (omega (arith, p.first))

pub as_runs : (words values : List ℕ) → Packs words values → slice_index words 0 % 8 ≡ 3 → PacksAs (Runs (slice_index words 0 / 8)) words values
as_runs words values p e = runs_of words values p.form p.is e

reference_of : (words values : List ℕ) (form : Form) → PacksAs form words values → slice_index words 0 % 8 ≡ 4 → PacksAs (Reference (slice_index words 0 / 8)) words values
reference_of words values Constant p e = absurd (omega (arith, p.first))
reference_of words values (Dictionary size) p e = absurd (omega (arith, p.first))
reference_of words values (Runs runs) p e = absurd (omega (arith, p.first))
reference_of words values (Reference width) p e = let n : width ≡ slice_index words 0 / 8 = omega (arith, p.first) in subst (λ (n : ℕ). PacksAs (Reference n) words values) n p
reference_of words values Plain p e = absurd (omega (arith, p.first))

pub as_reference : (words values : List ℕ) → Packs words values → slice_index words 0 % 8 ≡ 4 → PacksAs (Reference (slice_index words 0 / 8)) words values
as_reference words values p e = reference_of words values p.form p.is e

constant_of : (words values : List ℕ) (form : Form) → PacksAs form words values → slice_index words 0 % 8 ≡ 1 → PacksAs Constant words values
constant_of words values Constant p e = p
constant_of words values (Dictionary size) p e = absurd (omega (arith, p.first))
constant_of words values (Runs runs) p e = absurd (omega (arith, p.first))
constant_of words values (Reference width) p e = absurd (omega (arith, p.first))
constant_of words values Plain p e = absurd (omega (arith, p.first))

dictionary_of : (words values : List ℕ) (form : Form) → PacksAs form words values → slice_index words 0 % 8 ≡ 2 → PacksAs (Dictionary (slice_index words 0 / 8)) words values
dictionary_of words values Constant p e = absurd (omega (arith, p.first))
dictionary_of words values (Dictionary size) p e = let n : size ≡ slice_index words 0 / 8 = omega (arith, p.first) in subst (λ (n : ℕ). PacksAs (Dictionary n) words values) n p
dictionary_of words values (Runs runs) p e = absurd (omega (arith, p.first))
dictionary_of words values (Reference width) p e = absurd (omega (arith, p.first))
dictionary_of words values Plain p e = absurd (omega (arith, p.first))

plain_of : (words values : List ℕ) (form : Form) → PacksAs form words values → slice_index words 0 % 8 ≡ 0 → PacksAs Plain words values
plain_of words values Constant p e = absurd (omega (arith, p.first))
plain_of words values (Dictionary size) p e = absurd (omega (arith, p.first))
plain_of words values (Runs runs) p e = absurd (omega (arith, p.first))
plain_of words values (Reference width) p e = absurd (omega (arith, p.first))
plain_of words values Plain p e = p

one_of : (words one other : List ℕ) (form : Form) → PacksAs form words one → Packs words other → one ≡ other
one_of words one other Constant p r = let q = constant_of words other r.form r.is (omega (arith, p.first)) in same_page one other p.full q.full (λ place low. p.stands place low ∙ sym (q.stands place low))
one_of words one other (Dictionary size) p r =
    let q = dictionary_of words other r.form r.is (omega (arith, p.first)) in
    let o = dictionary_of words one (Dictionary size) p (omega (arith, p.first)) in
    same_page one other p.full q.full (λ place low. o.stands place low ∙ sym (q.stands place low))
one_of words one other (Runs runs) p r =
    let q = runs_of words other r.form r.is (omega (arith, p.first)) in
    let o = runs_of words one (Runs runs) p (omega (arith, p.first)) in
    same_page one other p.full q.full (λ place low. let run = in_one words _ place o.has low in o.stands place low run.0 run.1 ∙ sym (q.stands place low run.0 run.1))
one_of words one other (Reference width) p r =
    let q = reference_of words other r.form r.is (omega (arith, p.first)) in
    let o = reference_of words one (Reference width) p (omega (arith, p.first)) in
    same_page one other p.full q.full (λ place low. o.stands place low ∙ sym (q.stands place low))
one_of words one other Plain p r = let q = plain_of words other r.form r.is (omega (arith, p.first)) in same_page one other p.full q.full (λ place low. p.stands place low ∙ sym (q.stands place low))

pub stands_for_one : StandsForOne
stands_for_one words one other p q = one_of words one other p.form p.is q

number_same : (words others : List ℕ) (from width place : ℕ) → IsWidth width → place < 256 → ((word : ℕ) → word < from + 4 * width → slice_index others word ≡ slice_index words word)
    → number_at others from width place ≡ number_at words from width place
number_same words others from width place is low same =
    let w = word_within width is place low in
    number_of_page others from width place is ∙ ap (λ n. n / 2 ^ (place % (64 / width) * width) % 2 ^ width) (same (from + place / (64 / width)) (omega arith)) ∙ sym (number_of_page words from width place is)

pub rest_is_free : RestIsFree
rest_is_free Constant words others values p long same = record { first = same 0 (omega arith) ∙ p.first; long = long; has = tt; full = p.full; stands = λ place low. p.stands place low ∙ sym (same 1 (omega arith)) }
rest_is_free (Dictionary size) words others values p long same = record {
  first = same 0 (omega arith) ∙ p.first;
  long = long;
  has = record { few = p.has.few; named = λ place low. subst (λ (n : ℕ). n < size) (sym (code place low)) (p.has.named place low) };
  full = p.full;
  stands = λ place low. let n = p.has.named place low in p.stands place low ∙ sym (same _ (omega arith)) ∙ ap (λ n. slice_index others (1 + n)) (sym (code place low));
}
  where
    code : (place : ℕ) → place < 256 → code_at others size place ≡ code_at words size place
    code place low = number_same words others (1 + size) 4 place (inr (inr (inl refl))) low (λ word h. same word (omega arith))
rest_is_free (Runs runs) words others values p long same = record {
  first = same 0 (omega arith) ∙ p.first;
  long = long;
  has = record {
    some = p.has.some;
    few = p.has.few;
    begins = let s = p.has.some in let e = same 2 (omega arith) in let b = p.has.begins in omega arith;
    rising = λ run h. let a = same (2 + 2 * run) (omega arith) in let b = same (2 + 2 * (run + 1)) (omega arith) in let r = p.has.rising run h in omega arith;
    last = same (2 * runs) (omega arith) ∙ p.has.last;
  };
  full = p.full;
  stands = λ place low run is. let one = is.one in p.stands place low run (record {
    one = is.one;
    from = λ h. let f = is.from h in let e = same (2 * run) (omega arith) in omega arith;
    below = let b = is.below in let e = same (2 + 2 * run) (omega arith) in omega arith;
  })
      ∙ sym (same (1 + 2 * run) (omega arith));
}
rest_is_free (Reference width) words others values p long same = record {
  first = same 0 (omega arith) ∙ p.first;
  long = long;
  has = record { whole = p.has.whole; fits = λ place low. let f = p.has.fits place low in let e = difference place low in let b = same 1 (omega arith) in omega arith };
  full = p.full;
  stands = λ place low. let s = p.stands place low in let e = difference place low in let b = same 1 (omega arith) in omega arith;
}
  where
    difference : (place : ℕ) → place < 256 → difference_at others width place ≡ difference_at words width place
    difference place low = number_same words others 2 width place p.has.whole low (λ word h. same word (omega arith))
rest_is_free Plain words others values p long same = record { first = same 0 (omega arith) ∙ p.first; long = long; has = tt; full = p.full; stands = λ place low. p.stands place low ∙ sym (same (1 + place) (omega arith)) }

pub zeros_are_zeros : ZerosAreZeros
zeros_are_zeros words values long zeros full all = record {
  form = Plain;
  is = record {
    first = zeros 0 (omega arith);
    long = long;
    has = tt;
    full = full;
    stands = λ place low. all place 0 (omega arith) ∙ sym (zeros (1 + place) (omega arith));
  };
}
