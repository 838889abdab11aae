-- Words that were written as a page in a form.
use Rattle.std.proofs.Common.{◌≡◌, ℕ, ◌+◌, ◌-◌, ◌*◌, ◌/◌, ◌%◌, ◌^◌, ◌<◌, ◌≤◌, inl, inr, List, length, slice_index, refl, ap, arith, subst, sym, ◌∙◌}
use mathlib.Core.Logic.{dite}
use native.Mathlib.Decide.{dec_lt}
use Rattle.std.proofs.lemmas.Nat.{div-add-mod'}
use Rattle.lst_pack.specs.declared.forms.Form.TheVariants.{Dictionary, Reference}
use Rattle.lst_pack.specs.Forms.{code_at, difference_at, IsWidth, PacksAs}
use Rattle.lst_pack.specs.Counts.{IsKnown, Rises}
use Rattle.lst_pack.proofs.Numbers.{number_of_page, per_some, word_within}

-- the value that is known stands at the place to which a search for it leads
pub found : (known : List ℕ) (count value place : ℕ) → Rises known count → IsKnown known count value → ((code : ℕ) → code < place → slice_index known code < value)
    → ((code : ℕ) → place ≤ code → code < count → value ≤ slice_index known code) → (place < count) × (slice_index known place ≡ value)
found known count value place rises is below from = dite (dec_lt is.0 place)
    (λ (h : is.0 < place). let b = below is.0 h in absurd (omega (arith, is.2)))
    (λ past. dite (dec_lt place is.0)
    (λ (h : place < is.0). let r = rises place is.0 h is.1 in let f = from place (omega arith) (omega (arith, is.1)) in absurd (omega (arith, is.2)))
    (λ no. let e : is.0 ≡ place = omega (arith, past, no) in (omega (arith, is.1, e), sym (ap (λ n. slice_index known n) e) ∙ is.2)))

pub dictionary_written : (out known values : List ℕ) (size : ℕ) → size ≤ 16 → slice_index out 0 ≡ 2 + 8 * size → length out ≡ 257 → length values ≡ 256
    → ((code : ℕ) → code < size → slice_index out (1 + code) ≡ slice_index known code)
    → ((t k : ℕ) → t < 16 → k < 16 → (slice_index out (1 + size + t) / 2 ^ (k * 4) % 2 ^ 4 < size) × (slice_index known (slice_index out (1 + size + t) / 2 ^ (k * 4) % 2 ^ 4) ≡ slice_index values (t * 16 + k)))
    → PacksAs (Dictionary size) out values
dictionary_written out known values size few first long full stored codes = record {
  first = first;
  long = omega arith;
  has = record { few = few; named = λ place low. subst (λ (n : ℕ). n < size) (sym (code place)) (codes (place / 16) (place % 16) (omega arith) (omega arith)).0 };
  full = full;
  stands = λ place low. let c = codes (place / 16) (place % 16) (omega arith) (omega arith) in
      let e : place / 16 * 16 + place % 16 ≡ place = div-add-mod' place 16 in
      sym (ap (λ n. slice_index values n) e) ∙ sym c.1 ∙ sym (stored _ c.0) ∙ ap (λ n. slice_index out (1 + n)) (sym (code place));
}
  where
    code : (place : ℕ) → code_at out size place ≡ slice_index out (1 + size + place / 16) / 2 ^ (place % 16 * 4) % 2 ^ 4
    code place = number_of_page out (1 + size) 4 place (inr (inr (inl refl)))

pub reference_written : (out values : List ℕ) (width least : ℕ) → IsWidth width → slice_index out 0 ≡ 4 + 8 * width → length out ≡ 257 → length values ≡ 256 → slice_index out 1 ≡ least
    → width ≤ 32 → ((place : ℕ) → place < 256 → least ≤ slice_index values place) → ((place : ℕ) → slice_index values place < 2 ^ 64)
    → ((t k : ℕ) → t < 4 * width → k < 64 / width → slice_index out (2 + t) / 2 ^ (k * width) % 2 ^ width ≡ slice_index values (t * (64 / width) + k) - least)
    → PacksAs (Reference width) out values
reference_written out values width least is first long full base low bound fits differences = record {
  first = first;
  long = omega arith;
  has = record { whole = is; fits = λ place low. let e = value place low in let f = fits place in omega arith };
  full = full;
  stands = value;
}
  where
    value : (place : ℕ) → place < 256 → slice_index values place ≡ slice_index out 1 + difference_at out width place
    value place low =
        let some = per_some width is in
        let d = differences (place / (64 / width)) (place % (64 / width)) (word_within width is place low) (omega arith) in
        let e = ap (λ n. slice_index values n) (div-add-mod' place (64 / width)) in
        let n = number_of_page out 2 width place is in
        let b = bound place low in
        omega arith
