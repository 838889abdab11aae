-- Digits that are copied one after the other are what is written of their number.
use Rattle.std.proofs.Common.{◌≡◌, ℕ, ◌+◌, ◌<◌, ◌≤◌, leb, true, List, [], ◌∷◌, ◌++◌, length, get_or, take, decimal, sym, ap, ◌∙◌, subst, append_assoc, arith}
use Rattle.std.specs.List.{list_all}
use Rattle.std.specs.Char.{is_ascii_digit}
use Rattle.std.specs.Str.Parse.{AllDigits}
use Rattle.std.proofs.lemmas.Bool.{and_parts, leb-true}
use Rattle.std.proofs.lemmas.Fmt.{decimal-digits_value}
use Rattle.std.proofs.lemmas.List.{take_more, take_all}
use Rattle.std.proofs.lemmas.Str.{digit_value_digit}
use Rattle.std.proofs.lemmas.Str.Parse.{numerals_by_value, tells_digits}
use Rattle.lst_script.proofs.Digits.{AreDigits}

digits_are : (ds : List ℕ) → list_all is_ascii_digit ds ≡ true → AllDigits 10 ds
digits_are [] e = tt
digits_are (d ∷ ds) e =
    let both = and_parts (is_ascii_digit d) (list_all is_ascii_digit ds) e in
    let range = and_parts (leb 48 d) (leb d 57) both.0 in
    let low = leb-true 48 d range.0 in
    let high = leb-true d 57 range.1 in
    (omega (arith, low, high, digit_value_digit d (low, high)), digits_are ds both.1)

-- one more byte
pub one_copied : (ds front text after : List ℕ) (i byte : ℕ) → i < length ds → byte ≡ get_or ds i 0 → text ≡ front ++ take i ds → after ≡ text ++ (byte ∷ []) → after ≡ front ++ take (i + 1) ds
one_copied ds front text after i byte low is so_far more =
    more
    ∙ (λ j. so_far j ++ (is j ∷ []))
    ∙ append_assoc front (take i ds) (get_or ds i 0 ∷ [])
    ∙ ap (λ (t : List ℕ). front ++ t) (sym (take_more ds i 0 low))

-- digits with no zero in front are what is written of their number
copied : (ds : List ℕ) (value : ℕ) → 0 < length ds → (get_or ds 0 0 ≡ 48 → ⊥) → AreDigits ds value → ds ≡ decimal value
copied ds value some lead are =
    sym (ap decimal are.value_is ∙ decimal-digits_value (numerals_by_value _ tells_digits) ds (digits_are ds are.digits) some (λ zero. absurd (lead zero)) (omega (arith, are.value_is, are.fits)))

-- all are
pub all_copied : (ds front text : List ℕ) (i value : ℕ) → 0 < length ds → (get_or ds 0 0 ≡ 48 → ⊥) → length ds ≤ i → AreDigits (take i ds) value → text ≡ front ++ take i ds → text ≡ front ++ decimal value
all_copied ds front text i value some lead ended digits is =
    let whole = take_all i ds ended in
    is ∙ ap (λ (t : List ℕ). front ++ t) (whole ∙ copied ds value some lead (subst (λ (bytes : List ℕ). AreDigits bytes value) whole digits))
