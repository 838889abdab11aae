-- Words joined by a byte that none of them has, and split there again.
use Rattle.std.proofs.Common.{◌≡◌, ℕ, ◌+◌, ◌<◌, ◌≤◌, ◌^◌, Bool, true, false, not, ◌&&◌, ◌||◌, cond, List, [], ◌∷◌, ◌++◌, length, get_or, take, drop, flat_map, decimal, bytes_eq, Some, refl, sym, ap, ◌∙◌, subst, arith, eqb, add-one, drop-cons}
use Rattle.std.specs.List.{All, list_any, slice_split, join_with_byte, position, position_or_len}
use Rattle.std.specs.Str.Parse.{AllDigits}
use Rattle.std.proofs.lemmas.Bool.{or_parts, ltb-true, lt-ltb, ne_eqb, cond-true, eqb-true, eqb-false}
use Rattle.std.proofs.lemmas.List.Elements.{All-cons, All-nil}
use Rattle.std.proofs.lemmas.List.Splits.{slice_split_at, slice_split_none}
use Rattle.std.proofs.lemmas.List.Sums.{passes_at_first}
use Rattle.std.proofs.lemmas.Str.Parse.{digit_from_value}
use Rattle.std.proofs.lemmas.Fmt.{decimal_is_IsNumeral_wide}
use Rattle.std.proofs.lemmas.Option.{cond_some}
use Rattle.std.proofs.lemmas.List.{take-append-drop, length-append}

-- ---- tests that no byte of a word passes

pub free_all : (p : ℕ → Bool) (word : List ℕ) → list_any p word ≡ false → All (λ x. p x ≡ false) word
free_all p [] none = All-nil (λ x. p x ≡ false)
free_all p (x ∷ xs) none = let parts = or_parts (p x) (list_any p xs) none in All-cons (λ y. p y ≡ false) x xs parts.0 (free_all p xs parts.1)

pub any-append : (p : ℕ → Bool) (xs ys : List ℕ) → list_any p xs ≡ false → list_any p ys ≡ false → list_any p (xs ++ ys) ≡ false
any-append p [] ys none other = other
any-append p (x ∷ xs) ys none other =
    let parts = or_parts (p x) (list_any p xs) none in
    ap (λ b. b || list_any p (xs ++ ys)) parts.0 ∙ any-append p xs ys parts.1 other

any_digits : (p : ℕ → Bool) → ((c : ℕ) → 48 ≤ c → c ≤ 57 → p c ≡ false) → (ds : List ℕ) → AllDigits 10 ds → list_any p ds ≡ false
any_digits p none [] digits = refl
any_digits p none (c ∷ cs) digits =
    let range = digit_from_value c digits.0 in
    ap (λ b. b || list_any p cs) (none c range.0 range.1) ∙ any_digits p none cs digits.1

-- a byte that is no digit is not in the text of a number
pub any-decimal : (byte n : ℕ) → ¬ (48 ≤ byte) → n < 10 ^ 64 → list_any (λ c. eqb c byte) (decimal n) ≡ false
any-decimal byte n low small = any_digits (λ c. eqb c byte) (λ c least most. ne_eqb c byte (λ e. low (omega arith))) (decimal n) (decimal_is_IsNumeral_wide n small).0.1

pub any-decimal-above : (byte n : ℕ) → 57 < byte → n < 10 ^ 64 → list_any (λ c. eqb c byte) (decimal n) ≡ false
any-decimal-above byte n high small = any_digits (λ c. eqb c byte) (λ c least most. ne_eqb c byte (λ e. absurd (omega arith))) (decimal n) (decimal_is_IsNumeral_wide n small).0.1

-- a number's text begins with a digit, and a name with a letter
digit_first : (ds : List ℕ) (c : ℕ) (cs : List ℕ) → 0 < length ds → AllDigits 10 ds → 57 < c → bytes_eq ds (c ∷ cs) ≡ false
digit_first [] c cs some digits high = refl
digit_first (d ∷ ds) c cs some digits high =
    let range = digit_from_value d digits.0 in
    ap (λ (b : Bool). b && bytes_eq ds cs) (ne_eqb d c (λ e. absurd (omega (arith, range.1))))

pub decimal-named : (n c : ℕ) (cs : List ℕ) → n < 10 ^ 64 → 57 < c → bytes_eq (decimal n) (c ∷ cs) ≡ false
decimal-named n c cs small high = let numeral = (decimal_is_IsNumeral_wide n small).0 in digit_first (decimal n) c cs numeral.0 numeral.1 high

-- ---- joining and splitting

-- words joined are the first, and each further one behind the byte
pub join-flat : (byte : ℕ) (word : List ℕ) (words : List (List ℕ)) → join_with_byte byte (word ∷ words) ≡ word ++ flat_map (λ next. byte ∷ next) words
join-flat byte word [] = sym (ends word)
  where
    ends : (xs : List ℕ) → xs ++ [] ≡ xs
    ends [] = refl
    ends (x ∷ xs) = ap (λ rest. x ∷ rest) (ends xs)
join-flat byte word (next ∷ words) = ap (λ rest. word ++ byte ∷ rest) (join-flat byte next words)

-- no word has the byte
abbrev pub AreFree : ℕ → List (List ℕ) → Type 0
AreFree byte [] = Unit {0}
AreFree byte (word ∷ words) = (list_any (λ c. eqb c byte) word ≡ false) × AreFree byte words

same_byte : (byte : ℕ) → eqb byte byte ≡ true
same_byte byte = by_test (eqb byte byte) refl
  where
    by_test : (b : Bool) → eqb byte byte ≡ b → eqb byte byte ≡ true
    by_test true is = is
    by_test false is = absurd (eqb-false byte byte is refl)

pub split-join : (byte : ℕ) (word : List ℕ) (words : List (List ℕ)) → AreFree byte (word ∷ words) → slice_split (λ c. eqb c byte) (join_with_byte byte (word ∷ words)) ≡ word ∷ words
split-join byte word [] free = slice_split_none (λ c. eqb c byte) word (free_all (λ c. eqb c byte) word free.0)
split-join byte word (next ∷ words) free =
    slice_split_at (λ c. eqb c byte) word byte (join_with_byte byte (next ∷ words)) (free_all (λ c. eqb c byte) word free.0) (same_byte byte)
    ∙ ap (λ rest. word ∷ rest) (split-join byte next words free.1)

-- ---- the first place of a byte

first_place : (p : ℕ → Bool) (xs : List ℕ) (y : ℕ) (ys : List ℕ) → list_any p xs ≡ false → p y ≡ true → position_or_len p (xs ++ y ∷ ys) ≡ length xs
first_place p [] y ys none here = ap (λ (b : Bool). cond (not b) (1 + position_or_len p ys) 0) here
first_place p (x ∷ xs) y ys none here =
    let parts = or_parts (p x) (list_any p xs) none in
    ap (λ (b : Bool). cond (not b) (1 + position_or_len p (xs ++ y ∷ ys)) 0) parts.0
    ∙ ap (λ n. 1 + n) (first_place p xs y ys parts.1 here) ∙ omega arith

pub position-append : (p : ℕ → Bool) (xs : List ℕ) (y : ℕ) (ys : List ℕ) → list_any p xs ≡ false → p y ≡ true → position p (xs ++ y ∷ ys) ≡ Some (length xs)
position-append p xs y ys none here =
    let at : position_or_len p (xs ++ y ∷ ys) ≡ length xs = first_place p xs y ys none here in
    let below : position_or_len p (xs ++ y ∷ ys) < length (xs ++ y ∷ ys) = omega (arith, at, length-append xs (y ∷ ys)) in
    cond-true _ _ _ (lt-ltb _ _ below) ∙ ap (λ n. Some n) at

pub position-splits : (byte : ℕ) (xs : List ℕ) (i : ℕ) → position (λ c. eqb c byte) xs ≡ Some i → xs ≡ take i xs ++ byte ∷ drop (i + 1) xs
position-splits byte xs i found =
    let at = cond_some _ _ _ found in
    let below : i < length xs = omega (arith, at.1, ltb-true _ _ at.0) in
    let passes : eqb (get_or xs (position_or_len (λ c. eqb c byte) xs) 0) byte ≡ true = passes_at_first (λ c. eqb c byte) xs 0 (ltb-true _ _ at.0) in
    let here : get_or xs i 0 ≡ byte = subst (λ (n : ℕ). get_or xs n 0 ≡ byte) at.1 (eqb-true _ _ passes) in
    sym (take-append-drop i xs) ∙ ap (λ rest. take i xs ++ rest) (drop-cons xs i 0 below)
    ∙ ap (λ n. take i xs ++ get_or xs i 0 ∷ drop n xs) (sym (add-one i)) ∙ ap (λ c. take i xs ++ c ∷ drop (i + 1) xs) here
