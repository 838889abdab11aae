-- Numbers as they are written.
use Rattle.std.proofs.Common.{◌≡◌, ℕ, ◌<◌, ◌≤◌, ◌^◌, Bool, true, false, ◌&&◌, nat_lt, List, Option, Some, None, refl, sym, ap, ◌∙◌, subst, arith, decimal, bytes_eq}
use Rattle.std.specs.Str.Parse.{digits_value}
use Rattle.std.proofs.lemmas.Bool.{and_from, and_parts, cond-true, cond-false, ltb-true, lt-ltb}
use Rattle.std.proofs.lemmas.Slice.Eq.{bytes_eq-Decides}
use Rattle.std.proofs.lemmas.Fmt.{decimal_is_IsNumeral_wide}
use Rattle.lst_replies.specs.Reading.{number_of}

same_bytes : (xs ys : List ℕ) → xs ≡ ys → bytes_eq xs ys ≡ true
same_bytes xs ys e = (bytes_eq-Decides xs ys).1 e

-- a word that is read is how its number is written
pub number_of-takes : (limit : ℕ) (word : List ℕ) (n : ℕ) → number_of limit word ≡ Some n → (word ≡ decimal n) × (n < limit)
number_of-takes limit word n e = by_test _ refl
  where
    by_test : (b : Bool) → (nat_lt (digits_value 10 word) limit && bytes_eq (decimal (digits_value 10 word)) word) ≡ b → (word ≡ decimal n) × (n < limit)
    by_test true is =
        let found : Some (digits_value 10 word) ≡ Some n = sym (cond-true _ _ _ is) ∙ e in
        let same : digits_value 10 word ≡ n = cc in
        let both = and_parts _ _ is in
        (sym ((bytes_eq-Decides _ _).0 both.1) ∙ ap decimal same, subst (λ m. m < limit) same (ltb-true _ _ both.0))
    by_test false is = let none : None ≡ Some n = sym (cond-false _ _ _ is) ∙ e in absurd cc

-- what is written is read
pub number_of-decimal : (limit n : ℕ) → n < limit → n < 10 ^ 64 → number_of limit (decimal n) ≡ Some n
number_of-decimal limit n below small =
    let value : digits_value 10 (decimal n) ≡ n = (decimal_is_IsNumeral_wide n small).1 in
    let test : (nat_lt (digits_value 10 (decimal n)) limit && bytes_eq (decimal (digits_value 10 (decimal n))) (decimal n)) ≡ true =
    and_from _ _ (subst (λ m. nat_lt m limit ≡ true) (sym value) (lt-ltb _ _ below)) (same_bytes _ _ (ap decimal value)) in
    cond-true _ _ _ test ∙ ap (λ m. Some m) value

pub number_of-written : (limit n : ℕ) (word : List ℕ) → n < limit → n < 10 ^ 64 → word ≡ decimal n → number_of limit word ≡ Some n
number_of-written limit n word below small is = ap (number_of limit) is ∙ number_of-decimal limit n below small

-- what isn't written so is not read
pub number_of-none : (limit : ℕ) (word : List ℕ) → ((n : ℕ) → n < limit → ¬ (word ≡ decimal n)) → number_of limit word ≡ None
number_of-none limit word other = by_result (number_of limit word) refl
  where
    by_result : (found : Option ℕ) → number_of limit word ≡ found → number_of limit word ≡ None
    by_result None is = is
    by_result (Some n) is = let takes = number_of-takes limit word n is in absurd (other n takes.1 takes.0)

-- a lower limit
pub number_of-below : (low high : ℕ) (word : List ℕ) (n : ℕ) → n < low → high ≤ 10 ^ 64 → number_of high word ≡ Some n → number_of low word ≡ Some n
number_of-below low high word n below small is =
    let takes = number_of-takes high word n is in
    number_of-written low n word below (omega (arith, takes.1)) takes.0

pub number_of-above : (low high : ℕ) (word : List ℕ) (n : ℕ) → low ≤ n → low ≤ 10 ^ 64 → high ≤ 10 ^ 64 → number_of high word ≡ Some n → number_of low word ≡ None
number_of-above low high word n above low_small small is =
    number_of-none low word (λ m below written.
    let same : Some m ≡ Some n = sym (number_of-written high m word (omega (arith, (number_of-takes high word n is).1)) (omega arith) written) ∙ is in
    let equal : m ≡ n = cc in
    absurd (omega arith))

pub number_of-unread : (low high : ℕ) (word : List ℕ) → low ≤ high → high ≤ 10 ^ 64 → number_of high word ≡ None → number_of low word ≡ None
number_of-unread low high word few small none =
    number_of-none low word (λ m below written.
    let read : None ≡ Some m = sym none ∙ number_of-written high m word (omega arith) (omega arith) written in
    cc)
