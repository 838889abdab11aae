-- Words that are read as a number, a cell or a change have bytes above the space's alone.
use Rattle.std.proofs.Common.{◌≡◌, ℕ, ◌≤◌, Bool, true, false, nat_lt, leb, List, [], ◌∷◌, length, map, Option, Some, None, option_map, cond, codes, refl, sym, ap, subst, ◌∙◌, arith}
use Rattle.std.specs.List.{AllByRecursion, list_all}
use Rattle.std.specs.Char.{is_ascii_digit}
use Rattle.std.proofs.lemmas.Bool.{and_from, and_parts, leb-true, lt-ltb, ltb-true}
use Rattle.std.proofs.lemmas.Option.{cond_some}
use Rattle.std.proofs.lemmas.List.{length-map}
use Rattle.std.proofs.lemmas.Slice.Eq.{bytes_eq-Decides}
use Rattle.lst_model.specs.Cells.{Cell}
use Rattle.lst_script.specs.Numbers.{number_of, keeps_column, cell_of, change_of}
use Rattle.lst_script.proofs.Plain.{IsPlain, plain_from}

digits_high : (ds : List ℕ) → list_all is_ascii_digit ds ≡ true → list_all (λ byte. nat_lt 32 byte) ds ≡ true
digits_high [] digits = refl
digits_high (c ∷ cs) digits =
    let both = and_parts (is_ascii_digit c) (list_all is_ascii_digit cs) digits in
    let range = and_parts (leb 48 c) (leb c 57) both.0 in
    and_from (nat_lt 32 c) (list_all (λ byte. nat_lt 32 byte) cs) (lt-ltb 32 c (omega (arith, leb-true 48 c range.0))) (digits_high cs both.1)

pub number_plain : (word : List ℕ) (n : ℕ) → number_of word ≡ Some n → IsPlain word
number_plain word n is =
    let whole = and_parts _ _ (cond_some _ _ _ is).0 in
    let rest = and_parts _ _ whole.1 in
    let digits = and_parts _ _ rest.1 in
    record { some = ltb-true 0 (length word) whole.0; few = omega (arith, leb-true (length word) 20 rest.0); above = digits_high word digits.0 }

pub number_few : (word : List ℕ) (n : ℕ) → number_of word ≡ Some n → length word ≤ 20
number_few word n is =
    let whole = and_parts _ _ (cond_some _ _ _ is).0 in
    let rest = and_parts _ _ whole.1 in
    leb-true (length word) 20 rest.0

-- what is made of a number comes of one
pub number_under : {X : Type 0} (f : ℕ → X) (found : Option ℕ) (x : X) → option_map f found ≡ Some x → (n : ℕ) × (found ≡ Some n)
number_under f None x e = absurd cc
number_under f (Some n) x e = (n, refl)

pub cell_plain : (word : List ℕ) (cell : Cell) → cell_of word ≡ Some cell → IsPlain word
cell_plain word cell is =
    let number = number_under (λ n. Some n) (number_of word) cell is in
    number_plain word number.0 number.1

pub change_plain : (word : List ℕ) (change : Option Cell) → change_of word ≡ Some change → IsPlain word
change_plain word change is = by (keeps_column word) refl is
  where
    by : (keeps : Bool) → keeps_column word ≡ keeps → cond keeps (Some None) (option_map (λ c. Some c) (cell_of word)) ≡ Some change → IsPlain word
    by true e told = subst (λ (w : List ℕ). IsPlain w) (sym ((bytes_eq-Decides word (codes "_")).0 e)) (plain_from (codes "_") refl)
    by false e told = of_cell (cell_of word) refl told
      where
        of_cell : (found : Option Cell) → cell_of word ≡ found → option_map (λ c. Some c) found ≡ Some change → IsPlain word
        of_cell None e told = absurd cc
        of_cell (Some cell) e told = cell_plain word cell e

pub each_plain : {X : Type 0} (read : List ℕ → Option X) → ((word : List ℕ) (x : X) → read word ≡ Some x → IsPlain word) → (words : List (List ℕ)) (values : List X) → map read words ≡ map (λ value. Some value) values → AllByRecursion IsPlain words
each_plain read plain [] values e = tt
each_plain read plain (word ∷ words) [] e = absurd cc
each_plain read plain (word ∷ words) (value ∷ values) e =
    let first : read word ≡ Some value = cc in
    let rest : map read words ≡ map (λ value. Some value) values = cc in
    (plain word value first, each_plain read plain words values rest)

pub as_many : {X : Type 0} (read : List ℕ → Option X) (words : List (List ℕ)) (values : List X) → map read words ≡ map (λ value. Some value) values → length words ≡ length values
as_many read words values e = sym (length-map words read) ∙ (ap length e ∙ length-map values (λ value. Some value))
