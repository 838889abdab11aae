-- How many bytes a record has.
use Rattle.std.proofs.Common.{◌≡◌, ℕ, suc, ◌+◌, ◌*◌, List, [], ◌∷◌, ◌++◌, length, map, Option, Some, None, refl, sym, ◌∙◌, arith, length-append}
use Rattle.std.proofs.lemmas.List.{length-map, length-replicate}
use Rattle.std.proofs.Math.Nat.{suc-mul}
use Rattle.std.specs.Prelude.{unwrap_or, option_map}
use Rattle.std.specs.List.{flat_map, AllByRecursion}
use Rattle.lst_model.specs.declared.acts.Act.{Act}
use Rattle.lst_model.specs.declared.acts.Act.TheVariants.{Put, Set, Del}
use Rattle.lst_model.specs.declared.acts.Write.{Write}
use Rattle.lst_model.specs.declared.commits.Commit.{Commit}
use Rattle.lst_model.specs.Cells.{Cell, number_of, changed_number}
use Rattle.lst_log.specs.Format.{word, numbers_of, write_bytes, record_of, FitsTable, IsWrite, HasRecord}

length-words : (numbers : List ℕ) → length (flat_map word numbers) ≡ 8 * length numbers
length-words [] = refl
length-words (n ∷ numbers) = omega (arith, length-words numbers, length-append (word n) (flat_map word numbers))

pub length-numbers : (columns : ℕ) (act : Act) → FitsTable columns act → length (numbers_of columns act) ≡ columns
length-numbers columns (Put row) fits = length-map row number_of ∙ fits.0
length-numbers columns (Set patch) fits = length-map patch changed_number ∙ fits.0.width
length-numbers columns Del fits = length-replicate columns 0

length-write : (columns : ℕ) (w : Write) → FitsTable columns w.act → length (write_bytes columns w) ≡ 11 + 8 * columns
length-write columns w fits =
    omega (arith, length-numbers columns w.act fits, length-words (numbers_of columns w.act))

product_more : (a b n k : ℕ) → a ≡ k → b ≡ n * k → a + b ≡ suc n * k
product_more a b n k p q = (λ i. p i + q i) ∙ turned k (n * k) ∙ sym (suc-mul n k)
  where
    turned : (x y : ℕ) → x + y ≡ y + x
    turned x y = omega arith

length-writes : (columns : ℕ) (writes : List Write) → AllByRecursion (IsWrite columns) writes → length (flat_map (write_bytes columns) writes) ≡ length writes * (11 + 8 * columns)
length-writes columns [] fit = omega arith
length-writes columns (w ∷ writes) fit =
    length-append (write_bytes columns w) (flat_map (write_bytes columns) writes)
    ∙ product_more (length (write_bytes columns w)) (length (flat_map (write_bytes columns) writes)) (length writes) (11 + 8 * columns) (length-write columns w fit.0.act) (length-writes columns writes fit.1)

pub record_length : (columns : ℕ) (c : Commit) → HasRecord columns c → length (record_of columns c) ≡ 21 + length c.writes * (11 + 8 * columns)
record_length columns c has = grown (length (flat_map (write_bytes columns) c.writes)) (length c.writes * (11 + 8 * columns)) (length-writes columns c.writes has.writes)
  where
    grown : (l n : ℕ) → l ≡ n → suc (suc (suc (suc (suc (suc (suc (suc (suc (suc (suc (suc (suc (suc (suc (suc (suc (suc (suc (suc (suc l)))))))))))))))))))) ≡ 21 + n
    grown l n e = omega arith

-- the changes of a patch, by their numbers
pub settings_are : (patch : List (Option Cell)) → flat_map (λ (change : Option ℕ). word (unwrap_or change 0)) (map (option_map number_of) patch) ≡ flat_map word (map changed_number patch)
settings_are [] = refl
settings_are (change ∷ patch) = (λ i. word (here change i) ++ settings_are patch i)
  where
    here : (c : Option Cell) → unwrap_or (option_map number_of c) 0 ≡ changed_number c
    here None = refl
    here (Some None) = refl
    here (Some (Some number)) = refl
