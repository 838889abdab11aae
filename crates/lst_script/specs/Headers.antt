-- The first line of a script of version 2, which names the columns.
use Rattle.std.specs.Prelude.{◌≡◌, ℕ, ◌+◌, zero, suc, List, [], ◌∷◌, ◌++◌, Bool, true, not, ◌==◌, drop, length, codes, bytes_eq, decimal}
use Rattle.lst_names.specs.Names.{are_names}
use Rattle.lst_script.specs.declared.faults.FaultKind.TheVariants.{BadVersion, BadCount, BadName}
use Rattle.lst_script.specs.Faults.{Check, check, word_at}

-- the words of a line that opens a script of version 2
abbrev pub opens_version : List (List ℕ) → Bool
opens_version words = bytes_eq (word_at words 0) (codes "version")

-- the word, the number of the version, and the names of so many columns
pub record IsHeader (count : ℕ) (words names : List (List ℕ)) : Type 0 where
  pub words_are : words ≡ codes "version" ∷ codes "2" ∷ names
  pub names_are : are_names count names ≡ true

-- its checks, where its first word is `version`
abbrev pub header_checks : ℕ → List (List ℕ) → List Check
header_checks count words =
    check (not (bytes_eq (word_at words 1) (codes "2"))) BadVersion
    ∷ check (not (length words == count + 2)) BadCount
    ∷ check (not (are_names count (drop 2 words))) BadName
    ∷ []

-- the names that columns have where a script gives them none: c0, c1 and so on
abbrev pub names_from : ℕ → ℕ → List (List ℕ)
names_from column zero = []
names_from column (suc count) = (codes "c" ++ decimal column) ∷ names_from (suc column) count

abbrev pub default_names : ℕ → List (List ℕ)
default_names count = names_from 0 count
