-- What the two words behind `merge` or `find` are read as, or their first fault; and the first faults of a session's line.
use Rattle.std.proofs.Common.{◌≡◌, ℕ, ◌<◌, ◌≤◌, get_or, length, drop, List, [], ◌∷◌, ◌++◌, Bool, true, false, cond, Bor, Option, Some, None, Result, Ok, Err, refl, sym, ap, ◌∙◌, arith}
use Rattle.std.specs.Prelude.{IsErrAnd}
use Rattle.std.specs.Char.{is_ascii_digit}
use Rattle.std.proofs.lemmas.Bool.{lt-ltb, le-ltb, ne_eqb}
use Rattle.std.proofs.lemmas.List.{length-map}
use Rattle.lst_layout.specs.declared.limits.Limits.{Limits}
use Rattle.lst_model.specs.declared.lines.Line.{Line}
use Rattle.lst_script.specs.declared.faults.FaultKind.{FaultKind}
use Rattle.lst_script.specs.declared.faults.FaultKind.TheVariants.{UnknownWord, BadNumber, BadCount, BadRange, BadColumn}
use Rattle.lst_script.specs.Texts.{texts}
use Rattle.lst_script.specs.Numbers.{number_of}
use Rattle.lst_script.specs.Table.{merge, find_keys, session_forms, form_named}
use Rattle.lst_script.specs.Columns.{Columns, column_read}
use Rattle.lst_script.specs.Faults.{Check, first_fault, argument_checks, number_checks, name_checks, form_checks, word_at, word_checks}
use Rattle.lst_script.specs.Reading.{ReadsWords}
use Rattle.lst_script.proofs.Faultless.{two_words}

-- the word at a place, as code reads it
abbrev pub word_in : List (Bor (List ℕ)) → ℕ → List ℕ
word_in slices place = (get_or slices place (record { ref_ptr = (0, 0); now = [] })).now

-- two words as code reads them
pub two_texts : (slices : List (Bor (List ℕ))) → 2 ≤ length slices → length slices < 3 → texts slices ≡ word_in slices 0 ∷ word_in slices 1 ∷ []
two_texts [] least below = absurd (omega arith)
two_texts (first ∷ []) least below = absurd (omega arith)
two_texts (first ∷ second ∷ []) least below = refl
two_texts (first ∷ second ∷ third ∷ more) least below = absurd (omega arith)

pub not_two : (slices : List (Bor (List ℕ))) → (length slices ≡ 2 → ⊥) → (length (texts slices) ≡ 2 → ⊥)
not_two slices other two = other (sym (length-map slices (λ (slice : Bor (List ℕ)). slice.now)) ∙ two)

module _ (limits : Limits) (columns : Columns) where
  pub merge_count : (words : List (List ℕ)) → (length words ≡ 2 → ⊥) → first_fault (argument_checks limits columns merge words) ≡ Some BadCount
  merge_count words other = rw (ne_eqb (length words) 2 other) refl

  module _ (first second : List ℕ) where
    pub find_no_column : column_read columns first ≡ None → first_fault (argument_checks limits columns find_keys (first ∷ second ∷ [])) ≡ Some BadNumber
    find_no_column none = rw none refl

    pub find_no_value : (column : Option ℕ) → column_read columns first ≡ Some column → number_of second ≡ None → first_fault (argument_checks limits columns find_keys (first ∷ second ∷ [])) ≡ Some BadNumber
    find_no_value column is none = rw (is, none) refl

    pub find_far_column : (value : ℕ) → column_read columns first ≡ Some None → number_of second ≡ Some value → first_fault (argument_checks limits columns find_keys (first ∷ second ∷ [])) ≡ Some BadColumn
    find_far_column value none is = rw (none, is) refl

    pub merge_no_range : number_of first ≡ None → first_fault (argument_checks limits columns merge (first ∷ second ∷ [])) ≡ Some BadNumber
    merge_no_range none = rw none refl

    module _ (range : ℕ) (is : number_of first ≡ Some range) where
      pub merge_no_column : column_read columns second ≡ None → first_fault (argument_checks limits columns merge (first ∷ second ∷ [])) ≡ Some BadNumber
      merge_no_column none = rw (is, none) refl

      pub merge_far_range : (column : Option ℕ) → column_read columns second ≡ Some column → limits.ranges ≤ range → first_fault (argument_checks limits columns merge (first ∷ second ∷ [])) ≡ Some BadRange
      merge_far_range column column_is far = rw (is, column_is, le-ltb range limits.ranges far) refl

      pub merge_far_column : column_read columns second ≡ Some None → range < limits.ranges → first_fault (argument_checks limits columns merge (first ∷ second ∷ [])) ≡ Some BadColumn
      merge_far_column none below = rw (is, none, lt-ltb range limits.ranges below) refl

-- ---- a session's line

pub fault_in_front : (checks more : List Check) (kind : FaultKind) → first_fault checks ≡ Some kind → first_fault (checks ++ more) ≡ Some kind
fault_in_front [] more kind fault = absurd cc
fault_in_front (first ∷ checks) more kind fault = by first.fails (fault_in_front checks more kind) fault
  where
    by : (fails : Bool) → (first_fault checks ≡ Some kind → first_fault (checks ++ more) ≡ Some kind) → cond fails (Some first.fault) (first_fault checks) ≡ Some kind → cond fails (Some first.fault) (first_fault (checks ++ more)) ≡ Some kind
    by true later found = found
    by false later found = later found

module _ (limits : Limits) (columns : Columns) (first : List ℕ) (digit : is_ascii_digit (get_or first 0 0) ≡ true) where
  pub session_fault : (words : List (List ℕ)) (kind : FaultKind) (r : Result Line FaultKind) → IsErrAnd r (λ y. y ≡ kind) → first_fault (number_checks limits first) ≡ Some kind → ReadsWords limits columns (first ∷ words) r
  session_fault words kind (Ok line) r_is fault = absurd r_is
  session_fault words kind (Err y) r_is fault = rw digit (fault_in_front (number_checks limits first) (name_checks (first ∷ words) ++ form_checks limits columns (form_named session_forms (word_at (first ∷ words) 1)) (drop 2 (first ∷ words))) kind fault ∙ ap (λ k. Some k) (sym r_is))

  module _ (session : ℕ) (is : number_of first ≡ Some session) (below : session < limits.sessions) where
    pub no_name : (words : List (List ℕ)) → length words ≡ 0 → first_fault (word_checks limits columns (first ∷ words)) ≡ Some BadCount
    no_name [] none = rw (digit, is, lt-ltb _ _ below) refl
    no_name (word ∷ words) none = absurd cc

    pub unknown_name : (name : List ℕ) (arguments : List (List ℕ)) → form_named session_forms name ≡ None → first_fault (word_checks limits columns (first ∷ name ∷ arguments)) ≡ Some UnknownWord
    unknown_name name arguments unknown = rw (digit, is, lt-ltb _ _ below, two_words (length arguments), unknown) refl
