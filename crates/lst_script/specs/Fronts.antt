-- What a text begins with, where the words of its first line stand with one space between each two, and a newline at once behind the
-- last one.
use Rattle.std.specs.Prelude.{◌≡◌, ◌≤◌, ◌<◌, ℕ, List, [], ◌∷◌, ◌++◌, false, Option, Some, None, length}
use denote.Ref.{Bor}
use Rattle.lst_layout.specs.declared.limits.Limits.{Limits}
use Rattle.lst_model.specs.declared.lines.Line.{Line}
use Rattle.lst_model.specs.declared.lines.Line.TheVariants as lines
use Rattle.lst_model.specs.declared.lines.Call.{Call}
use Rattle.lst_model.specs.Cells.{Cell}
use Rattle.lst_script.specs.Numbers.{change_of}
use Rattle.lst_script.specs.Columns.{Columns, count_of, IsColumn}
use Rattle.lst_script.specs.Pairs.{Setting, cell_of_value, pair_of, is_set, set_by, nothing_set}
use Rattle.lst_script.specs.Reading.{ArePairs}
use Rattle.lst_script.specs.Grammar.{IsNumber, AreCells, AreChanges, AreArguments, IsCall, IsLine}
use Rattle.lst_script.specs.Canonical.{behind_spaces, spaced}

-- a number, and what follows it
pub record BeginsWithNumber (text : List ℕ) (number : ℕ) (rest : List ℕ) : Type 0 where
  pub word : List ℕ
  pub is_number : IsNumber word number
  pub parts : text ≡ word ++ rest

-- the same behind a space
pub record GoesOnWithNumber (text : List ℕ) (number : ℕ) (rest : List ℕ) : Type 0 where
  pub word : List ℕ
  pub is_number : IsNumber word number
  pub parts : text ≡ 32 ∷ (word ++ rest)

-- what becomes of a column, in the same place: a number, or `_`, which keeps it
abbrev pub changed : Option ℕ → Option Cell
changed None = None
changed (Some number) = Some (Some number)

pub record GoesOnWithChange (text : List ℕ) (change : Option ℕ) (rest : List ℕ) : Type 0 where
  pub word : List ℕ
  pub is_change : change_of word ≡ Some (changed change)
  pub parts : text ≡ 32 ∷ (word ++ rest)

-- a column with this byte behind it, and what follows that
pub record BeginsWithColumn (columns : Columns) (text : List ℕ) (column end : ℕ) (rest : List ℕ) : Type 0 where
  pub word : List ℕ
  pub is_column : IsColumn columns word column
  pub within : column < count_of columns
  pub parts : text ≡ word ++ end ∷ rest

-- the cell that a pair's value is: a number, or `null`
pub record BeginsWithValue (text : List ℕ) (cell : Cell) (rest : List ℕ) : Type 0 where
  pub word : List ℕ
  pub is_value : cell_of_value word ≡ Some cell
  pub parts : text ≡ word ++ rest

-- a pair behind a space
pub record GoesOnWithPair (names : List (List ℕ)) (text : List ℕ) (setting : Setting) (rest : List ℕ) : Type 0 where
  pub word : List ℕ
  pub is_pair : pair_of names word ≡ Some setting
  pub parts : text ≡ 32 ∷ (word ++ rest)

-- what such a pair makes of what those before it have set
abbrev pub SetsNextPair : List (List ℕ) → List ℕ → List (Option Cell) → List (Option Cell) → Option (Bor (List ℕ)) → Type 0
SetsNextPair names text before after None = Unit {0}
SetsNextPair names text before after (Some rest) = (setting : Setting) × GoesOnWithPair names text setting rest.now × (is_set before setting.0 ≡ false) × (after ≡ set_by before setting)

-- words, each behind a space, and what follows the newline behind them
pub record GoesOnWith (Are : List (List ℕ) → Type 0) (text rest : List ℕ) : Type 0 where
  pub words : List (List ℕ)
  pub are : Are words
  pub parts : text ≡ behind_spaces words ++ 10 ∷ rest

-- one number in that place
abbrev pub GoesOnWithOne : List ℕ → ℕ → List ℕ → Type 0
GoesOnWithOne text number rest = GoesOnWith (λ words. (word : List ℕ) × (words ≡ word ∷ []) × IsNumber word number) text rest

-- the words of which the first one stands behind no space
pub record BeginsWith (Are : List (List ℕ) → Type 0) (text rest : List ℕ) : Type 0 where
  pub words : List (List ℕ)
  pub are : Are words
  pub parts : text ≡ spaced words ++ 10 ∷ rest

-- the cells of a row, the changes of a patch, and all that stands behind the name of a call
abbrev pub GoesOnWithCells : Columns → List ℕ → List Cell → List ℕ → Type 0
GoesOnWithCells columns text row rest = GoesOnWith (λ words. AreCells columns words row) text rest

abbrev pub GoesOnWithChanges : Columns → List ℕ → List (Option Cell) → List ℕ → Type 0
GoesOnWithChanges columns text patch rest = GoesOnWith (λ words. AreChanges columns words patch) text rest

abbrev pub GoesOnWithArguments : Columns → List ℕ → Call → List ℕ → Type 0
GoesOnWithArguments columns text call rest = GoesOnWith (λ words. AreArguments columns call words) text rest

-- pairs, at most one a column, and what they make of columns of which none was set
abbrev pub GoesOnWithPairs : List (List ℕ) → List ℕ → List (Option Cell) → List ℕ → Type 0
GoesOnWithPairs names text changes rest = GoesOnWith (λ words. ArePairs names words (nothing_set (length names)) changes × (length words ≤ length names)) text rest

-- a call of a session
abbrev pub BeginsWithCall : Columns → List ℕ → Call → List ℕ → Type 0
BeginsWithCall columns text call rest = BeginsWith (λ words. IsCall columns words call) text rest

-- what a reader adds to a list of lines where a text begins with a call of a session, or with a line; it adds nothing where it leaves the
-- text to another reader
abbrev pub AddsCall : Columns → ℕ → List ℕ → List Line → List Line → Option (Bor (List ℕ)) → Type 0
AddsCall columns session text before after None = after ≡ before
AddsCall columns session text before after (Some rest) = (call : Call) × BeginsWithCall columns text call rest.now × (after ≡ before ++ lines.Call session call ∷ [])

abbrev pub AddsLine : Limits → Columns → List ℕ → List Line → List Line → Option (Bor (List ℕ)) → Type 0
AddsLine limits columns text before after None = after ≡ before
AddsLine limits columns text before after (Some rest) = (line : Line) × BeginsWith (λ words. IsLine limits columns words line) text rest.now × (after ≡ before ++ line ∷ [])
