-- What packed words stand for: the five forms of a page of 256 values.
use Rattle.std.specs.Prelude.{◌≡◌, ℕ, ◌+◌, ◌*◌, ◌/◌, ◌%◌, ◌^◌, ◌<◌, ◌≤◌, ◌⊎◌, List, length, slice_index}
use Rattle.lst_pack.specs.declared.forms.Form.{Form}
use Rattle.lst_pack.specs.declared.forms.Form.TheVariants.{Constant, Dictionary, Runs, Reference, Plain}

-- the number of `width` bits at a place among those that begin with word `from`, lowest bits first
abbrev pub number_at : List ℕ → ℕ → ℕ → ℕ → ℕ
number_at words from width place = slice_index words (from + place * width / 64) / 2 ^ (place * width % 64) % 2 ^ width

-- the word that names the form: its kind, and eight times the number that the form has
abbrev pub form_word : Form → ℕ
form_word Constant = 1
form_word (Dictionary size) = 2 + 8 * size
form_word (Runs runs) = 3 + 8 * runs
form_word (Reference width) = 4 + 8 * width
form_word Plain = 0

-- how many words a page in this form takes
abbrev pub form_words : Form → ℕ
form_words Constant = 2
form_words (Dictionary size) = 17 + size
form_words (Runs runs) = 1 + 2 * runs
form_words (Reference width) = 2 + 4 * width
form_words Plain = 257

-- a width of which a whole number fits a word, up to half of it
abbrev pub IsWidth : ℕ → Type 0
IsWidth width = (width ≡ 1) ⊎ ((width ≡ 2) ⊎ ((width ≡ 4) ⊎ ((width ≡ 8) ⊎ ((width ≡ 16) ⊎ (width ≡ 32)))))

-- ---- dictionary: some values, then for each place a code of 4 bits, the place of its value among them

abbrev pub code_at : List ℕ → ℕ → ℕ → ℕ
code_at words size place = number_at words (1 + size) 4 place

-- each code names one of the values
pub record IsDictionary (words : List ℕ) (size : ℕ) : Type 0 where
  pub few : size ≤ 16
  pub named : (place : ℕ) → place < 256 → code_at words size place < size

-- ---- runs: for each run its value and the place after its end

abbrev pub run_value : List ℕ → ℕ → ℕ
run_value words run = slice_index words (1 + 2 * run)

abbrev pub run_end : List ℕ → ℕ → ℕ
run_end words run = slice_index words (2 + 2 * run)

-- no run is empty, and the last one ends with the page
pub record AreRuns (words : List ℕ) (runs : ℕ) : Type 0 where
  pub some : 0 < runs
  pub few : runs ≤ 128
  pub begins : 0 < run_end words 0
  pub rising : (run : ℕ) → run + 1 < runs → run_end words run < run_end words (run + 1)
  pub last : slice_index words (2 * runs) ≡ 256

-- the place is below the end of the run and not below that of the run before
pub record IsInRun (words : List ℕ) (runs place run : ℕ) : Type 0 where
  pub one : run < runs
  pub from : 0 < run → slice_index words (2 * run) ≤ place
  pub below : place < run_end words run

-- ---- frame of reference: a base, then for each place its difference from it

abbrev pub difference_at : List ℕ → ℕ → ℕ → ℕ
difference_at words width place = number_at words 2 width place

-- no sum passes the greatest word
pub record IsReference (words : List ℕ) (width : ℕ) : Type 0 where
  pub whole : IsWidth width
  pub fits : (place : ℕ) → place < 256 → slice_index words 1 + difference_at words width place < 2 ^ 64

-- ---- each form: what makes words one, and which value stands at a place

abbrev pub HasForm : Form → List ℕ → Type 0
HasForm Constant words = Unit {0}
HasForm (Dictionary size) words = IsDictionary words size
HasForm (Runs runs) words = AreRuns words runs
HasForm (Reference width) words = IsReference words width
HasForm Plain words = Unit {0}

abbrev pub StandsAt : Form → List ℕ → ℕ → ℕ → Type 0
StandsAt Constant words place value = value ≡ slice_index words 1
StandsAt (Dictionary size) words place value = value ≡ slice_index words (1 + code_at words size place)
StandsAt (Runs runs) words place value = (run : ℕ) → IsInRun words runs place run → value ≡ run_value words run
StandsAt (Reference width) words place value = value ≡ slice_index words 1 + difference_at words width place
StandsAt Plain words place value = value ≡ slice_index words (1 + place)

-- the words begin with a page in this form, which stands for the 256 values; words past the form may hold anything
pub record PacksAs (form : Form) (words values : List ℕ) : Type 0 where
  pub first : slice_index words 0 ≡ form_word form
  pub long : form_words form ≤ length words
  pub has : HasForm form words
  pub full : length values ≡ 256
  pub stands : (place : ℕ) → place < 256 → StandsAt form words place (slice_index values place)

-- the words begin with a page in one of the five forms, which stands for these values
pub record Packs (words values : List ℕ) : Type 0 where
  pub form : Form
  pub is : PacksAs form words values

-- the words begin with a page in one of the five forms
abbrev pub IsPacked : List ℕ → Type 0
IsPacked words = (values : List ℕ) × Packs words values
