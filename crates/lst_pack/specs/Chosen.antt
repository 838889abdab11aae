-- The form that a page is packed in: the one with the fewest words, and exactly its words.
use Rattle.std.specs.Prelude.{◌≡◌, ◌≢◌, ℕ, ◌+◌, ◌/◌, ◌^◌, ◌<◌, ◌≤◌, ◌⊎◌, List, slice_index}
use Rattle.lst_pack.specs.declared.forms.Form.{Form}
use Rattle.lst_pack.specs.declared.forms.Form.TheVariants.{Constant, Dictionary, Runs, Reference, Plain}
use Rattle.lst_pack.specs.Forms.{form_words, run_value, PacksAs}

-- the order of the forms in which the first wins a tie
abbrev pub order_of : Form → ℕ
order_of Constant = 0
order_of (Dictionary size) = 1
order_of (Runs runs) = 2
order_of (Reference width) = 3
order_of Plain = 4

-- it takes fewer words, or as many and is the earlier form or the same
abbrev pub IsAtMost : Form → Form → Type 0
IsAtMost form other = (form_words form < form_words other) ⊎ ((form_words form ≡ form_words other) × (order_of form ≤ order_of other))

abbrev pub StandsSomewhere : List ℕ → ℕ → Type 0
StandsSomewhere values value = (place : ℕ) × (place < 256) × (slice_index values place ≡ value)

-- the values of the dictionary are the distinct values of the page, rising
pub record IsSorted (words values : List ℕ) (size : ℕ) : Type 0 where
  pub rising : (code next : ℕ) → code < next → next < size → slice_index words (1 + code) < slice_index words (1 + next)
  pub used : (code : ℕ) → code < size → StandsSomewhere values (slice_index words (1 + code))

-- no run goes on in the next one
abbrev pub AreMaximal : List ℕ → ℕ → Type 0
AreMaximal words runs = (run : ℕ) → run + 1 < runs → run_value words run ≢ run_value words (run + 1)

-- the base is the least value, and no smaller width holds every difference
pub record IsTight (words values : List ℕ) (width : ℕ) : Type 0 where
  pub least : StandsSomewhere values (slice_index words 1)
  pub narrow : (width ≡ 1) ⊎ ((place : ℕ) × (place < 256) × (slice_index words 1 + 2 ^ (width / 2) ≤ slice_index values place))

-- what sets the words in a form apart from others in the same form that stand for the same values
abbrev pub IsProper : Form → List ℕ → List ℕ → Type 0
IsProper Constant words values = Unit {0}
IsProper (Dictionary size) words values = IsSorted words values size
IsProper (Runs runs) words values = AreMaximal words runs
IsProper (Reference width) words values = IsTight words values width
IsProper Plain words values = Unit {0}

-- the first `count` words are the page of these values in a form that takes at most as many words as any other that stands for them
pub record IsChosen (words values : List ℕ) (count : ℕ) : Type 0 where
  pub form : Form
  pub counted : count ≡ form_words form
  pub packs : PacksAs form words values
  pub proper : IsProper form words values
  pub fewest : (other : Form) (others : List ℕ) → PacksAs other others values → IsAtMost form other
