-- What facts say of the postings of a column.
use Rattle.std.specs.Prelude.{◌≡◌, ◌≢◌, ◌⊎◌, ℕ, ◌<◌, List, slice_index}
use Rattle.std.specs.List.{Contains}
use Rattle.lst_layout.specs.declared.limits.Limits.{Limits}
use Rattle.lst_core_state.specs.declared.facts.Fact.{Fact}
use Rattle.lst_core_state.specs.declared.facts.Fact.TheVariants.{CellIs, PostAt}
use Rattle.lst_core_state.specs.Cells.{record_of}
use Rattle.lst_core_state.specs.Postings.{postings_size, value_position}

-- the tail is stored with this encoding word and these values
abbrev pub HasWords : List Fact → ℕ → ℕ → List ℕ → Type 0
HasWords facts tail encoding values = (writer back : ℕ) × Contains facts (CellIs tail writer encoding back values)

-- the tail is of the record r, and its word of the column is the value
pub record KnownAlike (l : Limits) (facts : List Fact) (column r value tail : ℕ) : Type 0 where
  pub encoding : ℕ
  pub values : List ℕ
  pub words : HasWords facts tail encoding values
  pub rec : record_of l.tails tail encoding ≡ r
  pub same : slice_index values column ≡ value

-- the tail is of another record, or its word of the column is another value
pub record KnownOther (l : Limits) (facts : List Fact) (column r value tail : ℕ) : Type 0 where
  pub encoding : ℕ
  pub values : List ℕ
  pub words : HasWords facts tail encoding values
  pub other : (record_of l.tails tail encoding ≢ r) ⊎ (slice_index values column ≢ value)

-- the n-th position of the value's run holds the tail
abbrev pub StandsAt : Limits → List Fact → ℕ → ℕ → ℕ → ℕ → Type 0
StandsAt l facts column value n tail = Contains facts (PostAt column (value_position l value n) tail)

-- each of the first n positions of the value's run holds a tail
abbrev pub Taken : Limits → List Fact → ℕ → ℕ → ℕ → Type 0
Taken l facts column value n = (i : ℕ) → i < n → (tail : ℕ) × StandsAt l facts column value i tail

-- and it is of another record, or has another value
abbrev pub Passed : Limits → List Fact → ℕ → ℕ → ℕ → ℕ → Type 0
Passed l facts column r value n = (i : ℕ) → i < n → (tail : ℕ) × StandsAt l facts column value i tail × KnownOther l facts column r value tail

-- a tail of the record with the value stands in the value's run, with no empty position before it
pub record IsShown (l : Limits) (facts : List Fact) (column r value : ℕ) : Type 0 where
  pub offset : ℕ
  pub short : offset < postings_size l
  pub taken : Taken l facts column value offset
  pub tail : ℕ
  pub stands : StandsAt l facts column value offset tail
  pub alike : KnownAlike l facts column r value tail
