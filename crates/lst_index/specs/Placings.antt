-- The placing of a key: what it leaves of the record in hand, of the records drawn, and of the words.
use Rattle.std.specs.Prelude.{◌≡◌, ◌≢◌, ◌⊎◌, ℕ, ◌+◌, ◌-◌, ◌<◌, ◌≤◌, List, [], ◌∷◌, ◌++◌, length, slice_set, Result, Ok, Err}
use Rattle.std.specs.List.{Contains}
use Rattle.lst_layout.specs.declared.limits.Limits.{Limits}
use Rattle.lst_layout.specs.declared.place.Place.TheVariants.{RecordCounter, KeyWord, IndexWord}
use Rattle.lst_layout.specs.Addresses.{address}
use Rattle.lst_layout.specs.Words.{shown}
use Rattle.lst_core_state.specs.declared.known.Placing.{Placing}
use Rattle.lst_core_state.specs.declared.facts.Fact.TheVariants.{RecordsAtLeast}
use Rattle.lst_core_state.specs.declared.facts.Find.{Find}
use Rattle.lst_core_state.specs.declared.facts.Find.TheVariants.{FullRecords}
use Rattle.lst_core_state.specs.Cells.{record_count}
use Rattle.lst_core_state.specs.Index.{size}
use Rattle.lst_rule.specs.declared.view.View.{View}
use Rattle.lst_rule.specs.Rule.{knows}
use Rattle.lst_index.specs.Searches.{EndedSince, IsUnseen, Works}

-- at most m records were drawn
pub record Drew (before now : Placing) (m : ℕ) : Type 0 where
  pub drew : List ℕ
  pub drawn : now.drawn ≡ before.drawn ++ drew
  pub few : length drew ≤ m

-- a load or a draw has found that every record is drawn
abbrev pub IsFull : View → ℕ → Type 0
IsFull v s = (n : ℕ) × (record_count v.limits ≤ n) × Contains (knows v s).facts (RecordsAtLeast n)

-- looks at the index lead from v to a view in which the key's run ends without it (`EndedSince`), and then the record counter was found at its limit or
-- above: that is the one find
pub record FoundFull (v w : View) (s key : ℕ) : Type 0 where
  pub then : View
  pub before : Works v then s []
  pub ended : EndedSince v then s key
  pub after : Works then w s (FullRecords ∷ [])
  pub full : IsFull w s
  pub unseen : IsUnseen (knows w s) key

-- looks at the index, by which no record was drawn, lead from v to a view in which the key's run ends without it (`EndedSince`). No commit that v had
-- seen wrote the key, and the open transaction saw nothing of it
pub record WasUnplaced (v : View) (s key : ℕ) : Type 0 where
  pub then : View
  pub before : Works v then s []
  pub drawn : (knows then s).placing.drawn ≡ (knows v s).placing.drawn
  pub ended : EndedSince v then s key
  pub unseen : IsUnseen (knows v s) key

-- a record is drawn only for a key whose run ends without it, as `WasUnplaced` says
abbrev pub DrawsAfterLook : View → View → ℕ → ℕ → Type 0
DrawsAfterLook v w s key = ((knows w s).placing.drawn ≡ (knows v s).placing.drawn) ⊎ WasUnplaced v s key

-- what a call finds beside facts: where it is refused, that the record counter was full
abbrev pub full_finds : {T E : Type 0} → Result T E → List Find
full_finds (Ok x) = []
full_finds (Err e) = FullRecords ∷ []

-- ---- the words of a view that knows each word

-- a position of the index has this record, with the key
abbrev pub HasRecord : Limits → List ℕ → ℕ → ℕ → Type 0
HasRecord l words key r = let w = shown l words in (q : ℕ) × (w.index q ≡ r + 1) × (w.keys r ≡ key)

-- no position of the index has a record with the key
abbrev pub HasNone : Limits → List ℕ → ℕ → Type 0
HasNone l words key = let w = shown l words in (q : ℕ) → 0 < w.index q → w.keys (w.index q - 1) ≢ key

-- the words once the record r is drawn, and the key stored for it
abbrev pub drawn_words : Limits → List ℕ → ℕ → ℕ → List ℕ
drawn_words l words r key = slice_set (slice_set words (address l RecordCounter) (r + 1)) (address l (KeyWord r)) key

-- and once it stands at the position q
abbrev pub claimed_words : Limits → List ℕ → ℕ → ℕ → List ℕ
claimed_words l words q r = slice_set words (address l (IndexWord q)) (r + 1)

-- the key had no record, the next one was drawn for it, and stands at a position that was empty: nothing else was stored
pub record PlacedAnew (l : Limits) (before now : List ℕ) (key r : ℕ) : Type 0 where
  pub none : HasNone l before key
  pub low : r < record_count l
  pub next : (shown l before).counter ≡ r
  pub position : ℕ
  pub short : position < size l
  pub empty : (shown l before).index position ≡ 0
  pub words : now ≡ claimed_words l (drawn_words l before r key) position r

-- the key had the record, and nothing was stored; or it was placed
abbrev pub Leaves : Limits → List ℕ → List ℕ → ℕ → ℕ → Type 0
Leaves l before now key r = ((now ≡ before) × HasRecord l before key r) ⊎ PlacedAnew l before now key r

-- the key had no record, and each one was drawn: nothing was stored
pub record LeavesFull (l : Limits) (before now : List ℕ) (key : ℕ) : Type 0 where
  pub none : HasNone l before key
  pub full : record_count l ≤ (shown l before).counter
  pub same : now ≡ before
