-- One position of a key's run, looked at to find the key or to place it.
use Rattle.std.specs.Prelude.{◌≡◌, ◌⊎◌, ℕ, ◌+◌, ◌≤◌, ◌<◌, List, [], ◌++◌, Bool, true, false, length}
use Rattle.std.specs.List.{Contains}
use Rattle.lst_layout.specs.declared.limits.Limits.{Limits}
use Rattle.lst_layout.specs.Words.{shown}
use Rattle.lst_core_state.specs.declared.known.Known.{Known}
use Rattle.lst_core_state.specs.declared.known.Placing.{Placing}
use Rattle.lst_core_state.specs.declared.facts.Fact.TheVariants.{IndexAt}
use Rattle.lst_core_state.specs.Cells.{record_count}
use Rattle.lst_core_state.specs.Index.{size, position_of}
use Rattle.lst_rule.specs.declared.view.View.{View}
use Rattle.lst_rule.specs.Rule.{knows, hosts}
use Rattle.lst_rule.specs.Learned.{Kept}
use Rattle.lst_rule.specs.declared.store.Store.{Store}
use Rattle.lst_rule.specs.Seats.{Sitting}
use Rattle.lst_rule.specs.Stores.{IsSeatOf}
use Rattle.lst_index.specs.Searches.{Passed, EndedSince, Works, Keeps}
use Rattle.lst_index.specs.Placings.{drawn_words, claimed_words, DrawsAfterLook}

-- the search of s for the key, which began with the view v, has passed n positions
pub record Searches (store : Store) (v : View) (seat : Sitting) (s key n : ℕ) : Type 0 where
  pub seat_of : IsSeatOf store seat
  pub host : hosts seat.view s ≡ true
  pub works : Works v seat.view s []
  pub kept : Kept v seat.view
  pub keeps : Keeps (knows v s).placing (knows seat.view s).placing
  pub passed : Passed store.layout.limits (knows seat.view s).facts key n

abbrev pub one : Bool → ℕ
one false = 0
one true = 1

-- records were drawn: with the one in hand before, at most m
pub record Uses (before now : Placing) (m : ℕ) : Type 0 where
  pub drew : List ℕ
  pub drawn : now.drawn ≡ before.drawn ++ drew
  pub few : length drew + one before.has_key ≤ m

-- a record is in hand for which this key is stored
pub record HasOne (p : Placing) (key : ℕ) : Type 0 where
  pub some : 0 < p.hand
  pub keyed : p.has_key ≡ true
  pub same : p.key ≡ key

-- no record is in hand, or one for which this key is stored
abbrev pub Holds : Placing → ℕ → Type 0
Holds p key = ((p.hand ≡ 0) × (p.has_key ≡ false)) ⊎ HasOne p key

-- the position is known to hold the record, which is that of the index word loaded last
pub record Shows (k : Known) (q r : ℕ) : Type 0 where
  pub key : ℕ
  pub fact : Contains k.facts (IndexAt q r key)
  pub last : k.looks.index ≡ r + 1

-- the position is empty: the run of a key whose positions before it were known to hold other keys ends there
abbrev pub Ends : Limits → View → View → ℕ → ℕ → Type 0
Ends l v w s q = (key n : ℕ) → n < size l → q ≡ position_of l key n → Passed l (knows v s).facts key n → EndedSince v w s key

-- ---- the words of a view that knows each word

-- the next record was drawn, and is in hand, with the key stored for it; the index stays
pub record Draws (v w : View) (s key : ℕ) : Type 0 where
  pub number : ℕ
  pub low : number < record_count v.limits
  pub next : (shown v.limits v.words).counter ≡ number
  pub hand : (knows w s).placing.hand ≡ number + 1
  pub words : w.words ≡ drawn_words v.limits v.words number key
  pub index : (shown v.limits w.words).index ≡ (shown v.limits v.words).index

-- the record r, which was in hand, stands at the position
pub record Claims (v w : View) (s q r : ℕ) : Type 0 where
  pub hand : (knows v s).placing.hand ≡ r + 1
  pub words : w.words ≡ claimed_words v.limits v.words q r

-- nothing was stored, and no record is in hand
pub record Rests (v w : View) (s : ℕ) : Type 0 where
  pub words : w.words ≡ v.words
  pub free : (knows w s).placing.hand ≡ 0

-- the placing of the key, which began with the view v, has passed n positions
pub record Places (store : Store) (v : View) (seat : Sitting) (s key n : ℕ) : Type 0 where
  pub seat_of : IsSeatOf store seat
  pub host : hosts seat.view s ≡ true
  pub works : Works v seat.view s []
  pub rests : v.whole ≡ true → Rests v seat.view s
  pub uses : Uses (knows v s).placing (knows seat.view s).placing (one (knows seat.view s).placing.has_key)
  pub holds : Holds (knows seat.view s).placing key
  pub passed : Passed store.layout.limits (knows seat.view s).facts key n
  pub after_look : DrawsAfterLook v seat.view s key
