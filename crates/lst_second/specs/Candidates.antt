-- The records that a value's run through the postings of a column leads to.
use Rattle.std.specs.Prelude.{◌≡◌, ℕ, ◌+◌, ◌<◌, ◌≤◌, List, ◌++◌, Bool, true, false, map, slice_index, slice_get}
use Rattle.std.specs.List.{All, Contains}
use Rattle.std.specs.List.Sorted.{IsStrictlyIncreasing}
use Rattle.std.specs.Option.{option_flatten}
use Rattle.lst_layout.specs.declared.limits.Limits.{Limits}
use Rattle.lst_layout.specs.Areas.{IsIndexed}
use Rattle.lst_layout.specs.Words.{Words, shown}
use Rattle.lst_model.specs.declared.acts.Act.{Act}
use Rattle.lst_model.specs.declared.acts.Act.TheVariants.{Put, Set, Del}
use Rattle.lst_model.specs.Cells.{is_number, holds_at}
use Rattle.lst_model.specs.Histories.{acts_on, all_acts_on}
use Rattle.lst_core_state.specs.declared.known.Known.{Known}
use Rattle.lst_core_state.specs.declared.facts.Fact.{Fact}
use Rattle.lst_core_state.specs.declared.facts.Fact.TheVariants.{IndexAt}
use Rattle.lst_core_state.specs.declared.facts.Find.{Find}
use Rattle.lst_core_state.specs.Cells.{record_count, tail_count, record_of, has_number}
use Rattle.lst_core_state.specs.State.{record_in}
use Rattle.lst_rule.specs.declared.records.RecordId.{RecordId}
use Rattle.lst_rule.specs.declared.view.View.{View}
use Rattle.lst_rule.specs.Rule.{knows}
use Rattle.lst_rule.specs.Learned.{Learns, Kept}
use Rattle.lst_rule.specs.Seats.{Sitting}
use Rattle.lst_rule.specs.Shown.{HasWords}
use Rattle.lst_rule.specs.Posting.{IsTailLoad}
use Rattle.lst_second.specs.declared.listing.CandidateFault.{CandidateFault}
use Rattle.lst_second.specs.declared.listing.CandidateFault.TheVariants.{NotIndexed, OutOfMemory}

-- ---- which records hold a value

-- the act puts this number into the column
abbrev pub puts_number : ℕ → ℕ → Act → Bool
puts_number column number (Put row) = holds_at column number row
puts_number column number (Set patch) = is_number number (option_flatten (option_flatten (slice_get patch column)))
puts_number column number Del = false

-- a fact has a key's record, and an act on this key that the session has seen committed, or that is its own, puts the value into the column
pub record HasPut (k : Known) (column value rec : ℕ) : Type 0 where
  pub position : ℕ
  pub key : ℕ
  pub at : Contains k.facts (IndexAt position rec key)
  pub act : Act
  pub known : Contains (all_acts_on key k.seen ++ acts_on key k.own) act
  pub puts : puts_number column value act ≡ true

-- by facts, a stored tail of the record holds the column with the value, which is a number
pub record KnownToHold (l : Limits) (facts : List Fact) (column value rec : ℕ) : Type 0 where
  pub tail : ℕ
  pub encoding : ℕ
  pub values : List ℕ
  pub words : HasWords facts tail encoding values
  pub here : record_of l.tails tail encoding ≡ rec
  pub number : has_number encoding column ≡ true
  pub same : slice_index values column ≡ value

-- by the words, one does
pub record Holds (l : Limits) (w : Words) (column value rec : ℕ) : Type 0 where
  pub tail : ℕ
  pub stored : 0 < w.cells tail 0
  pub few : tail ≤ tail_count l
  pub here : record_in l w.cells tail ≡ rec
  pub number : has_number (w.cells tail 1) column ≡ true
  pub same : w.cells tail (3 + column) ≡ value

-- ---- their list

-- rising, each record of the store once at most
pub record IsRising (l : Limits) (records : List RecordId) : Type 0 where
  pub rises : IsStrictlyIncreasing (map (λ rec. rec.number) records)
  pub low : All (λ rec. rec.number < record_count l) records

-- each record is on it that holds the value by an act that the session s has seen, or by an own one; and a stored tail of each record on it
-- holds the value. A view that knows each word shows that tail
pub record AreHolders (v : View) (s column value : ℕ) (records : List RecordId) : Type 0 where
  pub complete : (rec : ℕ) → HasPut (knows v s) column value rec → Contains records record { number = rec }
  pub known : All (λ rec. KnownToHold v.limits (knows v s).facts column value rec.number) records
  pub shown : v.whole ≡ true → All (λ rec. Holds v.limits (shown v.limits v.words) column value rec.number) records

-- ---- what the steps change

-- of the sessions and the merger only s learnt something: facts, and that it loaded words of tails; and where it has a whole tail in hand, in which
-- columns this is unposted. Of the words that the view knows none has changed
pub record Probes (v w : View) (s : ℕ) : Type 0 where
  pub facts : List Fact
  pub finds : List Find
  pub unposted : ℕ
  pub view : Learns v w s (record (knows v s) {
    draft = record (knows v s).draft { unposted = unposted };
    facts = (knows v s).facts ++ facts;
    finds = (knows v s).finds ++ finds;
  })
  pub loads : All IsTailLoad finds
  pub still : (knows v s).hold.is_whole ≡ false → unposted ≡ (knows v s).draft.unposted
  pub kept : Kept v w

-- ---- refusals

-- NotIndexed where the layout names no index on the column, and then nothing was looked at; want of memory comes only where it names one
abbrev pub IsRefused : Limits → Sitting → Sitting → ℕ → CandidateFault → Type 0
IsRefused l old new column NotIndexed = (¬ IsIndexed l column) × (new ≡ old)
IsRefused l old new column OutOfMemory = IsIndexed l column
