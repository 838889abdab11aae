-- How a session comes to a tail that holds its act.
use Rattle.std.specs.Prelude.{◌≡◌, ◌≢◌, ℕ, ◌+◌, ◌-◌, ◌*◌, ◌^◌, ◌<◌, ◌≤◌, List, [], ◌∷◌, ◌++◌, Bool, true, false, length, replicate, slice_index}
use Rattle.std.specs.List.{Contains}
use Rattle.lst_layout.specs.declared.limits.Limits.{Limits}
use Rattle.lst_layout.specs.Functions.{put}
use Rattle.lst_layout.specs.Words.{Words, shown}
use Rattle.lst_model.specs.declared.acts.Act.{Act}
use Rattle.lst_model.specs.Histories.{joined}
use Rattle.lst_core_state.specs.Writes.{write}
use Rattle.lst_core_state.specs.declared.known.Known.{Known}
use Rattle.lst_core_state.specs.declared.known.Counter.{Counter}
use Rattle.lst_core_state.specs.declared.known.Draft.{Draft}
use Rattle.lst_core_state.specs.declared.known.Hold.{Hold}
use Rattle.lst_core_state.specs.declared.facts.Fact.{Fact}
use Rattle.lst_core_state.specs.declared.facts.Fact.TheVariants.{CellIs}
use Rattle.lst_core_state.specs.declared.facts.Find.{Find}
use Rattle.lst_core_state.specs.declared.facts.Find.TheVariants.{CountedTails, FullTails}
use Rattle.lst_core_state.specs.Cells.{range_of, act_of}
use Rattle.lst_core_state.specs.State.{name_of, sight as sight_of, FitsAfter, no_hold}
use Rattle.lst_rule.specs.declared.view.View.{View}
use Rattle.lst_rule.specs.Rule.{knows, hosts}
use Rattle.lst_rule.specs.Learned.{Learns, Kept}
use Rattle.lst_rule.specs.Seen.{HasKey}
use Rattle.lst_rule.specs.declared.store.Store.{Store}
use Rattle.lst_rule.specs.Seats.{Sitting}
use Rattle.lst_rule.specs.Stores.{IsSeatOf}

-- the act fits the row of the record's key that the open transaction sees
abbrev pub FitsSight : Known → ℕ → Act → Type 0
FitsSight k rec act = (key : ℕ) × HasKey k.facts rec key × FitsAfter (sight_of k key) act

-- the latch of the record, whose newest version has the number `head` in its range, and the tail with the number n there
abbrev pub tail_of : Limits → ℕ → ℕ → ℕ → Bool → Hold
tail_of l rec head n is_whole = record { latch = rec + 1; head = head; tail = range_of rec * l.tails + n; is_whole = is_whole }

-- the tail in hand is whole: it holds the act, above the head
pub record HasWhole (l : Limits) (k : Known) (s rec head n : ℕ) (act : Act) : Type 0 where
  pub hold : k.hold ≡ tail_of l rec head n true
  pub encoding : ℕ
  pub values : List ℕ
  pub stored : Contains k.facts (CellIs (range_of rec * l.tails + n) (name_of s k.number) encoding head values)
  pub says : act_of encoding values ≡ act

-- ---- words of tails

-- of the words only those of one tail differ
pub record ChangesTail (a b : Words) (tail : ℕ) : Type 0 where
  pub rest : b ≡ record a { cells = b.cells }
  pub others : (t p : ℕ) → t ≢ tail → b.cells t p ≡ a.cells t p

-- the tail counter of the range is n
abbrev pub with_count : Words → ℕ → ℕ → Words
with_count w range n = record w { counts = put w.counts range n }

-- the words that the view knows
abbrev pub known_words : View → Words
known_words v = shown v.limits v.words

-- ---- the draw of a tail

-- the session s has found the range's tail counter below its limit, or at it or above
pub record Counts (v w : View) (s range count : ℕ) (finds : List Find) : Type 0 where
  pub counters : List Counter
  pub facts : List Fact
  pub view : Learns v w s (record (knows v s) { counters = counters; facts = (knows v s).facts ++ facts; finds = (knows v s).finds ++ CountedTails range count ∷ finds })

-- no tail was drawn, since the range's tail counter was found full. Where the view knows each word, none has changed
pub record FindsFull (v w : View) (s range : ℕ) : Type 0 where
  pub count : ℕ
  pub counts : Counts v w s range count (FullTails range ∷ [])
  pub kept : Kept v w

-- the session s has drawn the tail with the number n in the record's range, and found no counter full
pub record Draws (v w : View) (s rec head n : ℕ) : Type 0 where
  pub some : 0 < n
  pub few : n ≤ v.limits.tails
  pub count : ℕ
  pub counters : List Counter
  pub facts : List Fact
  pub view : Learns v w s (record (knows v s) {
    hold = tail_of v.limits rec head n false;
    draft = record { words = replicate (3 + v.limits.columns) 0; stored = 0; posted = 0; unposted = 0 };
    counters = counters;
    facts = (knows v s).facts ++ facts;
    finds = (knows v s).finds ++ CountedTails (range_of rec) count ∷ [];
  })
  -- the number is the next one of the range, which the counter has then
  pub words : v.whole ≡ true → (n ≡ (known_words v).counts (range_of rec) + 1) × (known_words w ≡ with_count (known_words v) (range_of rec) n)

-- ---- the stores of a tail

-- the words at the places from 1 to below p are stored, and are these
pub record IsDraft (columns : ℕ) (d : Draft) (word : ℕ → ℕ) (p : ℕ) : Type 0 where
  pub wide : length d.words ≡ 3 + columns
  pub stored : d.stored ≡ 2 ^ p - 2
  pub same : (q : ℕ) → 0 < q → q < p → slice_index d.words q ≡ word q

-- words were stored since the view was v, up to the place p
pub record Stores (store : Store) (v : View) (seat : Sitting) (s : ℕ) (word : ℕ → ℕ) (p : ℕ) : Type 0 where
  pub seat_of : IsSeatOf store seat
  pub host : hosts seat.view s ≡ true
  pub view : Learns v seat.view s (record (knows v s) { draft = (knows seat.view s).draft })
  pub some : 0 < p
  pub low : p ≤ 3 + store.layout.limits.columns
  pub draft : IsDraft store.layout.limits.columns (knows seat.view s).draft word p
  pub words : v.whole ≡ true → ChangesTail (known_words v) (known_words seat.view) (knows v s).hold.tail

-- ---- both

-- the session s has drawn a tail and stored it, whole
pub record Appends (v w : View) (s rec head n : ℕ) (act : Act) : Type 0 where
  pub some : 0 < n
  pub few : n ≤ v.limits.tails
  pub count : ℕ
  pub draft : Draft
  pub counters : List Counter
  pub facts : List Fact
  pub view : Learns v w s (record (knows v s) {
    hold = tail_of v.limits rec head n true;
    draft = draft;
    counters = counters;
    facts = (knows v s).facts ++ facts;
    finds = (knows v s).finds ++ CountedTails (range_of rec) count ∷ [];
  })
  pub whole : HasWhole w.limits (knows w s) s rec head n act
  -- the number is the next one of the range, which the counter has then. Beside it only words of that tail were stored
  pub words : v.whole ≡ true → (n ≡ (known_words v).counts (range_of rec) + 1) × ChangesTail (with_count (known_words v) (range_of rec) n) (known_words w) (range_of rec * v.limits.tails + n)

-- ---- the install

-- the session s has put its tail, the number n in the record's range, onto the record's chain: it is one more own write, of the act on
-- the key, and the last act on the key that the transaction sees
pub record Installs (v w : View) (s rec n key : ℕ) (act : Act) : Type 0 where
  pub view : Learns v w s (record (knows v s) {
    hold = no_hold;
    own = joined (knows v s).own (write key act);
    done = (knows v s).done ++ record { number = (knows v s).number; rec = rec; tail = range_of rec * v.limits.tails + n } ∷ [];
  })
  pub sight : sight_of (knows w s) key ≡ sight_of (knows v s) key ++ act ∷ []

-- whichever key the record has, and whichever act the tail holds
abbrev pub InstallsHeld : View → View → ℕ → ℕ → ℕ → Type 0
InstallsHeld v w s rec n = (key head : ℕ) (act : Act) → HasKey (knows v s).facts rec key → HasWhole v.limits (knows v s) s rec head n act → Installs v w s rec n key act
