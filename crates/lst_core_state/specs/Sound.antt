-- What holds of every state of the core, in parts. Each part speaks of the areas and of the knowledge that it names, and of nothing else.
use Rattle.std.specs.Prelude.{◌≡◌, ◌≢◌, ◌⊎◌, ℕ, ◌+◌, ◌-◌, ◌*◌, ◌/◌, ◌%◌, ◌<◌, ◌≤◌, List, [], Bool, true, false, length, eqb, slice_index}
use Rattle.std.specs.List.{Contains, AllPairs}
use Rattle.lst_layout.specs.declared.limits.Limits.{Limits}
use Rattle.lst_layout.specs.Limits.{IsValid}
use Rattle.lst_probe.specs.Run.{IsReachable}
use Rattle.lst_model.specs.declared.acts.Act.{Act}
use Rattle.lst_model.specs.declared.acts.Write.{Write}
use Rattle.lst_model.specs.declared.commits.Commit.{Commit}
use Rattle.lst_model.specs.Histories.{acts_on, all_acts_on, Extends}
use Rattle.lst_core_state.specs.Lists.{Has, Links, acts, Below, Ordered, Fitting}
use Rattle.lst_core_state.specs.Writes.{Rising}
use Rattle.lst_core_state.specs.declared.known.Known.{Known}
use Rattle.lst_core_state.specs.declared.known.Counter.{Counter}
use Rattle.lst_core_state.specs.declared.known.Placing.{Placing}
use Rattle.lst_core_state.specs.declared.known.Hold.{Hold}
use Rattle.lst_core_state.specs.declared.known.Draft.{Draft}
use Rattle.lst_core_state.specs.declared.known.Done.{Done}
use Rattle.lst_core_state.specs.declared.known.Looks.{Looks}
use Rattle.lst_core_state.specs.declared.facts.Fact.{Fact}
use Rattle.lst_core_state.specs.declared.facts.Fact.TheVariants.{IndexAt}
use Rattle.lst_core_state.specs.declared.facts.Find.{Find}
use Rattle.lst_core_state.specs.Cells.{record_count, tail_count, range_of, tail_at, has_bit, has_number, IsCell}
use Rattle.lst_core_state.specs.Index.{size, position_of, is_placed}
use Rattle.lst_core_state.specs.Postings.{postings_size, value_first, IsPosted, ArePosted}
use Rattle.lst_core_state.specs.State.{Words, Core, rank, history_of, commits_of, entry, writer, writer_at, name_of, line, record_in, act_in, back_in, head_of, starts, sight, FitsAfter, counter_of}
use Rattle.lst_core_state.specs.Facts.{IsFact, IsFind, WroteOf}

-- ---- the log, the clock, and each session's transactions and turn

-- the words of one session's transactions, bs and ss, its turn, and the log word above the clock, next
pub record Runs (l : Limits) (clock turn next : ℕ) (bs ss : ℕ → ℕ) (s number begin : ℕ) (is_open : Bool) (k : ℕ) : Type 0 where
  pub few : number ≤ l.txns
  pub begun : (n : ℕ) → 0 < n → n ≤ number → 0 < bs n
  pub by_now : (n : ℕ) → bs n ≤ clock + 1
  pub unbegun : (n : ℕ) → number < n → bs n ≡ 0
  pub unused : (n : ℕ) → number < n → ss n ≡ 0
  pub ended : (n : ℕ) → 0 < n → n < number → 0 < ss n
  pub ended_last : is_open ≡ false → 0 < number → 0 < ss number
  pub settled : (n : ℕ) → n ≢ number → ss n ≤ clock + 1
  pub settled_last : k ≢ 4 → ss number ≤ clock + 1
  pub open_number : is_open ≡ true → 0 < number
  pub open_begin : is_open ≡ true → bs number ≡ begin + 1
  pub open_state : is_open ≡ true → k ≢ 4 → ss number ≡ 0
  pub stated : k ≡ 4 → ss number ≡ clock + 2
  pub in_turn : 0 < k → turn ≡ s + 1
  pub turn_in : turn ≡ s + 1 → 0 < k
  pub turn_open : 0 < k → k < 5 → is_open ≡ true
  pub logged : 2 < k → k < 5 → next ≡ 16 * number + s
  pub unlogged : 0 < k → k < 3 → next ≡ 0
  pub unlogged_after : k ≡ 5 → next ≡ 0
  pub rises : (n m : ℕ) → n < m → 1 < ss n → 1 < ss m → ss n < ss m

abbrev pub RunsOf : Limits → Words → ℕ → Known → Type 0
RunsOf l w s v = Runs l w.clock w.turn (w.log (w.clock + 1)) (w.begins s) (w.states s) s v.number v.begin v.is_open (rank v.turn)

abbrev pub Each : Limits → Words → (ℕ → Known) → Type 0
Each l w known = (s : ℕ) → s < l.sessions → RunsOf l w s (known s)

-- the log at the time t names a transaction that is committed then
pub record Names (l : Limits) (entry : ℕ) (begins states : ℕ → ℕ → ℕ) (t : ℕ) : Type 0 where
  pub session : entry % 16 < l.sessions
  pub number : 0 < entry / 16
  pub state : states (entry % 16) (entry / 16) ≡ t + 1
  pub begun : 0 < begins (entry % 16) (entry / 16)
  pub early : begins (entry % 16) (entry / 16) ≤ t

pub record Times (l : Limits) (clock turn : ℕ) (log : ℕ → ℕ) (begins states : ℕ → ℕ → ℕ) : Type 0 where
  pub low : turn ≤ l.sessions
  pub idle : turn ≡ 0 → log (clock + 1) ≡ 0
  pub above : (t : ℕ) → clock + 1 < t → log t ≡ 0
  pub named : (t : ℕ) → 0 < t → t ≤ clock → Names l (log t) begins states t
  pub found : (s n t : ℕ) → s < l.sessions → 0 < t → t ≤ clock → states s n ≡ t + 1 → log t ≡ 16 * n + s

abbrev pub TimesOf : Limits → Words → Type 0
TimesOf l w = Times l w.clock w.turn w.log w.begins w.states

-- ---- what the sessions have seen

-- of the history `all`
pub record View (all : List Commit) (s : ℕ) (seen : List Commit) (begin : ℕ) (is_open : Bool) (k : ℕ) : Type 0 where
  pub prefix : Extends all seen
  pub whole : 2 ≤ k → seen ≡ all
  pub begun : is_open ≡ true → begin ≤ length seen
  pub own : commits_of s seen ≡ commits_of s all

abbrev pub ViewOf : List Commit → ℕ → Known → Type 0
ViewOf all s v = View all s v.seen v.begin v.is_open (rank v.turn)

abbrev pub Views : Limits → List Commit → (ℕ → Known) → Type 0
Views l all known = (s : ℕ) → s < l.sessions → ViewOf all s (known s)

-- ---- counters that numbers are drawn from

-- each value at the limit or above was drawn by one session, which has no load then that serves a draw
pub record Counted (limit sessions counter : ℕ) (knows : ℕ → Counter) : Type 0 where
  pub full : (s : ℕ) → s < sessions → 0 < (knows s).full → (limit < (knows s).full) × ((knows s).full ≤ counter)
  pub serves : (s : ℕ) → s < sessions → (knows s).is_serving ≡ true → (knows s).full ≡ 0
  pub full_by : ℕ → ℕ
  pub fulls : (v : ℕ) → limit ≤ v → v < counter → (full_by v < sessions) × ((knows (full_by v)).full ≡ v + 1)

abbrev pub TailsCounted : Limits → (ℕ → ℕ) → (ℕ → Known) → Type 0
TailsCounted l counts known = (range : ℕ) → range < l.ranges → Counted l.tails l.sessions (counts range) (λ s. counter_of (known s) range)

-- each session keeps one counter a range
abbrev pub HasCounters : Limits → (ℕ → Known) → Type 0
HasCounters l known = (s : ℕ) → s < l.sessions → length (known s).counters ≡ l.ranges

-- ---- the index

-- the position q holds x, whose key is this
pub record Filled (l : Limits) (counter : ℕ) (index : ℕ → ℕ) (key q x : ℕ) : Type 0 where
  pub position : q < size l
  pub low : x ≤ counter
  pub few : x ≤ record_count l
  pub at : ℕ
  pub short : at < size l
  pub is : q ≡ position_of l key at
  pub run : (i : ℕ) → i < at → 0 < index (position_of l key i)

-- the record in hand
pub record Placed (l : Limits) (counter : ℕ) (keys index : ℕ → ℕ) (p : Placing) : Type 0 where
  pub low : p.hand ≤ counter
  pub few : p.hand ≤ record_count l
  pub out : 0 < p.hand → (q : ℕ) → index q ≢ p.hand
  pub keyed : p.has_key ≡ true → (0 < p.hand) × (keys (p.hand - 1) ≡ p.key)

pub record Indexed (l : Limits) (counter : ℕ) (keys index : ℕ → ℕ) (placing : ℕ → Placing) : Type 0 where
  pub filled : (q : ℕ) → 0 < index q → Filled l counter index (keys (index q - 1)) q (index q)
  pub one : (q p : ℕ) → 0 < index q → 0 < index p → keys (index q - 1) ≡ keys (index p - 1) → q ≡ p
  pub hands : (s : ℕ) → s < l.sessions → Placed l counter keys index (placing s)
  pub apart : (s t : ℕ) → s < l.sessions → t < l.sessions → 0 < (placing s).hand → (placing s).hand ≡ (placing t).hand → s ≡ t
  pub counted : Counted (record_count l) l.sessions counter (λ s. (placing s).counter)
  pub drawer : ℕ → ℕ
  pub drawns : (r : ℕ) → r < counter → r < record_count l → (drawer r < l.sessions) × Contains (placing (drawer r)).drawn r

abbrev pub IndexOf : Limits → Words → (ℕ → Known) → Type 0
IndexOf l w known = Indexed l w.counter w.keys w.index (λ s. (known s).placing)

-- ---- versions

-- the tail g of a range was drawn
abbrev pub Drawn : Limits → (ℕ → ℕ) → ℕ → ℕ → Type 0
Drawn l counts range g = (range * l.tails < g) × (g ≤ range * l.tails + l.tails) × (g ≤ range * l.tails + counts range)

-- the chain ys of the record r
pub record Line (r head : ℕ) (log : ℕ → ℕ) (begins states : ℕ → ℕ → ℕ) (starts backs records : ℕ → ℕ) (made : ℕ → Act) (ys : List ℕ) : Type 0 where
  pub links : Links backs head ys
  pub stored : (t : ℕ) → Has t ys → 0 < starts t
  pub here : (t : ℕ) → Has t ys → records t ≡ r
  pub ordered : Ordered (entry states) (entry begins) (λ t. writer log (starts t)) ys
  pub fits : Fitting FitsAfter (entry states) (λ t. writer log (starts t)) made ys

abbrev pub LineOf : Limits → Words → ℕ → Type 0
LineOf l w r = Line r (head_of l r (w.heads r)) w.log w.begins w.states (starts w) (back_in l w.cells) (record_in l w.cells) (act_in l w.cells) (line l w r)

-- a transaction that was begun
abbrev pub Begun : Limits → (ℕ → Known) → ℕ → Type 0
Begun l known x = (x % 16 < l.sessions) × (0 < x / 16) × (x / 16 ≤ (known (x % 16)).number)

-- a tail in hand whose start word is stored
abbrev pub InHand : Limits → (ℕ → Known) → ℕ → Type 0
InHand l known t = (s : ℕ) × (s < l.sessions) × ((known s).hold.tail ≡ t) × ((known s).hold.is_whole ≡ true)

-- a tail whose start word is stored; ys is its record's chain
pub record Stored (l : Limits) (clock : ℕ) (counts : ℕ → ℕ) (known : ℕ → Known) (t start own rec : ℕ) (placed : Bool) (ys : List ℕ) : Type 0 where
  pub begun : Begun l known own
  pub stamped : start % 2 ≡ 0 → (0 < start / 2) × (start / 2 ≤ clock)
  pub few : t ≤ tail_count l
  pub drawn : Drawn l counts (range_of rec) t
  pub low : rec < record_count l
  pub index : placed ≡ true
  pub place : Has t ys ⊎ InHand l known t

abbrev pub StoredOf : Limits → Words → (ℕ → Known) → ℕ → Type 0
StoredOf l w known t = Stored l w.clock w.counts known t (w.cells t 0) (writer_at w t) (record_in l w.cells t) (is_placed l w.index (record_in l w.cells t)) (line l w (record_in l w.cells t))

-- what a session has in hand: its latch, whose record has the indirection word `head` and the chain ys, and its tail
pub record Hand (l : Limits) (placed : Bool) (counts : ℕ → ℕ) (head : ℕ) (log : ℕ → ℕ) (begins states : ℕ → ℕ → ℕ) (starts records : ℕ → ℕ) (ys : List ℕ) (own : ℕ) (h : Hold) (is_open read_only : Bool) (k : ℕ) : Type 0 where
  pub opened : 0 < h.latch → is_open ≡ true
  pub writes : 0 < h.latch → read_only ≡ false
  pub away : 0 < h.latch → k ≡ 0
  pub low : h.latch ≤ record_count l
  pub index : 0 < h.latch → placed ≡ true
  pub latched : 0 < h.latch → head ≡ 2 * h.head + 1
  pub holds : 0 < h.tail → 0 < h.latch
  pub above : 0 < h.tail → tail_at l.tails (range_of (h.latch - 1)) h.head < h.tail
  pub counted : 0 < h.tail → Drawn l counts (range_of (h.latch - 1)) h.tail
  pub few : h.tail ≤ tail_count l
  pub blank : h.is_whole ≡ false → 0 < h.tail → starts h.tail ≡ 0
  pub some : h.is_whole ≡ true → 0 < h.tail
  pub start : h.is_whole ≡ true → starts h.tail ≡ 1 + 2 * own
  pub here : h.is_whole ≡ true → records h.tail ≡ h.latch - 1
  pub judged : 0 < h.tail → Below (entry states) (entry begins) (λ t. writer log (starts t)) own ys

abbrev pub HandOf : Limits → Words → ℕ → Known → Type 0
HandOf l w s v = Hand l (is_placed l w.index (v.hold.latch - 1)) w.counts (w.heads (v.hold.latch - 1)) w.log w.begins w.states (starts w) (record_in l w.cells) (line l w (v.hold.latch - 1)) (name_of s v.number) v.hold v.is_open v.read_only (rank v.turn)

-- a session has the latch of the record
abbrev pub Latched : Limits → (ℕ → Known) → ℕ → Type 0
Latched l known r = (s : ℕ) × (s < l.sessions) × ((known s).hold.latch ≡ r + 1)

pub record Versions (l : Limits) (w : Words) (known : ℕ → Known) : Type 0 where
  pub zero_blank : w.cells 0 0 ≡ 0
  pub lines : (r : ℕ) → r < record_count l → LineOf l w r
  pub stored : (t : ℕ) → 0 < w.cells t 0 → StoredOf l w known t
  pub hands : (s : ℕ) → s < l.sessions → HandOf l w s (known s)
  pub tails_apart : (s j : ℕ) → s < l.sessions → j < l.sessions → 0 < (known s).hold.tail → (known s).hold.tail ≡ (known j).hold.tail → s ≡ j
  pub latches_apart : (s j : ℕ) → s < l.sessions → j < l.sessions → 0 < (known s).hold.latch → (known s).hold.latch ≡ (known j).hold.latch → s ≡ j
  pub held : (r : ℕ) → r < record_count l → w.heads r % 2 ≡ 1 → Latched l known r
  pub keys_apart : (r q : ℕ) → r < record_count l → q < record_count l → is_placed l w.index r ≡ true → is_placed l w.index q ≡ true → w.keys r ≡ w.keys q → r ≡ q
  pub unplaced : (r : ℕ) → r < record_count l → is_placed l w.index r ≡ false → w.heads r ≡ 0

-- ---- own writes

-- the own writes are the versions of the open transaction
pub record Owns (l : Limits) (own : ℕ) (log keys : ℕ → ℕ) (placed : ℕ → Bool) (starts : ℕ → ℕ) (made : ℕ → Act) (chains : ℕ → List ℕ) (writes : List Write) (is_open : Bool) : Type 0 where
  pub none : is_open ≡ false → writes ≡ []
  pub rising : Rising 0 writes
  pub else : (k : ℕ) → ((r : ℕ) → r < record_count l → placed r ≡ true → keys r ≢ k) → acts_on k writes ≡ []
  pub each : is_open ≡ true → (r : ℕ) → r < record_count l → placed r ≡ true → acts_on (keys r) writes ≡ acts (λ t. eqb (writer log (starts t)) own) made (chains r)

abbrev pub OwnsOf : Limits → Words → ℕ → Known → Type 0
OwnsOf l w s v = Owns l (name_of s v.number) w.log w.keys (is_placed l w.index) (starts w) (act_in l w.cells) (line l w) v.own v.is_open

abbrev pub Owned : Limits → Words → (ℕ → Known) → Type 0
Owned l w known = (s : ℕ) → s < l.sessions → OwnsOf l w s (known s)

-- the act of the tail in hand, once it is whole, fits what its transaction sees
abbrev pub FitsOf : Limits → Words → Known → Type 0
FitsOf l w v = v.hold.is_whole ≡ true → FitsAfter (sight v (w.keys (v.hold.latch - 1))) (act_in l w.cells v.hold.tail)

abbrev pub Fit : Limits → Words → (ℕ → Known) → Type 0
Fit l w known = (s : ℕ) → s < l.sessions → FitsOf l w (known s)

-- ---- the words of tails

-- the words of a tail in hand are as its session stored them
pub record Drafted (columns tail : ℕ) (d : Draft) (words : ℕ → ℕ) : Type 0 where
  pub wide : length d.words ≡ 3 + columns
  pub is : (p : ℕ) → p < 3 + columns → words p ≡ slice_index d.words p

pub record TailWords (l : Limits) (counts : ℕ → ℕ) (cells : ℕ → ℕ → ℕ) (known : ℕ → Known) : Type 0 where
  pub drafts : (s : ℕ) → s < l.sessions → 0 < (known s).hold.tail → Drafted l.columns (known s).hold.tail (known s).draft (cells (known s).hold.tail)
  pub images : (t : ℕ) → 0 < cells t 0 → IsCell l.columns (cells t 1) (λ c. cells t (3 + c))
  pub undrawn : (t p : ℕ) → ((range : ℕ) → range < l.ranges → ¬ Drawn l counts range t) → cells t p ≡ 0

-- ---- postings

-- the position q of a column holds the tail t: it is stored, it holds the column with a number, and it stands in the run of that number
-- with no empty position before it
pub record Posting (l : Limits) (cells : ℕ → ℕ → ℕ) (tails : ℕ → ℕ) (column q t : ℕ) : Type 0 where
  pub stored : 0 < cells t 0
  pub number : has_number (cells t 1) column ≡ true
  pub reached : IsReachable tails (postings_size l) (value_first l (cells t (3 + column))) q

-- the marks of the columns of the tail in hand: where it was posted, the column is posted, and where it was found unposted, it isn't posted, unless
-- the tail was posted since
pub record Marks (l : Limits) (cells postings : ℕ → ℕ → ℕ) (h : Hold) (d : Draft) : Type 0 where
  pub posted : (column : ℕ) → 0 < h.tail → has_bit d.posted column ≡ true → (h.is_whole ≡ true) × IsPosted l cells (postings column) column (h.latch - 1) (cells h.tail (3 + column))
  pub found : (column : ℕ) → 0 < h.tail → has_bit d.unposted column ≡ true → (h.is_whole ≡ true) × (has_number (cells h.tail 1) column ≡ true)
  pub unposted : (column : ℕ) → 0 < h.tail → has_bit d.unposted column ≡ true → has_bit d.posted column ≡ false → ¬ IsPosted l cells (postings column) column (h.latch - 1) (cells h.tail (3 + column))

abbrev pub MarksOf : Limits → Words → Known → Type 0
MarksOf l w v = Marks l w.cells w.postings v.hold v.draft

-- of the tails on the chains each indexed column that they hold with a number is posted, and positions of a column hold different tails
pub record Postings (l : Limits) (cells postings : ℕ → ℕ → ℕ) (chains : ℕ → List ℕ) (holds : ℕ → Hold) (drafts : ℕ → Draft) : Type 0 where
  pub chained : (r : ℕ) → r < record_count l → (t : ℕ) → Has t (chains r) → ArePosted l cells postings r t
  pub filled : (column q : ℕ) → 0 < postings column q → Posting l cells (postings column) column q (postings column q)
  pub once : (column p q : ℕ) → 0 < postings column p → postings column p ≡ postings column q → p ≡ q
  pub marks : (s : ℕ) → s < l.sessions → Marks l cells postings (holds s) (drafts s)

abbrev pub PostingsOf : Limits → Words → (ℕ → Known) → Type 0
PostingsOf l w known = Postings l w.cells w.postings (line l w) (λ s. (known s).hold) (λ s. (known s).draft)

-- ---- the lists of what was drawn, latched and done

-- each version on a chain is once in the list of its writer, and the list has nothing else
pub record Listed (l : Limits) (w : Words) (known : ℕ → Known) : Type 0 where
  pub every : (r : ℕ) → r < record_count l → (t : ℕ) → Has t (line l w r) → Contains (known (writer_at w t % 16)).done record { number = writer_at w t / 16; rec = r; tail = t }
  pub only : (s : ℕ) → s < l.sessions → (d : Done) → Contains (known s).done d → (d.rec < record_count l) × Has d.tail (line l w d.rec) × (writer_at w d.tail ≡ name_of s d.number)
  pub once : (s : ℕ) → s < l.sessions → AllPairs (λ d e. d.tail ≢ e.tail) (known s).done
  pub latched : (s : ℕ) → s < l.sessions → 0 < (known s).hold.latch → Contains (known s).latched ((known s).hold.latch - 1)
  -- a tail that was drawn is on a chain, or in hand
  pub tails : (range g : ℕ) → range < l.ranges → Drawn l w.counts range g → ((r : ℕ) × (r < record_count l) × Has g (line l w r)) ⊎ ((s : ℕ) × (s < l.sessions) × ((known s).hold.tail ≡ g))

-- ---- what steps have found

abbrev pub FactsOf : Limits → Words → List Fact → Type 0
FactsOf l w facts = (f : Fact) → Contains facts f → IsFact l w f

-- some fact has the key's record
abbrev pub IsRecorded : List Fact → ℕ → Type 0
IsRecorded facts k = (q : ℕ) × (r : ℕ) × Contains facts (IndexAt q r k)

-- of each key that these commits wrote
abbrev pub SeenIsRecorded : List Fact → List Commit → Type 0
SeenIsRecorded facts seen = (k : ℕ) → (all_acts_on k seen ≡ []) ⊎ IsRecorded facts k

-- the facts have the record of each key that was seen or is own, and the record of the latch in hand, which has this key
pub record Recorded (facts : List Fact) (seen : List Commit) (own : List Write) (latch key : ℕ) : Type 0 where
  pub seen_keys : SeenIsRecorded facts seen
  pub own_keys : (k : ℕ) → (acts_on k own ≡ []) ⊎ IsRecorded facts k
  pub latched : 0 < latch → (q : ℕ) × Contains facts (IndexAt q (latch - 1) key)

abbrev pub RecordedOf : (ℕ → ℕ) → Known → Type 0
RecordedOf keys v = Recorded v.facts v.seen v.own v.hold.latch (keys (v.hold.latch - 1))

-- what the words that were loaded last say, for good
pub record Looked (l : Limits) (states : ℕ → ℕ → ℕ) (known : ℕ → Known) (k : Looks) : Type 0 where
  pub session : k.session < l.sessions
  pub state : 0 < k.state → states k.session k.number ≡ k.state
  pub start : (j n : ℕ) → j < l.sessions → k.start ≡ 1 + 2 * name_of j n → WroteOf (known j) n (k.about - 1) k.tail

-- what the session s found is so
pub record Found (l : Limits) (counter : ℕ) (counts : ℕ → ℕ) (clock : ℕ) (log : ℕ → ℕ) (states : ℕ → ℕ → ℕ) (known : ℕ → Known) (s : ℕ) (finds : List Find) (k : Looks) : Type 0 where
  pub each : (f : Find) → Contains finds f → IsFind l counter counts clock log known s f
  pub last : Looked l states known k

abbrev pub FoundOf : Limits → Words → (ℕ → Known) → ℕ → Known → Type 0
FoundOf l w known s v = Found l w.counter w.counts w.clock w.log w.states known s v.finds v.looks

-- ---- all parts

pub record Sound (c : Core) : Type 0 where
  pub sized : IsValid c.limits
  pub times : TimesOf c.limits c.words
  pub each : Each c.limits c.words c.known
  pub views : Views c.limits (history_of c.limits c.words) c.known
  pub index : IndexOf c.limits c.words c.known
  pub versions : Versions c.limits c.words c.known
  pub owned : Owned c.limits c.words c.known
  pub fit : Fit c.limits c.words c.known
  pub tail_words : TailWords c.limits c.words.counts c.words.cells c.known
  pub counted : TailsCounted c.limits c.words.counts c.known
  pub counters : HasCounters c.limits c.known
  pub postings : PostingsOf c.limits c.words c.known
  pub listed : Listed c.limits c.words c.known
  pub facts : (s : ℕ) → s < c.limits.sessions → FactsOf c.limits c.words (c.known s).facts
  pub recorded : (s : ℕ) → s < c.limits.sessions → RecordedOf c.words.keys (c.known s)
  pub found : (s : ℕ) → s < c.limits.sessions → FoundOf c.limits c.words c.known s (c.known s)
  pub merger_facts : FactsOf c.limits c.words c.merger.facts
  pub merger_seen : Extends (history_of c.limits c.words) c.merger.seen
  pub merger_counters : length c.merger.counters ≡ c.limits.ranges
  pub merger_recorded : SeenIsRecorded c.merger.facts c.merger.seen
  pub merger_found : FoundOf c.limits c.words c.known c.limits.sessions c.merger
  pub merger_idle : c.merger.is_open ≡ false
