-- The kinds of step: where each is enabled, and what it changes.
use Rattle.std.specs.Prelude.{◌≡◌, ℕ, ◌+◌, ◌-◌, ◌*◌, ◌/◌, ◌%◌, ◌^◌, ◌<◌, ◌≤◌, List, [], ◌∷◌, ◌++◌, Bool, true, false, cond, eqb, nat_lt, ◌&&◌, ◌||◌, bit_or, length, replicate, slice_set}
use Rattle.lst_layout.specs.declared.limits.Limits.{Limits}
use Rattle.lst_layout.specs.Areas.{words_of, IsIndexed}
use Rattle.lst_model.specs.Histories.{joined}
use Rattle.lst_layout.specs.Functions.{put, put_in}
use Rattle.lst_core_state.specs.Lists.{Judged}
use Rattle.lst_core_state.specs.Writes.{write, commit}
use Rattle.lst_core_state.specs.declared.events.Event.{Event}
use Rattle.lst_core_state.specs.declared.events.Event.TheVariants.{Look, Begin, Take, Log, State, Clock, Give, Close, DrawRecord, StoreKey, Claim, Latch, DrawTail, StoreCell, Install, Release, Stamp, Post}
use Rattle.lst_layout.specs.declared.place.Place.{Place}
use Rattle.lst_layout.specs.declared.place.Place.TheVariants.{ClockWord, EpochWord, RecordCounter, StateWord, KeyWord, IndexWord, HeadWord, TailCounter, CellWord, PostingWord}
use Rattle.lst_core_state.specs.declared.facts.Fact.TheVariants.{RecordsAtLeast, TailsAtLeast, EpochAtLeast, IndexAt, PostAt}
use Rattle.lst_core_state.specs.declared.facts.Find.{Find}
use Rattle.lst_core_state.specs.declared.facts.Find.TheVariants.{LatchedRecord, FreshClock, FreshEpoch, HeldTurn, FullRecords, FullTails, CountedTails, EmptyStart, TailLoad}
use Rattle.lst_core_state.specs.declared.known.Known.{Known}
use Rattle.lst_core_state.specs.declared.known.Counter.{Counter}
use Rattle.lst_core_state.specs.declared.known.Stage.{Stage}
use Rattle.lst_core_state.specs.declared.known.Stage.TheVariants.{Away, Taken, Fresh, Logged, Stated, Done}
use Rattle.lst_core_state.specs.Cells.{record_count, range_of, IsCell}
use Rattle.lst_core_state.specs.Index.{size, is_placed, Reaches}
use Rattle.lst_core_state.specs.Postings.{postings_size, IsPut, IsPostable, is_unposted}
use Rattle.lst_core_state.specs.State.{Words, Core, rank, name_of, entry, writer_at, state_at, line, record_in, act_in, history_of, sight, FitsAfter, no_hold, counter_of}
use Rattle.lst_layout.specs.Addresses.{place_of}
use Rattle.lst_core_state.specs.Facts.{index_fact, index_facts, state_fact, cell_fact, stored_fact, commit_fact, chain_facts, range_facts, post_fact, active_find, early_find}

abbrev pub session_of : Event → ℕ
session_of (Look s a) = s
session_of (Begin s b r) = s
session_of (Take s) = s
session_of (Log s) = s
session_of (State s) = s
session_of (Clock s) = s
session_of (Give s) = s
session_of (Close s) = s
session_of (DrawRecord s) = s
session_of (StoreKey s k) = s
session_of (Claim s q) = s
session_of (Latch s r) = s
session_of (DrawTail s range) = s
session_of (StoreCell s p x) = s
session_of (Install s) = s
session_of (Release s) = s
session_of (Stamp s range n) = s
session_of (Post s c q) = s

-- the fields of an event are within the limits. The merger is one more session, which only loads
abbrev pub IsWithin : Limits → Event → Type 0
IsWithin l (Look s a) = (s ≤ l.sessions) × (a < words_of l)
IsWithin l (Claim s q) = (s < l.sessions) × (q < size l)
IsWithin l (Latch s r) = (s < l.sessions) × (r < record_count l)
IsWithin l (DrawTail s range) = (s < l.sessions) × (range < l.ranges)
IsWithin l (StoreCell s p x) = (s < l.sessions) × (p < 3 + l.columns)
IsWithin l (Stamp s range n) = (s < l.sessions) × (range < l.ranges) × (0 < n) × (n ≤ l.tails)
IsWithin l (Post s c q) = (s < l.sessions) × (c < l.columns) × (q < postings_size l)
IsWithin l e = session_of e < l.sessions

-- ---- where a step may be made

-- the start word comes last, and names the own open transaction
abbrev pub ComesLast : Limits → Known → ℕ → ℕ → ℕ → Type 0
ComesLast l v s p x = p ≡ 0 → (v.draft.stored ≡ 2 ^ (3 + l.columns) - 2) × (x ≡ 1 + 2 * name_of s v.number)

-- what the session itself knows allows the step
abbrev pub Enabled : Limits → Known → Event → Type 0
Enabled l v (Look s a) = Unit {0}
Enabled l v (Begin s b r) = (v.is_open ≡ false) × (v.number < l.txns) × (b ≤ length v.seen)
Enabled l v (Take s) = (v.is_open ≡ true) × (rank v.turn ≡ 0) × (v.hold.latch ≡ 0) × (0 < length v.own)
Enabled l v (Log s) = rank v.turn ≡ 2
Enabled l v (State s) = rank v.turn ≡ 3
Enabled l v (Clock s) = rank v.turn ≡ 4
Enabled l v (Give s) = (0 < rank v.turn) × (¬ (rank v.turn ≡ 3)) × (¬ (rank v.turn ≡ 4))
Enabled l v (Close s) = (v.is_open ≡ true) × (rank v.turn ≡ 0) × (v.hold.latch ≡ 0)
Enabled l v (DrawRecord s) = (v.placing.hand ≡ 0) × (v.placing.counter.is_serving ≡ true)
Enabled l v (StoreKey s k) = 0 < v.placing.hand
Enabled l v (Claim s q) = v.placing.has_key ≡ true
Enabled l v (Latch s r) = (v.is_open ≡ true) × (v.read_only ≡ false) × (rank v.turn ≡ 0) × (v.hold.latch ≡ 0)
Enabled l v (DrawTail s range) = (0 < v.hold.latch) × (range_of (v.hold.latch - 1) ≡ range) × (v.hold.tail ≡ 0) × ((counter_of v range).is_serving ≡ true)
Enabled l v (StoreCell s p x) = (0 < v.hold.tail) × (v.hold.is_whole ≡ false) × ComesLast l v s p x
Enabled l v (Install s) = v.hold.is_whole ≡ true
Enabled l v (Release s) = (0 < v.hold.latch) × (v.hold.tail ≡ 0)
Enabled l v (Stamp s range n) = Unit {0}
Enabled l v (Post s c q) = (v.hold.is_whole ≡ true) × IsIndexed l c

-- the words of the tail in hand but the start word are those of a write on the latched record that fits what the transaction sees
abbrev pub IsDrafted : Limits → Words → Known → ℕ → Type 0
IsDrafted l w v p = p ≡ 0 → IsCell l.columns (w.cells v.hold.tail 1) (λ c. w.cells v.hold.tail (3 + c)) × (record_in l w.cells v.hold.tail ≡ v.hold.latch - 1)
    × FitsAfter (sight v (w.keys (v.hold.latch - 1))) (act_in l w.cells v.hold.tail)

-- the tail is stored, and its transaction is committed by the clock
abbrev pub IsCommitted : Words → ℕ → Type 0
IsCommitted w t = (0 < w.cells t 0) × (1 < state_at w t) × (state_at w t ≤ w.clock + 1)

-- and the words allow it
abbrev pub Stands : Limits → Words → Known → Event → Type 0
Stands l w v (Claim s q) = Reaches l w.keys w.index v.placing.key q
Stands l w v (Latch s r) = is_placed l w.index r ≡ true
Stands l w v (DrawTail s range) = Judged (entry w.states) (entry w.begins) (writer_at w) (name_of s v.number) (line l w (v.hold.latch - 1))
Stands l w v (StoreCell s p x) = IsDrafted l w v p
Stands l w v (Install s) = IsPut l w v.hold
Stands l w v (Stamp s range n) = IsCommitted w (range * l.tails + n)
Stands l w v (Post s c q) = IsPostable l w v.hold c q
Stands l w v e = Unit {0}

-- ---- what a step changes

-- the number in its range of a tail of the record
abbrev pub number_in : Limits → ℕ → ℕ → ℕ
number_in l r t = t - range_of r * l.tails

abbrev pub words_after : Limits → Words → Known → Event → Words
words_after l w v (Look s a) = w
words_after l w v (Begin s b r) = record w { begins = put_in w.begins s (v.number + 1) (b + 1) }
words_after l w v (Take s) = record w { turn = cond (eqb w.turn 0) (s + 1) w.turn }
words_after l w v (Log s) = record w { log = put w.log (w.clock + 1) (name_of s v.number) }
words_after l w v (State s) = record w { states = put_in w.states s v.number (w.clock + 2) }
words_after l w v (Clock s) = record w { clock = w.clock + 1 }
words_after l w v (Give s) = record w { turn = 0 }
words_after l w v (Close s) = record w { states = put_in w.states s v.number 1 }
words_after l w v (DrawRecord s) = record w { counter = w.counter + 1 }
words_after l w v (StoreKey s k) = record w { keys = put w.keys (v.placing.hand - 1) k }
words_after l w v (Claim s q) = record w { index = put w.index q (cond (eqb (w.index q) 0) v.placing.hand (w.index q)) }
words_after l w v (Latch s r) = record w { heads = put w.heads r (2 * (w.heads r / 2) + 1) }
words_after l w v (DrawTail s range) = record w { counts = put w.counts range (w.counts range + 1) }
words_after l w v (StoreCell s p x) = record w { cells = put_in w.cells v.hold.tail p x }
words_after l w v (Install s) = record w { heads = put w.heads (v.hold.latch - 1) (2 * number_in l (v.hold.latch - 1) v.hold.tail) }
words_after l w v (Release s) = record w { heads = put w.heads (v.hold.latch - 1) (2 * v.hold.head) }
words_after l w v (Stamp s range n) = record w { cells = put_in w.cells (range * l.tails + n) 0 (2 * (state_at w (range * l.tails + n) - 1)) }
words_after l w v (Post s c q) = record w { postings = put_in w.postings c q (cond (eqb (w.postings c q) 0) v.hold.tail (w.postings c q)) }

-- ---- what the session knows then

-- after a load of the clock
abbrev pub refreshed : Stage → Stage
refreshed Taken = Fresh
refreshed k = k

-- after a load, or a draw, of a counter that had this value
abbrev pub served : ℕ → ℕ → Counter → Counter
served limit x c = record c { is_serving = c.is_serving || nat_lt x limit }

abbrev pub drawn_full : ℕ → Counter
drawn_full x = record { is_serving = false; full = x + 1 }

abbrev pub spent : Counter → Counter
spent c = record c { is_serving = false }

abbrev pub if_full : ℕ → ℕ → Find → List Find
if_full limit x f = cond (nat_lt x limit) [] (f ∷ [])

-- a session reads while it has a transaction open, and no latch
abbrev pub is_reading : Known → Bool
is_reading v = v.is_open && eqb v.hold.latch 0

-- the record in hand is given up where its key shows on another one, which the index word loaded last named
abbrev pub gives_up : Known → ℕ → ℕ → Bool
gives_up v r key = cond (eqb v.placing.hand (r + 1)) false (v.placing.has_key && eqb key v.placing.key && eqb v.looks.index (r + 1))

abbrev pub given_up : Known → Known
given_up v = record v { placing = record v.placing { hand = 0; has_key = false } }

-- a load, by what lies at the address
abbrev pub look_at : Limits → Words → Known → Place → Known
look_at l w v ClockWord = record v { seen = history_of l w; turn = refreshed v.turn; facts = v.facts ++ index_facts l w; finds = v.finds ++ FreshClock w.clock ∷ early_find v w.clock }
look_at l w v EpochWord = record v { facts = v.facts ++ EpochAtLeast w.epoch ∷ []; finds = v.finds ++ FreshEpoch w.epoch ∷ [] }
look_at l w v RecordCounter = record v {
  placing = record v.placing { counter = served (record_count l) w.counter v.placing.counter };
  facts = v.facts ++ RecordsAtLeast w.counter ∷ [];
  finds = v.finds ++ if_full (record_count l) w.counter FullRecords;
}
look_at l w v (StateWord s n) = record v {
  facts = v.facts ++ state_fact w s n;
  finds = v.finds ++ active_find v s n (w.states s n);
  looks = record v.looks { state = w.states s n; session = s; number = n };
}
look_at l w v (KeyWord r) = cond (gives_up v r (w.keys r)) (given_up v) v
look_at l w v (IndexWord q) = record v { facts = v.facts ++ index_fact w q; looks = record v.looks { index = w.index q } }
look_at l w v (HeadWord r) = record v { facts = v.facts ++ chain_facts l w r }
look_at l w v (TailCounter range) = record v {
  counters = slice_set v.counters range (served l.tails (w.counts range) (counter_of v range));
  facts = v.facts ++ TailsAtLeast range (w.counts range) ∷ cond (is_reading v) (range_facts l w range) [];
  finds = v.finds ++ CountedTails range (w.counts range) ∷ cond (is_reading v) [] (if_full l.tails (w.counts range) (FullTails range));
}
look_at l w v (CellWord t p) = record v {
  facts = v.facts ++ (stored_fact l w t ++ commit_fact w.log (w.cells t 0));
  finds = v.finds ++ TailLoad t ∷ cond (eqb p 0 && eqb (w.cells t 0) 0) (EmptyStart t ∷ []) [];
  looks = cond (eqb p 0) (record v.looks { start = w.cells t 0; about = record_in l w.cells t + 1; tail = t }) v.looks;
}
look_at l w v (PostingWord c q) = record v {
  draft = record v.draft { unposted = cond (is_unposted l w v.hold c q) (bit_or v.draft.unposted (2 ^ c)) v.draft.unposted };
  facts = v.facts ++ post_fact w c q;
}
look_at l w v _ = v

-- the two ways in which a step may go, where it can go in two
abbrev pub took : Known → Known
took v = record v { turn = Taken }

abbrev pub held_off : Known → Known
held_off v = record v { finds = v.finds ++ HeldTurn ∷ [] }

abbrev pub record_drawn : Words → Known → Known
record_drawn w v = record v {
  placing = record v.placing { hand = w.counter + 1; has_key = false; counter = spent v.placing.counter; drawn = v.placing.drawn ++ w.counter ∷ [] };
  facts = v.facts ++ RecordsAtLeast (w.counter + 1) ∷ [];
}

abbrev pub records_full : Words → Known → Known
records_full w v = record v {
  placing = record v.placing { counter = drawn_full w.counter };
  facts = v.facts ++ RecordsAtLeast (w.counter + 1) ∷ [];
  finds = v.finds ++ FullRecords ∷ [];
}

abbrev pub claimed : Known → ℕ → Known
claimed v q = record v { placing = record v.placing { hand = 0; has_key = false }; facts = v.facts ++ IndexAt q (v.placing.hand - 1) v.placing.key ∷ [] }

abbrev pub claim_lost : Words → Known → ℕ → Known
claim_lost w v q = record v { facts = v.facts ++ index_fact w q; looks = record v.looks { index = w.index q } }

abbrev pub latched : Limits → Words → Known → ℕ → Known
latched l w v r = record v {
  hold = record no_hold { latch = r + 1; head = w.heads r / 2 };
  latched = v.latched ++ r ∷ [];
  facts = v.facts ++ (index_facts l w ++ chain_facts l w r);
}

abbrev pub latch_lost : Limits → Words → Known → ℕ → Known
latch_lost l w v r = record v { facts = v.facts ++ chain_facts l w r; finds = v.finds ++ LatchedRecord r ∷ [] }

abbrev pub tail_drawn : Limits → Words → Known → ℕ → Known
tail_drawn l w v range = record v {
  hold = record v.hold { tail = range * l.tails + w.counts range + 1 };
  draft = record { words = replicate (3 + l.columns) 0; stored = 0; posted = 0; unposted = 0 };
  counters = slice_set v.counters range (spent (counter_of v range));
  facts = v.facts ++ TailsAtLeast range (w.counts range + 1) ∷ [];
}

abbrev pub tails_full : Words → Known → ℕ → Known
tails_full w v range = record v {
  counters = slice_set v.counters range (drawn_full (w.counts range));
  facts = v.facts ++ TailsAtLeast range (w.counts range + 1) ∷ [];
  finds = v.finds ++ FullTails range ∷ [];
}

abbrev pub cell_started : Limits → Words → Known → ℕ → ℕ → Known
cell_started l w v p x = record v {
  hold = record v.hold { is_whole = true };
  draft = record v.draft { words = slice_set v.draft.words p x };
  facts = v.facts ++ cell_fact l (record w { cells = put_in w.cells v.hold.tail p x }) v.hold.tail ∷ [];
}

abbrev pub word_stored : Known → ℕ → ℕ → Known
word_stored v p x = record v { draft = record v.draft { words = slice_set v.draft.words p x; stored = bit_or v.draft.stored (2 ^ p) } }

abbrev pub posted : Known → ℕ → ℕ → Known
posted v c q = record v { draft = record v.draft { posted = bit_or v.draft.posted (2 ^ c) }; facts = v.facts ++ PostAt c q v.hold.tail ∷ [] }

abbrev pub post_lost : Words → Known → ℕ → ℕ → Known
post_lost w v c q = record v { facts = v.facts ++ post_fact w c q }

abbrev pub known_after : Limits → Words → Known → Event → Known
known_after l w v (Look s a) = look_at l w v (place_of l a)
known_after l w v (Begin s b r) = record v { number = v.number + 1; begin = b; read_only = r; is_open = true; own = [] }
known_after l w v (Take s) = cond (eqb w.turn 0) (took v) (held_off v)
known_after l w v (Log s) = record v { turn = Logged }
known_after l w v (State s) = record v { turn = Stated }
known_after l w v (Clock s) = record v { is_open = false; turn = Done; own = []; seen = v.seen ++ commit s v.number v.begin v.own ∷ [] }
known_after l w v (Give s) = record v { turn = Away }
known_after l w v (Close s) = record v { is_open = false; own = [] }
known_after l w v (DrawRecord s) = cond (nat_lt w.counter (record_count l)) (record_drawn w v) (records_full w v)
known_after l w v (StoreKey s k) = record v { placing = record v.placing { key = k; has_key = true } }
known_after l w v (Claim s q) = cond (eqb (w.index q) 0) (claimed v q) (claim_lost w v q)
known_after l w v (Latch s r) = cond (eqb (w.heads r % 2) 0) (latched l w v r) (latch_lost l w v r)
known_after l w v (DrawTail s range) = cond (nat_lt (w.counts range) l.tails) (tail_drawn l w v range) (tails_full w v range)
known_after l w v (StoreCell s p x) = cond (eqb p 0) (cell_started l w v p x) (word_stored v p x)
known_after l w v (Install s) = record v {
  hold = no_hold;
  own = joined v.own (write (w.keys (v.hold.latch - 1)) (act_in l w.cells v.hold.tail));
  done = v.done ++ record { number = v.number; rec = v.hold.latch - 1; tail = v.hold.tail } ∷ [];
}
known_after l w v (Release s) = record v { hold = no_hold }
known_after l w v (Stamp s range n) = v
known_after l w v (Post s c q) = cond (eqb (w.postings c q) 0) (posted v c q) (post_lost w v c q)

-- ---- the state after a step

abbrev pub known_of : Core → ℕ → Known
known_of c s = cond (eqb s c.limits.sessions) c.merger (c.known s)

-- of a session
abbrev pub after_own : Core → Event → Core
after_own c e = let v = c.known (session_of e) in record {
  limits = c.limits;
  words = words_after c.limits c.words v e;
  known = put c.known (session_of e) (known_after c.limits c.words v e);
  merger = c.merger;
}

-- of the merger
abbrev pub after_merger : Core → Event → Core
after_merger c e = record c { merger = known_after c.limits c.words c.merger e }

abbrev pub after : Core → Event → Core
after c e = cond (eqb (session_of e) c.limits.sessions) (after_merger c e) (after_own c e)

-- the step may be made
abbrev pub IsEnabled : Core → Event → Type 0
IsEnabled c e = Enabled c.limits (known_of c (session_of e)) e × Stands c.limits c.words (known_of c (session_of e)) e
