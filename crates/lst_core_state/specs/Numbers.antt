-- The numbers of what a session knows, and each step on them.
use Rattle.std.specs.Prelude.{◌≡◌, None, Some, ℕ, zero, suc, ◌+◌, ◌-◌, ◌*◌, ◌/◌, ◌%◌, ◌^◌, ◌<◌, ◌≤◌, List, [], ◌∷◌, Bool, true, false, ◌&&◌, ◌||◌, cond, eqb, nat_lt, length, bit_or, replicate, slice_index_or, slice_set}
use Rattle.lst_layout.specs.declared.limits.Limits.{Limits}
use Rattle.lst_layout.specs.declared.place.Place.{Place}
use Rattle.lst_layout.specs.declared.place.Place.TheVariants.{ClockWord, CommitWord, RecordCounter, LogWord, BeginWord, StateWord, KeyWord, IndexWord, HeadWord, TailCounter, CellWord, PostingWord}
use Rattle.lst_layout.specs.Addresses.{place_of}
use Rattle.lst_layout.specs.Areas.{IsIndexed}
use Rattle.lst_core_state.specs.declared.events.Event.{Event}
use Rattle.lst_core_state.specs.declared.events.Event.TheVariants.{Look, Begin, Take, Log, State, Clock, Give, Close, DrawRecord, StoreKey, Claim, Latch, DrawTail, StoreCell, Install, Release, Stamp, Post}
use Rattle.lst_core_state.specs.declared.known.Known.{Known}
use Rattle.lst_core_state.specs.declared.known.Counter.{Counter}
use Rattle.lst_core_state.specs.declared.numbers.Numbers.{Numbers}
use Rattle.lst_core_state.specs.declared.known.Stage.TheVariants.{Away, Taken, Logged, Stated, Done}
use Rattle.lst_core_state.specs.Cells.{record_count, range_of}
use Rattle.lst_core_state.specs.State.{rank, name_of, no_hold}
use Rattle.lst_core_state.specs.Step.{refreshed, number_in}
use Rattle.lst_bits.specs.Heads.{head_word, head_of}
use Rattle.lst_bits.specs.Logs.{log_word}
use Rattle.lst_bits.specs.Numbers.{number_word}
use Rattle.lst_bits.specs.Postings.{posting_word}
use Rattle.lst_bits.specs.Starts.{start_word}
use Rattle.lst_bits.specs.States.{state_word}
use Rattle.lst_bits.specs.declared.logs.Log.TheVariants.{By}
use Rattle.lst_bits.specs.declared.starts.Start.TheVariants.{At}
use Rattle.lst_bits.specs.declared.states.State.TheVariants.{Closed, Committed}

-- whether a load serves a draw, by counter, for n counters
abbrev pub flags : ℕ → List Counter → List Bool
flags zero cs = []
flags (suc n) [] = false ∷ flags n []
flags (suc n) (c ∷ cs) = c.is_serving ∷ flags n cs

abbrev pub numbers_of : Known → Numbers
numbers_of v = record {
  number = v.number;
  begin = v.begin;
  read_only = v.read_only;
  is_open = v.is_open;
  turn = v.turn;
  seen = length v.seen;
  has_writes = nat_lt 0 (length v.own);
  hand = v.placing.hand;
  key = v.placing.key;
  has_key = v.placing.has_key;
  is_serving = v.placing.counter.is_serving;
  hold = v.hold;
  stored = v.draft.stored;
  index = v.looks.index;
  served = flags 64 v.counters;
  pin = v.pages.session.pin;
  epoch = v.pages.stock.epoch;
  built = v.pages.stock.built;
}

-- the numbers of a session that knows nothing
abbrev pub newcomer_numbers : Numbers
newcomer_numbers = record {
  number = 0;
  begin = 0;
  read_only = false;
  is_open = false;
  turn = Away;
  seen = 0;
  has_writes = false;
  hand = 0;
  key = 0;
  has_key = false;
  is_serving = false;
  hold = no_hold;
  stored = 0;
  index = 0;
  served = replicate 64 false;
  pin = 0;
  epoch = 0;
  built = None;
}

-- the word that a step is on
abbrev pub place_for : Limits → Numbers → Event → Place
place_for l n (Look s a) = place_of l a
place_for l n (Begin s b r) = BeginWord s (n.number + 1)
place_for l n (Take s) = CommitWord
place_for l n (Log s) = LogWord (n.seen + 1)
place_for l n (State s) = StateWord s n.number
place_for l n (Clock s) = ClockWord
place_for l n (Give s) = CommitWord
place_for l n (Close s) = StateWord s n.number
place_for l n (DrawRecord s) = RecordCounter
place_for l n (StoreKey s k) = KeyWord (n.hand - 1)
place_for l n (Claim s q) = IndexWord q
place_for l n (Latch s r) = HeadWord r
place_for l n (DrawTail s range) = TailCounter range
place_for l n (StoreCell s p x) = CellWord n.hold.tail p
place_for l n (Install s) = HeadWord (n.hold.latch - 1)
place_for l n (Release s) = HeadWord (n.hold.latch - 1)
place_for l n (Stamp s range t) = CellWord (range * l.tails + t) 0
place_for l n (Post s c q) = PostingWord c q

-- what a step makes of the word that it finds; a stamp stores `time`. The record in hand is known by its index word
abbrev pub written_of : Limits → Numbers → ℕ → Event → ℕ → ℕ
written_of l n time (Look s a) x = x
written_of l n time (Begin s b r) x = number_word (Some b)
written_of l n time (Take s) x = cond (eqb x 0) (number_word (Some s)) x
written_of l n time (Log s) x = log_word (By s n.number)
written_of l n time (State s) x = state_word (Committed (n.seen + 1))
written_of l n time (Clock s) x = n.seen + 1
written_of l n time (Give s) x = number_word None
written_of l n time (Close s) x = state_word Closed
written_of l n time (DrawRecord s) x = (x + 1) % 2 ^ 64
written_of l n time (StoreKey s k) x = k
written_of l n time (Claim s q) x = cond (eqb x 0) n.hand x
written_of l n time (Latch s r) x = head_word (head_of x) true
written_of l n time (DrawTail s range) x = (x + 1) % 2 ^ 64
written_of l n time (StoreCell s p y) x = y
written_of l n time (Install s) x = head_word (number_in l (n.hold.latch - 1) n.hold.tail) false
written_of l n time (Release s) x = head_word n.hold.head false
written_of l n time (Stamp s range t) x = start_word (At time)
written_of l n time (Post s c q) x = cond (eqb x 0) (posting_word (Some n.hold.tail)) x

-- the record in hand is given up by a load of the record's key word x
abbrev pub gives_up : Numbers → ℕ → ℕ → Bool
gives_up n r x = cond (eqb n.hand (r + 1)) false (n.has_key && eqb x n.key && eqb n.index (r + 1))

-- the numbers after a load that found x
abbrev pub numbers_look : Limits → ℕ → Numbers → Place → Numbers
numbers_look l x n ClockWord = record n { seen = x; turn = refreshed n.turn }
numbers_look l x n RecordCounter = record n { is_serving = n.is_serving || nat_lt x (record_count l) }
numbers_look l x n (KeyWord r) = cond (gives_up n r x) (record n { hand = 0; has_key = false }) n
numbers_look l x n (IndexWord q) = record n { index = x }
numbers_look l x n (TailCounter range) = record n { served = slice_set n.served range (slice_index_or n.served range false || nat_lt x l.tails) }
numbers_look l x n p = n

-- the numbers after a step that found x
abbrev pub numbers_after : Limits → Event → ℕ → Numbers → Numbers
numbers_after l (Look s a) x n = numbers_look l x n (place_of l a)
numbers_after l (Begin s b r) x n = record n { number = n.number + 1; begin = b; read_only = r; is_open = true; has_writes = false }
numbers_after l (Take s) x n = cond (eqb x 0) (record n { turn = Taken }) n
numbers_after l (Log s) x n = record n { turn = Logged }
numbers_after l (State s) x n = record n { turn = Stated }
numbers_after l (Clock s) x n = record n { is_open = false; turn = Done; has_writes = false; seen = n.seen + 1 }
numbers_after l (Give s) x n = record n { turn = Away }
numbers_after l (Close s) x n = record n { is_open = false; has_writes = false }
numbers_after l (DrawRecord s) x n = cond (nat_lt x (record_count l)) (record n { hand = x + 1; has_key = false; is_serving = false }) (record n { is_serving = false })
numbers_after l (StoreKey s k) x n = record n { key = k; has_key = true }
numbers_after l (Claim s q) x n = cond (eqb x 0) (record n { hand = 0; has_key = false }) (record n { index = x })
numbers_after l (Latch s r) x n = cond (eqb (x % 2) 0) (record n { hold = record no_hold { latch = r + 1; head = x / 2 } }) n
numbers_after l (DrawTail s range) x n = cond (nat_lt x l.tails)
    (record n { hold = record n.hold { tail = range * l.tails + x + 1 }; stored = 0; served = slice_set n.served range false })
    (record n { served = slice_set n.served range false })
numbers_after l (StoreCell s p y) x n = cond (eqb p 0) (record n { hold = record n.hold { is_whole = true } }) (record n { stored = bit_or n.stored (2 ^ p) })
numbers_after l (Install s) x n = record n { hold = no_hold; has_writes = true }
numbers_after l (Release s) x n = record n { hold = no_hold }
numbers_after l (Stamp s range t) x n = n
numbers_after l (Post s c q) x n = n

-- the same conditions as the session's own knowledge has
abbrev pub Allows : Limits → Numbers → Event → Type 0
Allows l n (Look s a) = Unit {0}
Allows l n (Begin s b r) = (n.is_open ≡ false) × (n.number < l.txns) × (b ≤ n.seen)
Allows l n (Take s) = (n.is_open ≡ true) × (rank n.turn ≡ 0) × (n.hold.latch ≡ 0) × (n.has_writes ≡ true)
Allows l n (Log s) = rank n.turn ≡ 2
Allows l n (State s) = rank n.turn ≡ 3
Allows l n (Clock s) = rank n.turn ≡ 4
Allows l n (Give s) = (0 < rank n.turn) × (¬ (rank n.turn ≡ 3)) × (¬ (rank n.turn ≡ 4))
Allows l n (Close s) = (n.is_open ≡ true) × (rank n.turn ≡ 0) × (n.hold.latch ≡ 0)
Allows l n (DrawRecord s) = (n.hand ≡ 0) × (n.is_serving ≡ true)
Allows l n (StoreKey s k) = 0 < n.hand
Allows l n (Claim s q) = n.has_key ≡ true
Allows l n (Latch s r) = (n.is_open ≡ true) × (n.read_only ≡ false) × (rank n.turn ≡ 0) × (n.hold.latch ≡ 0)
Allows l n (DrawTail s range) = (0 < n.hold.latch) × (range_of (n.hold.latch - 1) ≡ range) × (n.hold.tail ≡ 0) × (slice_index_or n.served range false ≡ true)
Allows l n (StoreCell s p x) = (0 < n.hold.tail) × (n.hold.is_whole ≡ false) × (p ≡ 0 → (n.stored ≡ 2 ^ (3 + l.columns) - 2) × (x ≡ 1 + 2 * name_of s n.number))
Allows l n (Install s) = n.hold.is_whole ≡ true
Allows l n (Release s) = (0 < n.hold.latch) × (n.hold.tail ≡ 0)
Allows l n (Stamp s range t) = Unit {0}
Allows l n (Post s c q) = (n.hold.is_whole ≡ true) × IsIndexed l c
