-- A step's one word, what it stores there, and the words of the store after it.
use Rattle.std.proofs.Common.{◌≡◌, ℕ, ◌+◌, ◌-◌, ◌*◌, ◌^◌, ◌<◌, ◌≤◌, true, length, refl, ap, ◌∙◌, arith, suc, suc-mul, mul-le-mul_right}
use Rattle.std.proofs.Math.Nat.{mod-eq_of_lt}
use Rattle.lst_layout.specs.declared.limits.Limits.{Limits}
use Rattle.lst_layout.specs.declared.place.Place.{Place}
use Rattle.lst_layout.specs.declared.place.Place.TheVariants.{ClockWord, CommitWord, EpochWord, RecordCounter, LogWord, BeginWord, StateWord, KeyWord, IndexWord, HeadWord, TailCounter, CellWord, DirectoryWord, FrameWord, PinWord, PostingWord}
use Rattle.lst_layout.specs.Functions.{put, put_in}
use Rattle.lst_layout.specs.Words.{word_at, with_word}
use Rattle.lst_layout.specs.Addresses as layout
use Rattle.lst_layout.specs.Addresses.{place_of}
use Rattle.lst_layout.proofs.Places.{at}
use Rattle.lst_core_state.specs.declared.events.Event.{Event}
use Rattle.lst_core_state.specs.declared.events.Event.TheVariants.{Look, Begin, Take, Log, State, Clock, Give, Close, DrawRecord, StoreKey, Claim, Latch, DrawTail, StoreCell, Install, Release, Stamp, Post}
use Rattle.lst_core_state.specs.declared.known.Known.{Known}
use Rattle.lst_core_state.specs.Cells.{record_count, tail_count}
use Rattle.lst_core_state.specs.Index.{size}
use Rattle.lst_core_state.specs.Postings.{postings_size}
use Rattle.lst_core_state.specs.State.{Words, Core, rank, writes_of, counter_of, name_of}
use Rattle.lst_core_state.specs.Step as step
use Rattle.lst_core_state.specs.Step.{session_of, Enabled, Stands, words_after, number_in}
use Rattle.lst_core_state.specs.Sound.{Sound}
use Rattle.lst_core_state.proofs.Histories.{length-history}
use Rattle.lst_core_state.proofs.IndexKept.{records_few}
use Rattle.lst_core_state.proofs.Counters.{counter_low}
use Rattle.lst_core_state.proofs.Room.{room}
use Rattle.lst_core_state.proofs.Steady.{put_same}
use Rattle.lst_core_state.specs.Numbers.{numbers_of, place_for, written_of}
use Rattle.lst_core_state.specs.Targets.{time_for}

same_in : (f : ℕ → ℕ → ℕ) (k m : ℕ) → put_in f k m (f k m) ≡ f
same_in f k m = (λ i. put f k (put_same (f k) m i)) ∙ put_same f k

-- a word stored as it was
pub with_same : (w : Words) (p : Place) → with_word w p (word_at w p) ≡ w
with_same w ClockWord = refl
with_same w CommitWord = refl
with_same w EpochWord = refl
with_same w RecordCounter = refl
with_same w (LogWord t) = λ i. record w { log = put_same w.log t i }
with_same w (BeginWord s n) = λ i. record w { begins = same_in w.begins s n i }
with_same w (StateWord s n) = λ i. record w { states = same_in w.states s n i }
with_same w (KeyWord r) = λ i. record w { keys = put_same w.keys r i }
with_same w (IndexWord q) = λ i. record w { index = put_same w.index q i }
with_same w (HeadWord r) = λ i. record w { heads = put_same w.heads r i }
with_same w (TailCounter range) = λ i. record w { counts = put_same w.counts range i }
with_same w (CellWord t p) = λ i. record w { cells = same_in w.cells t p i }
with_same w (DirectoryWord r c) = λ i. record w { directory = same_in w.directory r c i }
with_same w (FrameWord f p) = λ i. record w { frames = same_in w.frames f p i }
with_same w (PinWord s) = λ i. record w { pins = put_same w.pins s i }
with_same w (PostingWord c q) = λ i. record w { postings = same_in w.postings c q i }

module _ (c : Core) (sound : Sound c) where
  abbrev L : Limits
  L = c.limits

  abbrev w : Words
  w = c.words

  abbrev K : ℕ → Known
  K = c.known

  -- a session that has loaded the clock since it took the turn has seen all
  pub seen_all : (s : ℕ) → s < L.sessions → 2 ≤ rank (K s).turn → length (K s).seen ≡ w.clock
  seen_all s low fresh = ap length ((sound.views s low).whole fresh) ∙ length-history w.clock w.log w.begins (writes_of L w)

  own_number : (s : ℕ) → s < L.sessions → (K s).is_open ≡ true → layout.IsWithin L (StateWord s (K s).number)
  own_number s low is_on = let own = sound.each s low in (low, own.open_number is_on, own.few)

  latched : (s : ℕ) → s < L.sessions → 0 < (K s).hold.latch → (K s).hold.latch - 1 < record_count L
  latched s low held = let h = (sound.versions.hands s low).low in omega arith

  -- a tail of a range is one of all
  pub tail_low : (range n : ℕ) → range < L.ranges → 0 < n → n ≤ L.tails → (0 < range * L.tails + n) × (range * L.tails + n ≤ tail_count L)
  tail_low range n low some few = let top : (suc range) * L.tails ≤ L.ranges * L.tails = mul-le-mul_right L.tails (omega arith) in let e : (suc range) * L.tails ≡ range * L.tails + L.tails = suc-mul range L.tails in (omega arith, omega arith)

  -- where the step may be made, its word is one of the store's
  pub addressed : (e : Event) → session_of e < L.sessions → step.IsWithin L e → Enabled L (K (session_of e)) e → layout.IsWithin L (place_for L (numbers_of (K (session_of e))) e)
  unfolding size postings_size
  addressed (Look s a) low within ok = (at L a sound.sized within.1).within
  addressed (Begin s b r) low within ok = (low, omega arith, let few : (K s).number < L.txns = ok.1 in omega arith)
  addressed (Take s) low within ok = tt
  addressed (Log s) low within ok = let own = sound.each s low in let h = room c sound s low (own.turn_open (omega arith) (omega arith)) (λ e. omega arith) in let e = seen_all s low (omega arith) in (omega arith, omega arith)
  addressed (State s) low within ok = own_number s low ((sound.each s low).turn_open (omega arith) (omega arith))
  addressed (Clock s) low within ok = tt
  addressed (Give s) low within ok = tt
  addressed (Close s) low within ok = own_number s low ok.0
  addressed (DrawRecord s) low within ok = tt
  addressed (StoreKey s k) low within ok = let h = (sound.index.hands s low).few in let some : 0 < (K s).placing.hand = ok in omega arith
  addressed (Claim s q) low within ok = within.1
  addressed (Latch s r) low within ok = within.1
  addressed (DrawTail s range) low within ok = within.1
  addressed (StoreCell s p x) low within ok = (ok.0, (sound.versions.hands s low).few, within.1)
  addressed (Install s) low within ok = let k = sound.versions.hands s low in latched s low (k.holds (k.some ok))
  addressed (Release s) low within ok = latched s low ok.0
  addressed (Stamp s range n) low within ok = let h = tail_low range n within.1 within.2 within.3 in (h.0, h.1, omega arith)
  addressed (Post s column q) low within ok = (within.1, ok.1, within.2)

  -- the store's words after the step
  pub shows : (e : Event) → session_of e < L.sessions → step.IsWithin L e → Enabled L (K (session_of e)) e → let n = numbers_of (K (session_of e)) in let p : Place = place_for L n e in
      with_word w p (written_of L n (time_for L w e) e (word_at w p)) ≡ words_after L w (K (session_of e)) e
  shows (Look s a) low within ok = with_same w (place_of L a)
  shows (Begin s b r) low within ok = refl
  shows (Take s) low within ok = refl
  shows (Log s) low within ok = let e = seen_all s low (omega arith) in λ i. record w { log = put w.log (e i + 1) (name_of s (K s).number) }
  shows (State s) low within ok = let e = seen_all s low (omega arith) in let next : length (K s).seen + 1 + 1 ≡ w.clock + 2 = omega arith in λ i. record w { states = put_in w.states s (K s).number (next i) }
  shows (Clock s) low within ok = let e = seen_all s low (omega arith) in λ i. record w { clock = e i + 1 }
  shows (Give s) low within ok = refl
  shows (Close s) low within ok = refl
  shows (DrawRecord s) low within ok = let few = records_few L w.counter w.keys w.index (λ j. (K j).placing) sound.index in let r = sound.sized.ranges.1 in let t = sound.sized.sessions.1 in λ i. record w { counter = mod-eq_of_lt {n = w.counter + 1} {m = 2 ^ 64} (omega arith) i }
  shows (StoreKey s k) low within ok = refl
  shows (Claim s q) low within ok = refl
  shows (Latch s r) low within ok = refl
  shows (DrawTail s range) low within ok = let few = counter_low L.tails L.sessions (w.counts range) (λ j. counter_of (K j) range) (sound.counted range within.1) in let r = sound.sized.tails.1 in let t = sound.sized.sessions.1 in
      λ i. record w { counts = put w.counts range (mod-eq_of_lt {n = w.counts range + 1} {m = 2 ^ 64} (omega arith) i) }
  shows (StoreCell s p x) low within ok = refl
  shows (Install s) low within ok = refl
  shows (Release s) low within ok = refl
  shows (Stamp s range n) low within ok = refl
  shows (Post s column q) low within ok = refl
