-- A step on the numbers and on one word is the step on the state.
use Rattle.std.proofs.Common.{◌≡◌, ℕ, zero, suc, ◌+◌, ◌-◌, ◌%◌, ◌<◌, List, [], ◌∷◌, ◌++◌, Bool, true, false, ◌||◌, cond, eqb, nat_lt, length, get_or, set, refl, sym, ap, ◌∙◌, arith, length-append, lt-ltb, ltb-true}
use Rattle.std.specs.Prelude.{replicate}
use Rattle.lst_layout.specs.declared.limits.Limits.{Limits}
use Rattle.lst_layout.specs.declared.place.Place.{Place}
use Rattle.lst_layout.specs.declared.place.Place.TheVariants.{ClockWord, CommitWord, EpochWord, RecordCounter, LogWord, BeginWord, StateWord, KeyWord, IndexWord, HeadWord, TailCounter, CellWord, DirectoryWord, FrameWord, PinWord, PostingWord}
use Rattle.lst_layout.specs.Limits.{IsValid}
use Rattle.lst_layout.specs.Words.{word_at}
use Rattle.lst_layout.specs.Addresses as layout
use Rattle.lst_layout.specs.Addresses.{place_of}
use Rattle.lst_model.specs.declared.acts.Write.{Write}
use Rattle.lst_model.specs.Histories.{joined}
use Rattle.lst_core_state.specs.Writes.{commit, write}
use Rattle.lst_core_state.specs.declared.events.Event.{Event}
use Rattle.lst_core_state.specs.declared.events.Event.TheVariants.{Look, Begin, Take, Log, State, Clock, Give, Close, DrawRecord, StoreKey, Claim, Latch, DrawTail, StoreCell, Install, Release, Stamp, Post}
use Rattle.lst_core_state.specs.declared.known.Known.{Known}
use Rattle.lst_core_state.specs.declared.known.Counter.{Counter}
use Rattle.lst_core_state.specs.declared.known.Looks.{Looks}
use Rattle.lst_core_state.proofs.Functions.{either}
use Rattle.lst_core_state.specs.Cells.{record_count}
use Rattle.lst_core_state.specs.State.{Words, newcomer, no_counter, writes_of, counter_of, act_in, record_in}
use Rattle.lst_core_state.specs.Pages.{no_pages}
use Rattle.lst_core_state.specs.Step as step
use Rattle.lst_core_state.specs.Step.{Enabled, known_after, look_at, served, spent, drawn_full}
use Rattle.lst_core_state.proofs.Histories.{length-history}
use Rattle.lst_core_state.specs.Numbers.{numbers_of, place_for, numbers_look, numbers_after, newcomer_numbers, Allows, flags}
use Rattle.lst_core_state.proofs.Flags.{flags_at, flags_set}

-- ---- the numbers of a newcomer

flags_none : (n k : ℕ) → flags n (replicate k no_counter) ≡ replicate n false
flags_none zero k = refl
flags_none (suc n) zero = ap (λ (bs : List Bool). false ∷ bs) (flags_none n zero)
flags_none (suc n) (suc k) = ap (λ (bs : List Bool). false ∷ bs) (flags_none n k)

pub newcomer_is : (l : Limits) → numbers_of (newcomer l) ≡ newcomer_numbers
unfolding no_pages
newcomer_is l = λ i. record newcomer_numbers { served = flags_none 64 l.ranges i }

-- ---- what the numbers allow is what the knowledge allows

pub served_is : (v : Known) (range : ℕ) → range < 64 → get_or (flags 64 v.counters) range false ≡ (counter_of v range).is_serving
served_is v range low = flags_at 64 v.counters range low

pub allows_enabled : (l : Limits) → IsValid l → (v : Known) (e : Event) → step.IsWithin l e → Allows l (numbers_of v) e → Enabled l v e
allows_enabled l sized v (Look s a) within ok = tt
allows_enabled l sized v (Begin s b r) within ok = ok
allows_enabled l sized v (Take s) within ok = (ok.0, ok.1, ok.2, ltb-true 0 (length v.own) ok.3)
allows_enabled l sized v (Log s) within ok = ok
allows_enabled l sized v (State s) within ok = ok
allows_enabled l sized v (Clock s) within ok = ok
allows_enabled l sized v (Give s) within ok = ok
allows_enabled l sized v (Close s) within ok = ok
allows_enabled l sized v (DrawRecord s) within ok = ok
allows_enabled l sized v (StoreKey s k) within ok = ok
allows_enabled l sized v (Claim s q) within ok = ok
allows_enabled l sized v (Latch s r) within ok = ok
allows_enabled l sized v (DrawTail s range) within ok = let few = sized.ranges.1 in let low = within.1 in (ok.0, ok.1, ok.2, sym (served_is v range (omega arith)) ∙ ok.3)
allows_enabled l sized v (StoreCell s p x) within ok = ok
allows_enabled l sized v (Install s) within ok = ok
allows_enabled l sized v (Release s) within ok = ok
allows_enabled l sized v (Stamp s range n) within ok = tt
allows_enabled l sized v (Post s column q) within ok = ok

pub enabled_allows : (l : Limits) → IsValid l → (v : Known) (e : Event) → step.IsWithin l e → Enabled l v e → Allows l (numbers_of v) e
enabled_allows l sized v (Look s a) within ok = tt
enabled_allows l sized v (Begin s b r) within ok = ok
enabled_allows l sized v (Take s) within ok = (ok.0, ok.1, ok.2, lt-ltb 0 (length v.own) ok.3)
enabled_allows l sized v (Log s) within ok = ok
enabled_allows l sized v (State s) within ok = ok
enabled_allows l sized v (Clock s) within ok = ok
enabled_allows l sized v (Give s) within ok = ok
enabled_allows l sized v (Close s) within ok = ok
enabled_allows l sized v (DrawRecord s) within ok = ok
enabled_allows l sized v (StoreKey s k) within ok = ok
enabled_allows l sized v (Claim s q) within ok = ok
enabled_allows l sized v (Latch s r) within ok = ok
enabled_allows l sized v (DrawTail s range) within ok = let few = sized.ranges.1 in let low = within.1 in (ok.0, ok.1, ok.2, served_is v range (omega arith) ∙ ok.3)
enabled_allows l sized v (StoreCell s p x) within ok = ok
enabled_allows l sized v (Install s) within ok = ok
enabled_allows l sized v (Release s) within ok = ok
enabled_allows l sized v (Stamp s range n) within ok = tt
enabled_allows l sized v (Post s column q) within ok = ok

-- ---- the numbers after a step

length_joined : (ws : List Write) (x : Write) → length (joined ws x) ≡ length ws + 1
length_joined [] x = refl
length_joined (w ∷ ws) x = choose (nat_lt x.key w.key) (length_joined ws x)
  where
    choose : (b : Bool) → length (joined ws x) ≡ length ws + 1 → length (cond b (x ∷ w ∷ ws) (w ∷ joined ws x)) ≡ length (w ∷ ws) + 1
    choose true e = omega arith
    choose false e = omega arith

chosen : (b : Bool) (x y : Known) → numbers_of (cond b x y) ≡ cond b (numbers_of x) (numbers_of y)
chosen true x y = refl
chosen false x y = refl

module _ (l : Limits) (sized : IsValid l) (w : Words) (v : Known) (counters : length v.counters ≡ l.ranges) where
  -- one counter becomes another
  set_served : (range : ℕ) (c : Counter) → range < l.ranges → flags 64 (set v.counters range c) ≡ set (flags 64 v.counters) range c.is_serving
  set_served range c low = let few = sized.ranges.1 in sym (flags_set 64 v.counters range c (omega arith) (omega arith))

  pub look_numbers : (p : Place) → layout.IsWithin l p → numbers_of (look_at l w v p) ≡ numbers_look l (word_at w p) (numbers_of v) p
  look_numbers ClockWord is = let all = length-history w.clock w.log w.begins (writes_of l w) in λ i. record (numbers_of v) { seen = all i; turn = step.refreshed v.turn }
  look_numbers CommitWord is = refl
  look_numbers EpochWord is = refl
  look_numbers RecordCounter is = refl
  look_numbers (LogWord t) is = refl
  look_numbers (BeginWord s n) is = refl
  look_numbers (StateWord s n) is = refl
  look_numbers (KeyWord r) is = chosen (step.gives_up v r (w.keys r)) (step.given_up v) v
  look_numbers (IndexWord q) is = refl
  look_numbers (HeadWord r) is = refl
  look_numbers (TailCounter range) is = let few = sized.ranges.1 in let low : range < l.ranges = is in
      (λ i. record (numbers_of v) { served = set_served range (served l.tails (w.counts range) (counter_of v range)) is i }) ∙ (λ i. record (numbers_of v) { served = set (flags 64 v.counters) range (sym (served_is v range (omega arith)) i || nat_lt (w.counts range) l.tails) })
  look_numbers (CellWord t p) is = λ i. record (numbers_of v) { index = either (λ (x : Looks). x.index ≡ v.looks.index) (eqb p 0) (record v.looks { start = w.cells t 0; about = record_in l w.cells t + 1; tail = t }) v.looks (λ _. refl) (λ _. refl) i }
  look_numbers (DirectoryWord r c) is = refl
  look_numbers (FrameWord f p) is = refl
  look_numbers (PinWord s) is = refl
  look_numbers (PostingWord c q) is = refl

  pub numbers_law : (e : Event) → step.IsWithin l e → layout.IsWithin l (place_for l (numbers_of v) e) → numbers_of (known_after l w v e) ≡ numbers_after l e (word_at w (place_for l (numbers_of v) e)) (numbers_of v)
  numbers_law (Look s a) within is = look_numbers (place_of l a) is
  numbers_law (Begin s b r) within is = refl
  numbers_law (Take s) within is = chosen (eqb w.turn 0) (step.took v) (step.held_off v)
  numbers_law (Log s) within is = refl
  numbers_law (State s) within is = refl
  numbers_law (Clock s) within is = let e = length-append v.seen (commit s v.number v.begin v.own ∷ []) in let all : length (v.seen ++ commit s v.number v.begin v.own ∷ []) ≡ length v.seen + 1 = omega arith in
      λ i. record (numbers_of (known_after l w v (Clock s))) { seen = all i }
  numbers_law (Give s) within is = refl
  numbers_law (Close s) within is = refl
  numbers_law (DrawRecord s) within is = chosen (nat_lt w.counter (record_count l)) (step.record_drawn w v) (step.records_full w v)
  numbers_law (StoreKey s k) within is = refl
  numbers_law (Claim s q) within is = chosen (eqb (w.index q) 0) (step.claimed v q) (step.claim_lost w v q)
  numbers_law (Latch s r) within is = chosen (eqb (w.heads r % 2) 0) (step.latched l w v r) (step.latch_lost l w v r)
  numbers_law (DrawTail s range) within is = chosen (nat_lt (w.counts range) l.tails) (step.tail_drawn l w v range) (step.tails_full w v range)
      ∙ (λ i. cond (nat_lt (w.counts range) l.tails) (record (numbers_of (step.tail_drawn l w v range)) { served = set_served range (spent (counter_of v range)) within.1 i }) (record (numbers_of (step.tails_full w v range)) { served = set_served range (drawn_full (w.counts range)) within.1 i }))
  numbers_law (StoreCell s p x) within is = chosen (eqb p 0) (step.cell_started l w v p x) (step.word_stored v p x)
  numbers_law (Install s) within is = let e = length_joined v.own (write (w.keys (v.hold.latch - 1)) (act_in l w.cells v.hold.tail)) in
      λ i. record (numbers_of (known_after l w v (Install s))) { has_writes = lt-ltb 0 (length (joined v.own (write (w.keys (v.hold.latch - 1)) (act_in l w.cells v.hold.tail)))) (omega arith) i }
  numbers_law (Release s) within is = refl
  numbers_law (Stamp s range n) within is = refl
  numbers_law (Post s column q) within is = either (λ (u : Known). numbers_of u ≡ numbers_of v) (eqb (w.postings column q) 0) (step.posted v column q) (step.post_lost w v column q) (λ _. refl) (λ _. refl)
