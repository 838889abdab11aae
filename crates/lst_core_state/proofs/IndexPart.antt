-- Each step keeps the part on the index.
use Rattle.std.proofs.Common.{◌≡◌, ℕ, ◌+◌, ◌-◌, ◌%◌, ◌<◌, Bool, true, false, cond, eqb, nat_lt, refl, sym, subst, ◌∙◌, arith, true≢false, eqb-true, ltb-true, lt-ltb}
use mathlib.Core.Logic.{dite}
use native.Mathlib.Decide.{dec_lt}
use Rattle.lst_layout.specs.declared.limits.Limits.{Limits}
use Rattle.lst_layout.specs.Functions.{put}
use Rattle.lst_core_state.specs.declared.known.Known.{Known}
use Rattle.lst_core_state.specs.declared.known.Placing.{Placing}
use Rattle.lst_core_state.specs.declared.events.Event.{Event}
use Rattle.lst_core_state.specs.declared.events.Event.TheVariants.{Look, Begin, Take, Log, State, Clock, Give, Close, DrawRecord, StoreKey, Claim, Latch, DrawTail, StoreCell, Install, Release, Stamp, Post}
use Rattle.lst_layout.specs.declared.place.Place.{Place}
use Rattle.lst_layout.specs.declared.place.Place.TheVariants.{ClockWord, CommitWord, EpochWord, RecordCounter, LogWord, BeginWord, StateWord, KeyWord, IndexWord, HeadWord, TailCounter, CellWord, DirectoryWord, FrameWord, PinWord, PostingWord}
use Rattle.lst_core_state.specs.Cells.{record_count}
use Rattle.lst_core_state.specs.Index.{size}
use Rattle.lst_core_state.specs.State.{Words, Core}
use Rattle.lst_layout.specs.Addresses.{place_of}
use Rattle.lst_core_state.specs.Step.{session_of, Enabled, Stands, words_after, known_after, look_at, gives_up, given_up, took, held_off, record_drawn, records_full, claimed, claim_lost, latched, latch_lost, tail_drawn, tails_full, cell_started, word_stored, posted, post_lost}
use Rattle.lst_core_state.specs.Sound as parts
use Rattle.lst_core_state.specs.Sound.{Indexed, Sound}
use Rattle.lst_core_state.proofs.Functions.{either}
use Rattle.lst_core_state.proofs.Counters.{along}
use Rattle.lst_core_state.proofs.Positions.{position_low}
use Rattle.lst_core_state.proofs.Steady.{put_same}
use Rattle.lst_core_state.proofs.IndexKept as index

module _ (c : Core) (sound : Sound c) where
  abbrev L : Limits
  L = c.limits

  abbrev w : Words
  w = c.words

  abbrev K : ℕ → Known
  K = c.known

  abbrev placings : ℕ → Placing
  placings j = (K j).placing

  -- what a session knows of the index, after its step
  known_of : (s : ℕ) (v' : Known) (counter' : ℕ) (keys' index' : ℕ → ℕ) → Indexed L counter' keys' index' (put placings s v'.placing) → Indexed L counter' keys' index' (λ j. (put K s v' j).placing)
  known_of s v' counter' keys' index' i = subst (Indexed L counter' keys' index') (sym (along (λ (u : Known). u.placing) K s v')) i

  pub still : (s : ℕ) (v' : Known) → s < L.sessions → v'.placing ≡ (K s).placing → Indexed L w.counter w.keys w.index (λ j. (put K s v' j).placing)
  still s v' low e = known_of s v' w.counter w.keys w.index (index.still L w.counter w.keys w.index placings sound.index s low v'.placing e)

  abbrev Part : ℕ → Known → Type 0
  Part s u = Indexed L w.counter w.keys w.index (λ j. (put K s u j).placing)

  looks : (s : ℕ) → s < L.sessions → (p : Place) → Part s (look_at L w (K s) p)
  looks s low ClockWord = still s (look_at L w (K s) ClockWord) low refl
  looks s low EpochWord = still s (look_at L w (K s) EpochWord) low refl
  looks s low RecordCounter = known_of s (look_at L w (K s) RecordCounter) w.counter w.keys w.index (index.serve L w.counter w.keys w.index placings sound.index s low)
  looks s low (StateWord j n) = still s (look_at L w (K s) (StateWord j n)) low refl
  looks s low (KeyWord r) = either (Part s) (gives_up (K s) r (w.keys r)) (given_up (K s)) (K s) (λ _. known_of s (given_up (K s)) w.counter w.keys w.index (index.drop_hand L w.counter w.keys w.index placings sound.index s low)) (λ _. still s (K s) low refl)
  looks s low (IndexWord q) = still s (look_at L w (K s) (IndexWord q)) low refl
  looks s low (HeadWord r) = still s (look_at L w (K s) (HeadWord r)) low refl
  looks s low (TailCounter range) = still s (look_at L w (K s) (TailCounter range)) low refl
  looks s low (CellWord t p) = still s (look_at L w (K s) (CellWord t p)) low refl
  looks s low CommitWord = still s (K s) low refl
  looks s low (LogWord i) = still s (K s) low refl
  looks s low (BeginWord i n) = still s (K s) low refl
  looks s low (DirectoryWord i n) = still s (K s) low refl
  looks s low (FrameWord i n) = still s (K s) low refl
  looks s low (PinWord i) = still s (K s) low refl
  looks s low (PostingWord i n) = still s (look_at L w (K s) (PostingWord i n)) low refl

  draws : (s : ℕ) → s < L.sessions → Enabled L (K s) (DrawRecord s) → Indexed L (w.counter + 1) w.keys w.index (λ j. (put K s (known_after L w (K s) (DrawRecord s)) j).placing)
  draws s low ok = either (λ (u : Known). Indexed L (w.counter + 1) w.keys w.index (λ j. (put K s u j).placing)) (nat_lt w.counter (record_count L)) (record_drawn w (K s)) (records_full w (K s))
      (λ e. known_of s (record_drawn w (K s)) (w.counter + 1) w.keys w.index (index.draw L w.counter w.keys w.index placings sound.index s low ok.0 ok.1 (ltb-true w.counter (record_count L) e)))
      (λ e. known_of s (records_full w (K s)) (w.counter + 1) w.keys w.index (index.draw_full L w.counter w.keys w.index placings sound.index s low ok.0 ok.1
      (dite (dec_lt w.counter (record_count L)) (λ h. absurd (true≢false (sym (lt-ltb w.counter (record_count L) h) ∙ e))) (λ h. grind (arith, h)))))

  claims : (s q : ℕ) → s < L.sessions → Enabled L (K s) (Claim s q) → Stands L w (K s) (Claim s q) → (b : Bool) → eqb (w.index q) 0 ≡ b → Indexed L w.counter w.keys (put w.index q (cond b (K s).placing.hand (w.index q))) (λ j. (put K s (cond b (claimed (K s) q) (claim_lost w (K s) q)) j).placing)
  claims s q low ok stands true e = known_of s (claimed (K s) q) w.counter w.keys (put w.index q (K s).placing.hand) (index.claim L w.counter w.keys w.index placings sound.index s low q stands.0 ok stands.1
      (subst (λ (x : ℕ). x < size L) (sym stands.2) (position_low L sound.sized (K s).placing.key stands.0)) stands.2 stands.3 (eqb-true (w.index q) 0 e))
  claims s q low ok stands false e = subst (λ (f : ℕ → ℕ). Indexed L w.counter w.keys f (λ j. (put K s (claim_lost w (K s) q) j).placing)) (sym (put_same w.index q)) (still s (claim_lost w (K s) q) low refl)

  pub index_keeps : (e : Event) → session_of e < L.sessions → Enabled L (K (session_of e)) e → Stands L w (K (session_of e)) e → parts.IndexOf L (words_after L w (K (session_of e)) e) (put K (session_of e) (known_after L w (K (session_of e)) e))
  index_keeps (Look s a) low ok stands = looks s low (place_of L a)
  index_keeps (Begin s b r) low ok stands = still s (known_after L w (K s) (Begin s b r)) low refl
  index_keeps (Take s) low ok stands = either (Part s) (eqb w.turn 0) (took (K s)) (held_off (K s)) (λ _. still s (took (K s)) low refl) (λ _. still s (held_off (K s)) low refl)
  index_keeps (Log s) low ok stands = still s (known_after L w (K s) (Log s)) low refl
  index_keeps (State s) low ok stands = still s (known_after L w (K s) (State s)) low refl
  index_keeps (Clock s) low ok stands = still s (known_after L w (K s) (Clock s)) low refl
  index_keeps (Give s) low ok stands = still s (known_after L w (K s) (Give s)) low refl
  index_keeps (Close s) low ok stands = still s (known_after L w (K s) (Close s)) low refl
  index_keeps (DrawRecord s) low ok stands = draws s low ok
  index_keeps (StoreKey s k) low ok stands = known_of s (known_after L w (K s) (StoreKey s k)) w.counter (put w.keys ((K s).placing.hand - 1) k) w.index (index.store_key L w.counter w.keys w.index placings sound.index s low k ok)
  index_keeps (Claim s q) low ok stands = claims s q low ok stands (eqb (w.index q) 0) refl
  index_keeps (Latch s r) low ok stands = either (Part s) (eqb (w.heads r % 2) 0) (latched L w (K s) r) (latch_lost L w (K s) r) (λ _. still s (latched L w (K s) r) low refl) (λ _. still s (latch_lost L w (K s) r) low refl)
  index_keeps (DrawTail s range) low ok stands = either (Part s) (nat_lt (w.counts range) L.tails) (tail_drawn L w (K s) range) (tails_full w (K s) range) (λ _. still s (tail_drawn L w (K s) range) low refl) (λ _. still s (tails_full w (K s) range) low refl)
  index_keeps (StoreCell s p x) low ok stands = either (Part s) (eqb p 0) (cell_started L w (K s) p x) (word_stored (K s) p x) (λ _. still s (cell_started L w (K s) p x) low refl) (λ _. still s (word_stored (K s) p x) low refl)
  index_keeps (Install s) low ok stands = still s (known_after L w (K s) (Install s)) low refl
  index_keeps (Release s) low ok stands = still s (known_after L w (K s) (Release s)) low refl
  index_keeps (Stamp s range n) low ok stands = still s (K s) low refl
  index_keeps (Post s column q) low ok stands = either (Part s) (eqb (w.postings column q) 0) (posted (K s) column q) (post_lost w (K s) column q) (λ _. still s (posted (K s) column q) low refl) (λ _. still s (post_lost w (K s) column q) low refl)
