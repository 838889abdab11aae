-- Each step keeps the log, the clock, and each session's transactions and turn.
use Rattle.std.proofs.Common.{◌≡◌, ℕ, ◌+◌, ◌*◌, ◌<◌, ◌≤◌, length, Bool, true, false, cond, eqb, refl, arith, eqb-true}
use Rattle.lst_layout.specs.declared.limits.Limits.{Limits}
use Rattle.lst_layout.specs.Functions.{put}
use Rattle.lst_core_state.specs.declared.known.Known.{Known}
use Rattle.lst_core_state.specs.declared.events.Event.{Event}
use Rattle.lst_core_state.specs.declared.events.Event.TheVariants.{Look, Begin, Take, Log, State, Clock, Give, Close, DrawRecord, StoreKey, Claim, Latch, DrawTail, StoreCell, Install, Release, Stamp, Post}
use Rattle.lst_layout.specs.declared.place.Place.{Place}
use Rattle.lst_layout.specs.declared.place.Place.TheVariants.{ClockWord, CommitWord, EpochWord, RecordCounter, LogWord, BeginWord, StateWord, KeyWord, IndexWord, HeadWord, TailCounter, CellWord, DirectoryWord, FrameWord, PinWord, PostingWord}
use Rattle.lst_core_state.specs.State.{Words, Core, rank, history_of, writes_of}
use Rattle.lst_layout.specs.Addresses.{place_of}
use Rattle.lst_core_state.specs.Step.{session_of, Enabled, words_after, known_after, look_at, took, held_off}
use Rattle.lst_core_state.specs.Sound.{TimesOf, Each, RunsOf, Sound}
use Rattle.lst_core_state.proofs.Functions.{either}
use Rattle.lst_core_state.proofs.Histories.{length-history, starts_length}
use Rattle.lst_core_state.proofs.TimesKept as kept

module _ (c : Core) (sound : Sound c) where
  abbrev L : Limits
  L = c.limits

  abbrev w : Words
  w = c.words

  abbrev K : ℕ → Known
  K = c.known

  pub seen_low : (s : ℕ) → s < L.sessions → length (K s).seen ≤ w.clock
  seen_low s low = let p = starts_length (history_of L w) (K s).seen (sound.views s low).prefix in let e = length-history w.clock w.log w.begins (writes_of L w) in omega arith

  begun_low : (s : ℕ) → s < L.sessions → (K s).is_open ≡ true → (K s).begin ≤ w.clock
  begun_low s low is_on = let a = (sound.views s low).begun is_on in let b = seen_low s low in omega arith

  in_turn : (s : ℕ) → s < L.sessions → 0 < rank (K s).turn → rank (K s).turn < 5 → (K s).is_open ≡ true
  in_turn s low some few = (sound.each s low).turn_open some few

  pub times_keeps : (e : Event) → session_of e < L.sessions → Enabled L (K (session_of e)) e → TimesOf L (words_after L w (K (session_of e)) e)
  times_keeps (Look s a) low ok = sound.times
  times_keeps (Begin s b r) low ok = kept.begin_times L w K sound.times sound.each s b
  times_keeps (Take s) low ok = either (λ (x : ℕ). TimesOf L (record w { turn = x })) (eqb w.turn 0) (s + 1) w.turn (λ e. kept.take_times L w K sound.times sound.each s low (eqb-true w.turn 0 e)) (λ _. sound.times)
  times_keeps (Log s) low ok = kept.log_times L w K sound.times sound.each s (16 * (K s).number + s) ((sound.each s low).in_turn (omega arith))
  times_keeps (State s) low ok = kept.end_times L w K sound.times sound.each s (w.clock + 2) low (in_turn s low (omega arith) (omega arith)) (λ e. omega arith) (λ t p q e. omega arith)
  times_keeps (Clock s) low ok = kept.clock_times L w K sound.times sound.each s low sound.sized.sessions.1 ok (begun_low s low (in_turn s low (omega arith) (omega arith)))
  times_keeps (Give s) low ok = kept.give_times L w K sound.times sound.each s low ok.0 ok.1 ok.2
  times_keeps (Close s) low ok = kept.end_times L w K sound.times sound.each s 1 low ok.0 (λ e. let z = ok.1 in omega arith) (λ t p q e. omega arith)
  times_keeps (DrawRecord s) low ok = sound.times
  times_keeps (StoreKey s k) low ok = sound.times
  times_keeps (Claim s q) low ok = sound.times
  times_keeps (Latch s r) low ok = sound.times
  times_keeps (DrawTail s range) low ok = sound.times
  times_keeps (StoreCell s p x) low ok = sound.times
  times_keeps (Install s) low ok = sound.times
  times_keeps (Release s) low ok = sound.times
  times_keeps (Stamp s range n) low ok = sound.times
  times_keeps (Post s column q) low ok = sound.times

  -- a session whose transactions and turn are as they were
  pub same : (s : ℕ) (v' : Known) → (s < L.sessions → RunsOf L w s v') → Each L w (put K s v')
  same s v' runs = kept.each_same L w K sound.times sound.each s v' runs

  looks : (s : ℕ) (p : Place) → Each L w (put K s (look_at L w (K s) p))
  looks s ClockWord = same s (look_at L w (K s) ClockWord) (λ h. kept.refresh L w K sound.times sound.each s (K s).number (K s).begin (K s).is_open (K s).turn (sound.each s h))
  looks s EpochWord = same s (look_at L w (K s) EpochWord) (sound.each s)
  looks s RecordCounter = same s (look_at L w (K s) RecordCounter) (sound.each s)
  looks s (StateWord j n) = same s (look_at L w (K s) (StateWord j n)) (sound.each s)
  looks s (KeyWord r) = either (λ (u : Known). Each L w (put K s u)) _ _ _ (λ _. same s _ (sound.each s)) (λ _. same s _ (sound.each s))
  looks s (IndexWord q) = same s (look_at L w (K s) (IndexWord q)) (sound.each s)
  looks s (HeadWord r) = same s (look_at L w (K s) (HeadWord r)) (sound.each s)
  looks s (TailCounter range) = same s (look_at L w (K s) (TailCounter range)) (sound.each s)
  looks s (CellWord t p) = same s (look_at L w (K s) (CellWord t p)) (sound.each s)
  looks s CommitWord = same s (K s) (sound.each s)
  looks s (LogWord i) = same s (K s) (sound.each s)
  looks s (BeginWord i n) = same s (K s) (sound.each s)
  looks s (DirectoryWord i n) = same s (K s) (sound.each s)
  looks s (FrameWord i n) = same s (K s) (sound.each s)
  looks s (PinWord i) = same s (K s) (sound.each s)
  looks s (PostingWord i n) = same s (look_at L w (K s) (PostingWord i n)) (sound.each s)

  takes : (s : ℕ) → s < L.sessions → Enabled L (K s) (Take s) → (b : Bool) → eqb w.turn 0 ≡ b → Each L (record w { turn = cond b (s + 1) w.turn }) (put K s (cond b (took (K s)) (held_off (K s))))
  takes s low ok true e = kept.take_each L w K sound.times sound.each s low (eqb-true w.turn 0 e) ok.0 ok.1
  takes s low ok false e = same s (held_off (K s)) (sound.each s)

  pub each_keeps : (e : Event) → session_of e < L.sessions → Enabled L (K (session_of e)) e → Each L (words_after L w (K (session_of e)) e) (put K (session_of e) (known_after L w (K (session_of e)) e))
  each_keeps (Look s a) low ok = looks s (place_of L a)
  each_keeps (Begin s b r) low ok = let short = seen_low s low in let late : b ≤ length (K s).seen = ok.2 in kept.begin_each L w K sound.times sound.each s b (known_after L w (K s) (Begin s b r)) low ok.0 ok.1 (omega arith) refl refl refl refl
  each_keeps (Take s) low ok = takes s low ok (eqb w.turn 0) refl
  each_keeps (Log s) low ok = kept.log_each L w K sound.times sound.each s low ok
  each_keeps (State s) low ok = kept.state_each L w K sound.times sound.each s low ok
  each_keeps (Clock s) low ok = kept.clock_each L w K sound.times sound.each s low sound.sized.sessions.1 ok (begun_low s low (in_turn s low (omega arith) (omega arith))) (known_after L w (K s) (Clock s)) refl refl refl refl
  each_keeps (Give s) low ok = kept.give_each L w K sound.times sound.each s low ok.0 ok.2
  each_keeps (Close s) low ok = kept.close_each L w K sound.times sound.each s low ok.0 ok.1
  each_keeps (DrawRecord s) low ok = either (λ (u : Known). Each L w (put K s u)) _ _ _ (λ _. same s _ (sound.each s)) (λ _. same s _ (sound.each s))
  each_keeps (StoreKey s k) low ok = same s (known_after L w (K s) (StoreKey s k)) (sound.each s)
  each_keeps (Claim s q) low ok = either (λ (u : Known). Each L w (put K s u)) _ _ _ (λ _. same s _ (sound.each s)) (λ _. same s _ (sound.each s))
  each_keeps (Latch s r) low ok = either (λ (u : Known). Each L w (put K s u)) _ _ _ (λ _. same s _ (sound.each s)) (λ _. same s _ (sound.each s))
  each_keeps (DrawTail s range) low ok = either (λ (u : Known). Each L w (put K s u)) _ _ _ (λ _. same s _ (sound.each s)) (λ _. same s _ (sound.each s))
  each_keeps (StoreCell s p x) low ok = either (λ (u : Known). Each L w (put K s u)) _ _ _ (λ _. same s _ (sound.each s)) (λ _. same s _ (sound.each s))
  each_keeps (Install s) low ok = same s (known_after L w (K s) (Install s)) (sound.each s)
  each_keeps (Release s) low ok = same s (known_after L w (K s) (Release s)) (sound.each s)
  each_keeps (Stamp s range n) low ok = same s (K s) (sound.each s)
  each_keeps (Post s column q) low ok = either (λ (u : Known). Each L w (put K s u)) _ _ _ (λ _. same s _ (sound.each s)) (λ _. same s _ (sound.each s))
