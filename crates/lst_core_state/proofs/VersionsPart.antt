-- Each step keeps the part on versions.
use Rattle.std.proofs.Common.{◌≡◌, ℕ, ◌+◌, ◌-◌, ◌*◌, ◌/◌, ◌%◌, ◌<◌, Bool, true, false, cond, eqb, nat_lt, refl, sym, subst, ap, ◌∙◌, arith, true≢false, eqb-true, ltb-true, eq-eqb, inl, List}
use mathlib.Core.Logic.{dite}
use native.Mathlib.Decide.{ℕ_discrete}
use Rattle.lst_layout.specs.declared.limits.Limits.{Limits}
use Rattle.lst_layout.specs.Functions.{put, put_in}
use Rattle.lst_model.specs.declared.acts.Act.{Act}
use Rattle.lst_core_state.specs.declared.known.Known.{Known}
use Rattle.lst_core_state.specs.declared.known.Stage.{Stage}
use Rattle.lst_core_state.specs.declared.known.Stage.TheVariants.{Away, Taken, Fresh, Logged, Stated, Done}
use Rattle.lst_core_state.specs.declared.events.Event.{Event}
use Rattle.lst_core_state.specs.declared.events.Event.TheVariants.{Look, Begin, Take, Log, State, Clock, Give, Close, DrawRecord, StoreKey, Claim, Latch, DrawTail, StoreCell, Install, Release, Stamp, Post}
use Rattle.lst_layout.specs.declared.place.Place.{Place}
use Rattle.lst_layout.specs.declared.place.Place.TheVariants.{ClockWord, CommitWord, EpochWord, RecordCounter, LogWord, BeginWord, StateWord, KeyWord, IndexWord, HeadWord, TailCounter, CellWord, DirectoryWord, FrameWord, PinWord, PostingWord}
use Rattle.lst_core_state.specs.Cells.{record_count}
use Rattle.lst_core_state.specs.State.{Words, Core, rank, name_of, act_in, FitsAfter}
use Rattle.lst_layout.specs.Addresses.{place_of}
use Rattle.lst_core_state.specs.Step.{session_of, IsWithin, Enabled, Stands, words_after, known_after, look_at, refreshed, gives_up, given_up, took, held_off, record_drawn, records_full, claimed, claim_lost, latched, latch_lost, tail_drawn, tails_full, cell_started, word_stored, posted, post_lost}
use Rattle.lst_core_state.specs.Sound.{Versions, Sound}
use Rattle.lst_core_state.proofs.Functions.{either}
use Rattle.lst_core_state.proofs.Positions.{placed_says, placed_more, placed_new, placed_here}
use Rattle.lst_core_state.proofs.IndexKept.{claim_none}
use Rattle.lst_core_state.proofs.VersionsKept as kept
use Rattle.lst_core_state.proofs.CellsKept as cells
use Rattle.lst_core_state.proofs.Sightings.{judged_sight}
use Rattle.lst_core_state.proofs.Steady.{put_same, hand_out, claim_inside}

pub refreshed_away : (k : Stage) → rank k ≡ 0 → rank (refreshed k) ≡ 0
refreshed_away Away e = e
refreshed_away Taken e = absurd (omega arith)
refreshed_away Fresh e = e
refreshed_away Logged e = e
refreshed_away Stated e = e
refreshed_away Done e = e

module _ (c : Core) (sound : Sound c) where
  abbrev L : Limits
  L = c.limits

  abbrev w : Words
  w = c.words

  abbrev K : ℕ → Known
  K = c.known

  abbrev Part : Words → ℕ → Known → Type 0
  Part w' s u = Versions L w' (put K s u)

  -- a step that changes neither words nor hands
  pub quiet : (s : ℕ) (v' : Known) → s < L.sessions → v'.hold ≡ (K s).hold → v'.number ≡ (K s).number → v'.is_open ≡ (K s).is_open → v'.read_only ≡ (K s).read_only → (rank (K s).turn ≡ 0 → rank v'.turn ≡ 0) → Versions L w (put K s v')
  quiet s v' low a e f ro stage = kept.look_versions L w K sound.sized sound.times sound.each sound.versions s v' w.turn low a e f ro (λ _. stage)

  looks : (s : ℕ) → s < L.sessions → (p : Place) → Part w s (look_at L w (K s) p)
  looks s low ClockWord = quiet s (look_at L w (K s) ClockWord) low refl refl refl refl (refreshed_away (K s).turn)
  looks s low EpochWord = quiet s (look_at L w (K s) EpochWord) low refl refl refl refl (λ z. z)
  looks s low RecordCounter = quiet s (look_at L w (K s) RecordCounter) low refl refl refl refl (λ z. z)
  looks s low (StateWord j n) = quiet s (look_at L w (K s) (StateWord j n)) low refl refl refl refl (λ z. z)
  looks s low (KeyWord r) = either (Part w s) (gives_up (K s) r (w.keys r)) (given_up (K s)) (K s) (λ _. quiet s (given_up (K s)) low refl refl refl refl (λ z. z)) (λ _. quiet s (K s) low refl refl refl refl (λ z. z))
  looks s low (IndexWord q) = quiet s (look_at L w (K s) (IndexWord q)) low refl refl refl refl (λ z. z)
  looks s low (HeadWord r) = quiet s (look_at L w (K s) (HeadWord r)) low refl refl refl refl (λ z. z)
  looks s low (TailCounter range) = quiet s (look_at L w (K s) (TailCounter range)) low refl refl refl refl (λ z. z)
  looks s low (CellWord t p) = quiet s (look_at L w (K s) (CellWord t p)) low refl refl refl refl (λ z. z)
  looks s low CommitWord = quiet s (K s) low refl refl refl refl (λ z. z)
  looks s low (LogWord i) = quiet s (K s) low refl refl refl refl (λ z. z)
  looks s low (BeginWord i n) = quiet s (K s) low refl refl refl refl (λ z. z)
  looks s low (DirectoryWord i n) = quiet s (K s) low refl refl refl refl (λ z. z)
  looks s low (FrameWord i n) = quiet s (K s) low refl refl refl refl (λ z. z)
  looks s low (PinWord i) = quiet s (K s) low refl refl refl refl (λ z. z)
  looks s low (PostingWord i n) = quiet s (look_at L w (K s) (PostingWord i n)) low refl refl refl refl (λ z. z)

  takes : (s : ℕ) → s < L.sessions → Enabled L (K s) (Take s) → (turn' : ℕ) → Versions L (record w { turn = turn' }) (put K s (cond (eqb w.turn 0) (took (K s)) (held_off (K s))))
  takes s low ok turn' = either (Part (record w { turn = turn' }) s) (eqb w.turn 0) (took (K s)) (held_off (K s))
      (λ _. kept.look_versions L w K sound.sized sound.times sound.each sound.versions s (took (K s)) turn' low refl refl refl refl (λ p. let z = ok.2 in absurd (omega arith)))
      (λ _. kept.look_versions L w K sound.sized sound.times sound.each sound.versions s (held_off (K s)) turn' low refl refl refl refl (λ _ z. z))

  -- a record of a new key enters the index
  claims : (s q : ℕ) → s < L.sessions → Enabled L (K s) (Claim s q) → Stands L w (K s) (Claim s q) → (b : Bool) → eqb (w.index q) 0 ≡ b → Versions L (record w { index = put w.index q (cond b (K s).placing.hand (w.index q)) }) (put K s (cond b (claimed (K s) q) (claim_lost w (K s) q)))
  claims s q low ok stands true e = let free : w.index q ≡ 0 = eqb-true (w.index q) 0 e in let inside = claim_inside c sound s q stands in let r : ℕ = (K s).placing.hand - 1 in
      let keyed = (sound.index.hands s low).keyed ok in let some = keyed.0 in let hand : r + 1 ≡ (K s).placing.hand = omega arith in
      let none = claim_none L w.counter w.keys w.index (λ j. (K j).placing) sound.index s low q stands.0 ok stands.1 inside stands.2 stands.3 free in
      subst (λ (x : ℕ). Versions L (record w { index = put w.index q x }) (put K s (claimed (K s) q))) hand
      (kept.claim_versions L w K sound.sized sound.times sound.each sound.versions s r (put w.index q (r + 1)) (claimed (K s) q) low (placed_more L w.index q r inside free) (placed_new L w.index q r inside free) (placed_here L w.index q r inside free)
      (λ p h is same. let a = placed_says L w.index p is in let at = a.2 in let i : w.index a.0 - 1 ≡ p = omega arith in none a.0 (omega arith) (ap w.keys i ∙ (same ∙ keyed.1)))
      refl refl refl refl refl)
  claims s q low ok stands false e = subst (λ (f : ℕ → ℕ). Versions L (record w { index = f }) (put K s (claim_lost w (K s) q))) (sym (put_same w.index q)) (quiet s (claim_lost w (K s) q) low refl refl refl refl (λ z. z))

  latches : (s r : ℕ) → s < L.sessions → r < record_count L → Enabled L (K s) (Latch s r) → Stands L w (K s) (Latch s r) → Versions L (record w { heads = put w.heads r (2 * (w.heads r / 2) + 1) }) (put K s (cond (eqb (w.heads r % 2) 0) (latched L w (K s) r) (latch_lost L w (K s) r)))
  latches s r low in_records ok stands = either (Part (record w { heads = put w.heads r (2 * (w.heads r / 2) + 1) }) s) (eqb (w.heads r % 2) 0) (latched L w (K s) r) (latch_lost L w (K s) r)
      (λ e. kept.latch_won L w K sound.sized sound.times sound.each sound.versions r stands s (latched L w (K s) r) low refl refl ok.0 ok.1 ok.2 ok.3 in_records (eqb-true (w.heads r % 2) 0 e))
      (λ e. kept.latch_lost L w K sound.sized sound.times sound.each sound.versions r stands s (latch_lost L w (K s) r) (odd e) low refl refl refl refl refl)
    where
      odd : eqb (w.heads r % 2) 0 ≡ false → w.heads r % 2 ≡ 1
      odd e = dite (ℕ_discrete (w.heads r % 2) 0) (λ z. absurd (true≢false (sym (eq-eqb (w.heads r % 2) 0 z) ∙ e))) (λ z. omega arith)

  tails : (s range : ℕ) → s < L.sessions → Enabled L (K s) (DrawTail s range) → Stands L w (K s) (DrawTail s range) → Versions L (record w { counts = put w.counts range (w.counts range + 1) }) (put K s (cond (nat_lt (w.counts range) L.tails) (tail_drawn L w (K s) range) (tails_full w (K s) range)))
  tails s range low ok stands = either (Part (record w { counts = put w.counts range (w.counts range + 1) }) s) (nat_lt (w.counts range) L.tails) (tail_drawn L w (K s) range) (tails_full w (K s) range)
      (λ e. kept.draw_won L w K sound.sized sound.times sound.each sound.versions s range (tail_drawn L w (K s) range) low ok.0 ok.2 ok.1 (ltb-true (w.counts range) L.tails e) stands refl refl refl refl refl)
      (λ e. kept.draw_lost L w K sound.sized sound.times sound.each sound.versions range s (tails_full w (K s) range) low refl refl refl refl refl)

  stores : (s p x : ℕ) → s < L.sessions → Enabled L (K s) (StoreCell s p x) → Stands L w (K s) (StoreCell s p x) → Versions L (record w { cells = put_in w.cells (K s).hold.tail p x }) (put K s (cond (eqb p 0) (cell_started L w (K s) p x) (word_stored (K s) p x)))
  stores s p x low ok stands = either (Part (record w { cells = put_in w.cells (K s).hold.tail p x }) s) (eqb p 0) (cell_started L w (K s) p x) (word_stored (K s) p x)
      (λ e. let first : p ≡ 0 = eqb-true p 0 e in cells.start_versions L w K sound.sized sound.times sound.each sound.versions s p x low ok.0 ok.1 first (ok.2 first).1 (cell_started L w (K s) p x) (stands first).1 refl refl refl refl refl)
      (λ e. cells.word_versions L w K sound.sized sound.times sound.each sound.versions s p x low ok.0 ok.1 (word_stored (K s) p x) (later e) refl refl refl refl refl)
    where
      later : eqb p 0 ≡ false → 0 < p
      later e = dite (ℕ_discrete p 0) (λ z. absurd (true≢false (sym (eq-eqb p 0 z) ∙ e))) (λ z. omega arith)

  -- the act of an install fits the versions that aren't closed
  pub install_fit : (s : ℕ) (low : s < L.sessions) (whole : (K s).hold.is_whole ≡ true) (linked : w.cells (K s).hold.tail 2 ≡ (K s).hold.head) → cells.Fit L w K sound.sized sound.times sound.each sound.versions s low whole linked
  install_fit s low whole linked = let k = sound.versions.hands s low in subst (λ (before : List Act). FitsAfter before (act_in L w.cells (K s).hold.tail)) (sym (judged_sight c sound s low (k.opened (k.holds (k.some whole))) (k.some whole))) (sound.fit s low whole)

  pub versions_keeps : (e : Event) → session_of e < L.sessions → IsWithin L e → Enabled L (K (session_of e)) e → Stands L w (K (session_of e)) e → Versions L (words_after L w (K (session_of e)) e) (put K (session_of e) (known_after L w (K (session_of e)) e))
  versions_keeps (Look s a) low within ok stands = looks s low (place_of L a)
  versions_keeps (Begin s b r) low within ok stands = kept.begin_versions L w K sound.sized sound.times sound.each sound.versions s b (known_after L w (K s) (Begin s b r)) low ok.0 refl refl
  versions_keeps (Take s) low within ok stands = takes s low ok (cond (eqb w.turn 0) (s + 1) w.turn)
  versions_keeps (Log s) low within ok stands = kept.log_versions L w K sound.sized sound.times sound.each sound.versions s (name_of s (K s).number) (known_after L w (K s) (Log s)) low (λ e. omega arith) refl refl
  versions_keeps (State s) low within ok stands = kept.end_versions L w K sound.sized sound.times sound.each sound.versions s (w.clock + 2) (known_after L w (K s) (State s)) low ((sound.each s low).turn_open (omega arith) (omega arith)) (λ e. omega arith)
      (kept.no_latch L w K sound.sized sound.times sound.each sound.versions s low (inl (λ e. omega arith))) refl refl
  versions_keeps (Clock s) low within ok stands = kept.clock_versions L w K sound.sized sound.times sound.each sound.versions s (known_after L w (K s) (Clock s)) low (λ e. omega arith) refl refl
  versions_keeps (Give s) low within ok stands = kept.look_versions L w K sound.sized sound.times sound.each sound.versions s (known_after L w (K s) (Give s)) 0 low refl refl refl refl (λ _ _. refl)
  versions_keeps (Close s) low within ok stands = kept.end_versions L w K sound.sized sound.times sound.each sound.versions s 1 (known_after L w (K s) (Close s)) low ok.0 (λ e. let z = ok.1 in omega arith) ok.2 refl refl
  versions_keeps (DrawRecord s) low within ok stands = either (Part (record w { counter = w.counter + 1 }) s) (nat_lt w.counter (record_count L)) (record_drawn w (K s)) (records_full w (K s))
      (λ _. kept.index_versions L w K sound.sized sound.times sound.each sound.versions (w.counter + 1) w.keys w.index (λ _ is. is) (λ _ _. refl) s (record_drawn w (K s)) low refl refl refl refl refl sound.versions.keys_apart sound.versions.unplaced)
      (λ _. kept.index_versions L w K sound.sized sound.times sound.each sound.versions (w.counter + 1) w.keys w.index (λ _ is. is) (λ _ _. refl) s (records_full w (K s)) low refl refl refl refl refl sound.versions.keys_apart sound.versions.unplaced)
  versions_keeps (StoreKey s k) low within ok stands = kept.key_versions L w K sound.sized sound.times sound.each sound.versions s ((K s).placing.hand - 1) k (known_after L w (K s) (StoreKey s k)) low (hand_out c sound s low ok) refl refl refl refl refl
  versions_keeps (Claim s q) low within ok stands = claims s q low ok stands (eqb (w.index q) 0) refl
  versions_keeps (Latch s r) low within ok stands = latches s r low within.1 ok stands
  versions_keeps (DrawTail s range) low within ok stands = tails s range low ok stands
  versions_keeps (StoreCell s p x) low within ok stands = stores s p x low ok stands
  versions_keeps (Install s) low within ok stands = cells.install_versions L w K sound.sized sound.times sound.each sound.versions s low ok stands.0 (known_after L w (K s) (Install s)) (install_fit s low ok stands.0) refl refl
  versions_keeps (Release s) low within ok stands = kept.release_versions L w K sound.sized sound.times sound.each sound.versions s (known_after L w (K s) (Release s)) low ok.0 ok.1 refl refl
  versions_keeps (Stamp s range n) low within ok stands = cells.stamp_versions L w K sound.sized sound.times sound.each sound.versions s (range * L.tails + n) low stands.0 stands.1 stands.2
  versions_keeps (Post s column q) low within ok stands = let w' : Words = words_after L w (K s) (Post s column q) in either (Part w' s) (eqb (w.postings column q) 0) (posted (K s) column q) (post_lost w (K s) column q)
      (λ _. kept.post_versions L w K sound.sized sound.times sound.each sound.versions s w'.postings (posted (K s) column q) low refl refl refl refl (λ z. z))
      (λ _. kept.post_versions L w K sound.sized sound.times sound.each sound.versions s w'.postings (post_lost w (K s) column q) low refl refl refl refl (λ z. z))
