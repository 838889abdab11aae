-- Each step keeps that a whole tail in hand fits what its transaction sees.
use Rattle.std.proofs.Common.{◌≡◌, ℕ, ◌-◌, ◌%◌, ◌<◌, List, ◌++◌, true, false, eqb, nat_lt, take, refl, sym, subst, ap, ◌∙◌, arith, true≢false, eqb-true}
use Rattle.std.proofs.lemmas.List.{take-append-le}
use Rattle.lst_layout.specs.declared.limits.Limits.{Limits}
use Rattle.lst_layout.specs.Functions.{put, put_in}
use Rattle.lst_model.specs.declared.acts.Act.{Act}
use Rattle.lst_model.specs.declared.commits.Commit.{Commit}
use Rattle.lst_model.specs.Histories.{acts_on, all_acts_on}
use Rattle.lst_core_state.specs.declared.known.Known.{Known}
use Rattle.lst_core_state.specs.declared.known.Hold.{Hold}
use Rattle.lst_core_state.specs.declared.events.Event.{Event}
use Rattle.lst_core_state.specs.declared.events.Event.TheVariants.{Look, Begin, Take, Log, State, Clock, Give, Close, DrawRecord, StoreKey, Claim, Latch, DrawTail, StoreCell, Install, Release, Stamp, Post}
use Rattle.lst_layout.specs.declared.place.Place.{Place}
use Rattle.lst_layout.specs.declared.place.Place.TheVariants.{ClockWord, CommitWord, EpochWord, RecordCounter, LogWord, BeginWord, StateWord, KeyWord, IndexWord, HeadWord, TailCounter, CellWord, DirectoryWord, FrameWord, PinWord, PostingWord}
use Rattle.lst_core_state.specs.Cells.{record_count}
use Rattle.lst_core_state.specs.Index.{is_placed}
use Rattle.lst_core_state.specs.State.{Words, Core, rank, act_in, history_of, sight, FitsAfter}
use Rattle.lst_layout.specs.Addresses.{place_of}
use Rattle.lst_core_state.specs.Step.{session_of, Enabled, Stands, words_after, known_after, look_at, gives_up, given_up, took, held_off, record_drawn, records_full, claimed, claim_lost, latched, latch_lost, tail_drawn, tails_full, cell_started, word_stored, posted, post_lost}
use Rattle.lst_core_state.specs.Sound.{Fit, FitsOf, Sound}
use Rattle.lst_core_state.proofs.Functions.{either, each_put}
use Rattle.lst_core_state.proofs.Steps.{act_same}
use Rattle.lst_core_state.proofs.CellsKept.{put_in_place}
use Rattle.lst_core_state.proofs.Steady.{kept_key, steady}

module _ (c : Core) (sound : Sound c) where
  abbrev L : Limits
  L = c.limits

  abbrev w : Words
  w = c.words

  abbrev K : ℕ → Known
  K = c.known

  -- the keys of records in the index stay
  pub keys_kept : (e : Event) → session_of e < L.sessions → Enabled L (K (session_of e)) e → (r : ℕ) → is_placed L w.index r ≡ true → (words_after L w (K (session_of e)) e).keys r ≡ w.keys r
  keys_kept (Look s a) low ok r is = refl
  keys_kept (Begin s b ro) low ok r is = refl
  keys_kept (Take s) low ok r is = refl
  keys_kept (Log s) low ok r is = refl
  keys_kept (State s) low ok r is = refl
  keys_kept (Clock s) low ok r is = refl
  keys_kept (Give s) low ok r is = refl
  keys_kept (Close s) low ok r is = refl
  keys_kept (DrawRecord s) low ok r is = refl
  keys_kept (StoreKey s k) low ok r is = kept_key c sound s k low ok r is
  keys_kept (Claim s q) low ok r is = refl
  keys_kept (Latch s q) low ok r is = refl
  keys_kept (DrawTail s range) low ok r is = refl
  keys_kept (StoreCell s p x) low ok r is = refl
  keys_kept (Install s) low ok r is = refl
  keys_kept (Release s) low ok r is = refl
  keys_kept (Stamp s range n) low ok r is = refl
  keys_kept (Post s column q) low ok r is = refl

  -- a whole tail in hand is stored, and its record is in the index
  pub whole_stored : (j : ℕ) → j < L.sessions → (K j).hold.is_whole ≡ true → (0 < w.cells (K j).hold.tail 0) × (is_placed L w.index ((K j).hold.latch - 1) ≡ true) × (rank (K j).turn ≡ 0) × ((K j).is_open ≡ true) × (0 < (K j).hold.latch)
  whole_stored j h whole = let k = sound.versions.hands j h in let start = k.start whole in let held = k.holds (k.some whole) in (omega arith, k.index held, k.away held, k.opened held, held)

  module _ (e : Event) (low : session_of e < L.sessions) (ok : Enabled L (K (session_of e)) e) (stands : Stands L w (K (session_of e)) e) where
    abbrev w' : Words
    w' = words_after L w (K (session_of e)) e

    -- a session that sees what it saw, with what it had in hand
    pub fit_step : (j : ℕ) (u : Known) → j < L.sessions → u.hold ≡ (K j).hold → ((k : ℕ) → sight u k ≡ sight (K j) k) → FitsOf L w' u
    fit_step j u h same sees whole = let was : (K j).hold.is_whole ≡ true = ap (λ (x : Hold). x.is_whole) (sym same) ∙ whole in let q = whole_stored j h was in
        subst (λ (x : Hold). FitsAfter (sight u (w'.keys (x.latch - 1))) (act_in L w'.cells x.tail)) (sym same)
        (subst (λ (a : Act). FitsAfter (sight u (w'.keys ((K j).hold.latch - 1))) a) (sym (act_same L w.cells w'.cells (K j).hold.tail (steady c sound e low ok stands (K j).hold.tail q.0).words))
        (subst (λ (acts : List Act). FitsAfter acts (act_in L w.cells (K j).hold.tail)) (sym (ap (sight u) (keys_kept e low ok ((K j).hold.latch - 1) q.1) ∙ sees (w.keys ((K j).hold.latch - 1)))) (sound.fit j h was)))

    pub fit_put : (v' : Known) → FitsOf L w' v' → Fit L w' (put K (session_of e) v')
    fit_put v' mine = each_put (λ (j : ℕ) (u : Known). j < L.sessions → FitsOf L w' u) K (session_of e) v' (λ _. mine) (λ j other h. fit_step j (K j) h refl (λ _. refl))

    -- the stepping session sees what it saw
    fit_same : (v' : Known) → v'.hold ≡ (K (session_of e)).hold → ((k : ℕ) → sight v' k ≡ sight (K (session_of e)) k) → Fit L w' (put K (session_of e) v')
    fit_same v' same sees = fit_put v' (fit_step (session_of e) v' low same sees)

    -- it has no whole tail in hand
    fit_none : (v' : Known) → ¬ (v'.hold.is_whole ≡ true) → Fit L w' (put K (session_of e) v')
    fit_none v' none = fit_put v' (λ whole. absurd (none whole))

  -- a session in its turn, or without a transaction, has no whole tail
  turned : (s : ℕ) → s < L.sessions → 0 < rank (K s).turn → ¬ ((K s).hold.is_whole ≡ true)
  turned s low some whole = let q = (whole_stored s low whole).2 in omega arith

  shut : (s : ℕ) → s < L.sessions → (K s).is_open ≡ false → ¬ ((K s).hold.is_whole ≡ true)
  shut s low none whole = true≢false (sym (whole_stored s low whole).3 ∙ none)

  unlatched : (s : ℕ) → s < L.sessions → (K s).hold.latch ≡ 0 → ¬ ((K s).hold.is_whole ≡ true)
  unlatched s low none whole = let q = (whole_stored s low whole).4 in omega arith

  -- what was seen up to the begin doesn't change when more is seen
  pub sight_more : (s : ℕ) → s < L.sessions → (K s).is_open ≡ true → (k : ℕ) → all_acts_on k (take (K s).begin (history_of L w)) ++ acts_on k (K s).own ≡ sight (K s) k
  sight_more s low is_on k = let v : Known = K s in let y = sound.views s low in ap (λ (l : List Commit). all_acts_on k l ++ acts_on k v.own) (ap (take v.begin) y.prefix.1 ∙ take-append-le v.begin v.seen y.prefix.0 (y.begun is_on))

  looks_clock : (s a : ℕ) → s < L.sessions → Fit L w (put K s (look_at L w (K s) ClockWord))
  looks_clock s a low = fit_put (Look s a) low tt tt (look_at L w (K s) ClockWord) (λ whole. subst (λ (acts : List Act). FitsAfter acts (act_in L w.cells (K s).hold.tail)) (sym (sight_more s low (whole_stored s low whole).3 (w.keys ((K s).hold.latch - 1)))) (sound.fit s low whole))

  looks : (s a : ℕ) → s < L.sessions → (p : Place) → Fit L w (put K s (look_at L w (K s) p))
  looks s a low ClockWord = looks_clock s a low
  looks s a low EpochWord = fit_same (Look s a) low tt tt (look_at L w (K s) EpochWord) refl (λ _. refl)
  looks s a low RecordCounter = fit_same (Look s a) low tt tt (look_at L w (K s) RecordCounter) refl (λ _. refl)
  looks s a low (StateWord j n) = fit_same (Look s a) low tt tt (look_at L w (K s) (StateWord j n)) refl (λ _. refl)
  looks s a low (KeyWord r) = either (λ (u : Known). Fit L w (put K s u)) (gives_up (K s) r (w.keys r)) (given_up (K s)) (K s) (λ _. fit_same (Look s a) low tt tt (given_up (K s)) refl (λ _. refl)) (λ _. fit_same (Look s a) low tt tt (K s) refl (λ _. refl))
  looks s a low (IndexWord q) = fit_same (Look s a) low tt tt (look_at L w (K s) (IndexWord q)) refl (λ _. refl)
  looks s a low (HeadWord r) = fit_same (Look s a) low tt tt (look_at L w (K s) (HeadWord r)) refl (λ _. refl)
  looks s a low (TailCounter range) = fit_same (Look s a) low tt tt (look_at L w (K s) (TailCounter range)) refl (λ _. refl)
  looks s a low (CellWord t p) = fit_same (Look s a) low tt tt (look_at L w (K s) (CellWord t p)) refl (λ _. refl)
  looks s a low CommitWord = fit_same (Look s a) low tt tt (K s) refl (λ _. refl)
  looks s a low (LogWord i) = fit_same (Look s a) low tt tt (K s) refl (λ _. refl)
  looks s a low (BeginWord i n) = fit_same (Look s a) low tt tt (K s) refl (λ _. refl)
  looks s a low (DirectoryWord i n) = fit_same (Look s a) low tt tt (K s) refl (λ _. refl)
  looks s a low (FrameWord i n) = fit_same (Look s a) low tt tt (K s) refl (λ _. refl)
  looks s a low (PinWord i) = fit_same (Look s a) low tt tt (K s) refl (λ _. refl)
  looks s a low (PostingWord i n) = fit_same (Look s a) low tt tt (look_at L w (K s) (PostingWord i n)) refl (λ _. refl)

  starts_fit : (s p x : ℕ) (low : s < L.sessions) (ok : Enabled L (K s) (StoreCell s p x)) (stands : Stands L w (K s) (StoreCell s p x)) → p ≡ 0 → FitsOf L (words_after L w (K s) (StoreCell s p x)) (cell_started L w (K s) p x)
  starts_fit s p x low ok stands first whole = let T : ℕ = (K s).hold.tail in
      subst (λ (a : Act). FitsAfter (sight (K s) (w.keys ((K s).hold.latch - 1))) a) (sym (act_same L w.cells (put_in w.cells T p x) T (λ q some. put_in_place w.cells T p x T q (λ e. omega arith)))) (stands first).2

  pub fit_keeps : (e : Event) → session_of e < L.sessions → Enabled L (K (session_of e)) e → Stands L w (K (session_of e)) e → Fit L (words_after L w (K (session_of e)) e) (put K (session_of e) (known_after L w (K (session_of e)) e))
  fit_keeps (Look s a) low ok stands = looks s a low (place_of L a)
  fit_keeps (Begin s b r) low ok stands = fit_none (Begin s b r) low ok stands (known_after L w (K s) (Begin s b r)) (shut s low ok.0)
  fit_keeps (Take s) low ok stands = either (λ (u : Known). Fit L (words_after L w (K s) (Take s)) (put K s u)) (eqb w.turn 0) (took (K s)) (held_off (K s))
      (λ _. fit_none (Take s) low ok stands (took (K s)) (unlatched s low ok.2)) (λ _. fit_none (Take s) low ok stands (held_off (K s)) (unlatched s low ok.2))
  fit_keeps (Log s) low ok stands = fit_none (Log s) low ok stands (known_after L w (K s) (Log s)) (turned s low (omega arith))
  fit_keeps (State s) low ok stands = fit_none (State s) low ok stands (known_after L w (K s) (State s)) (turned s low (omega arith))
  fit_keeps (Clock s) low ok stands = fit_none (Clock s) low ok stands (known_after L w (K s) (Clock s)) (turned s low (omega arith))
  fit_keeps (Give s) low ok stands = fit_none (Give s) low ok stands (known_after L w (K s) (Give s)) (turned s low ok.0)
  fit_keeps (Close s) low ok stands = fit_none (Close s) low ok stands (known_after L w (K s) (Close s)) (unlatched s low ok.2)
  fit_keeps (DrawRecord s) low ok stands = either (λ (u : Known). Fit L (words_after L w (K s) (DrawRecord s)) (put K s u)) (nat_lt w.counter (record_count L)) (record_drawn w (K s)) (records_full w (K s))
      (λ _. fit_same (DrawRecord s) low ok stands (record_drawn w (K s)) refl (λ _. refl)) (λ _. fit_same (DrawRecord s) low ok stands (records_full w (K s)) refl (λ _. refl))
  fit_keeps (StoreKey s k) low ok stands = fit_same (StoreKey s k) low ok stands (known_after L w (K s) (StoreKey s k)) refl (λ _. refl)
  fit_keeps (Claim s q) low ok stands = either (λ (u : Known). Fit L (words_after L w (K s) (Claim s q)) (put K s u)) (eqb (w.index q) 0) (claimed (K s) q) (claim_lost w (K s) q)
      (λ _. fit_same (Claim s q) low ok stands (claimed (K s) q) refl (λ _. refl)) (λ _. fit_same (Claim s q) low ok stands (claim_lost w (K s) q) refl (λ _. refl))
  fit_keeps (Latch s r) low ok stands = either (λ (u : Known). Fit L (words_after L w (K s) (Latch s r)) (put K s u)) (eqb (w.heads r % 2) 0) (latched L w (K s) r) (latch_lost L w (K s) r)
      (λ _. fit_none (Latch s r) low ok stands (latched L w (K s) r) (λ e. true≢false (sym e))) (λ _. fit_same (Latch s r) low ok stands (latch_lost L w (K s) r) refl (λ _. refl))
  fit_keeps (DrawTail s range) low ok stands = either (λ (u : Known). Fit L (words_after L w (K s) (DrawTail s range)) (put K s u)) (nat_lt (w.counts range) L.tails) (tail_drawn L w (K s) range) (tails_full w (K s) range)
      (λ _. fit_none (DrawTail s range) low ok stands (tail_drawn L w (K s) range) (λ whole. let q = (sound.versions.hands s low).some whole in let z = ok.2 in omega arith)) (λ _. fit_same (DrawTail s range) low ok stands (tails_full w (K s) range) refl (λ _. refl))
  fit_keeps (StoreCell s p x) low ok stands = either (λ (u : Known). Fit L (words_after L w (K s) (StoreCell s p x)) (put K s u)) (eqb p 0) (cell_started L w (K s) p x) (word_stored (K s) p x)
      (λ e. fit_put (StoreCell s p x) low ok stands (cell_started L w (K s) p x) (starts_fit s p x low ok stands (eqb-true p 0 e))) (λ _. fit_none (StoreCell s p x) low ok stands (word_stored (K s) p x) (λ whole. true≢false (sym whole ∙ ok.1)))
  fit_keeps (Install s) low ok stands = fit_none (Install s) low ok stands (known_after L w (K s) (Install s)) (λ e. true≢false (sym e))
  fit_keeps (Release s) low ok stands = fit_none (Release s) low ok stands (known_after L w (K s) (Release s)) (λ e. true≢false (sym e))
  fit_keeps (Stamp s range n) low ok stands = fit_same (Stamp s range n) low ok stands (K s) refl (λ _. refl)
  fit_keeps (Post s column q) low ok stands = either (λ (u : Known). Fit L (words_after L w (K s) (Post s column q)) (put K s u)) (eqb (w.postings column q) 0) (posted (K s) column q) (post_lost w (K s) column q)
      (λ _. fit_same (Post s column q) low ok stands (posted (K s) column q) refl (λ _. refl)) (λ _. fit_same (Post s column q) low ok stands (post_lost w (K s) column q) refl (λ _. refl))
