-- Each step keeps the part on tail counters.
use Rattle.std.proofs.Common.{◌≡◌, ◌≢◌, ℕ, ◌+◌, ◌%◌, ◌<◌, List, cond, eqb, nat_lt, length, get_or, set, refl, sym, subst, ap, ◌∙◌, arith, true≢false, lt-ltb, ltb-true, length-set, get_or-set_same, get_or-set_other}
use mathlib.Core.Logic.{dite}
use native.Mathlib.Decide.{ℕ_discrete, dec_lt}
use Rattle.lst_layout.specs.declared.limits.Limits.{Limits}
use Rattle.lst_layout.specs.Functions.{put}
use Rattle.lst_core_state.specs.declared.known.Known.{Known}
use Rattle.lst_core_state.specs.declared.known.Counter.{Counter}
use Rattle.lst_core_state.specs.declared.events.Event.{Event}
use Rattle.lst_core_state.specs.declared.events.Event.TheVariants.{Look, Begin, Take, Log, State, Clock, Give, Close, DrawRecord, StoreKey, Claim, Latch, DrawTail, StoreCell, Install, Release, Stamp, Post}
use Rattle.lst_layout.specs.declared.place.Place.{Place}
use Rattle.lst_layout.specs.declared.place.Place.TheVariants.{ClockWord, CommitWord, EpochWord, RecordCounter, LogWord, BeginWord, StateWord, KeyWord, IndexWord, HeadWord, TailCounter, CellWord, DirectoryWord, FrameWord, PinWord, PostingWord}
use Rattle.lst_core_state.specs.Cells.{record_count}
use Rattle.lst_core_state.specs.State.{Words, Core, counter_of, no_counter}
use Rattle.lst_layout.specs.Addresses.{place_of}
use Rattle.lst_core_state.specs.Step.{session_of, Enabled, words_after, known_after, look_at, served, spent, drawn_full, gives_up, given_up, took, held_off, record_drawn, records_full, claimed, claim_lost, latched, latch_lost, tail_drawn, tails_full, cell_started, word_stored, posted, post_lost}
use Rattle.lst_core_state.specs.Sound.{Counted, TailsCounted, HasCounters, Sound}
use Rattle.lst_core_state.proofs.Functions.{either, each_put, put_here, put_else}
use Rattle.lst_core_state.proofs.Counters.{along, counted_alike, counted_look, counted_draw, counted_full}

module _ (c : Core) (sound : Sound c) where
  abbrev L : Limits
  L = c.limits

  abbrev w : Words
  w = c.words

  abbrev K : ℕ → Known
  K = c.known

  -- both parts
  abbrev pub Parts : (ℕ → ℕ) → ℕ → Known → Type 0
  Parts counts' s u = TailsCounted L counts' (put K s u) × HasCounters L (put K s u)

  counters_kept : (s : ℕ) (v' : Known) → (s < L.sessions → length v'.counters ≡ L.ranges) → HasCounters L (put K s v')
  counters_kept s v' mine = each_put (λ (j : ℕ) (u : Known). j < L.sessions → length u.counters ≡ L.ranges) K s v' mine (λ j other. sound.counters j)

  -- a session that knows the same of the tail counters
  pub same : (s : ℕ) (v' : Known) → v'.counters ≡ (K s).counters → Parts w.counts s v'
  same s v' e = (
    λ range low. counted_alike L.tails L.sessions (w.counts range) (λ j. counter_of (K j) range) (sound.counted range low) (λ j. counter_of (put K s v' j) range)
        (λ j h. each_put (λ (i : ℕ) (u : Known). counter_of u range ≡ counter_of (K i) range) K s v' (ap (λ (l : List Counter). get_or l range no_counter) e) (λ i other. refl) j),
    counters_kept s v' (λ h. ap length e ∙ sound.counters s h),
  )

  -- one counter, and what s knows of it, change
  one : (counts' : ℕ → ℕ) (s r : ℕ) (c' : Counter) (v' : Known) → s < L.sessions → v'.counters ≡ set (K s).counters r c' → ((q : ℕ) → q ≢ r → counts' q ≡ w.counts q) → (r < L.ranges → Counted L.tails L.sessions (counts' r) (put (λ j. counter_of (K j) r) s c')) → Parts counts' s v'
  one counts' s r c' v' low e else mine = (
    λ range h. subst (Counted L.tails L.sessions (counts' range)) (sym (along (λ (u : Known). counter_of u range) K s v'))
        (dite (ℕ_discrete range r)
        (λ f. let inside : r < L.ranges = omega arith in subst (λ (q : ℕ). Counted L.tails L.sessions (counts' q) (put (λ j. counter_of (K j) q) s (counter_of v' q))) (sym f)
        (subst (λ (d : Counter). Counted L.tails L.sessions (counts' r) (put (λ j. counter_of (K j) r) s d)) (sym (ap (λ (l : List Counter). get_or l r no_counter) e ∙ get_or-set_same (K s).counters r c' no_counter (let g = sound.counters s low in omega arith))) (mine inside)))
        (λ ne. subst (λ (n : ℕ). Counted L.tails L.sessions n (put (λ j. counter_of (K j) range) s (counter_of v' range))) (sym (else range ne))
        (counted_alike L.tails L.sessions (w.counts range) (λ j. counter_of (K j) range) (sound.counted range h) (put (λ j. counter_of (K j) range) s (counter_of v' range))
        (λ j _. each_put (λ (i : ℕ) (d : Counter). d ≡ counter_of (K i) range) (λ i. counter_of (K i) range) s (counter_of v' range) (ap (λ (l : List Counter). get_or l range no_counter) e ∙ get_or-set_other (K s).counters r range c' no_counter ne) (λ i other. refl) j)))),
    counters_kept s v' (λ h. ap length e ∙ (length-set (K s).counters r c' ∙ sound.counters s h)),
  )

  looks : (s : ℕ) → s < L.sessions → (p : Place) → Parts w.counts s (look_at L w (K s) p)
  looks s low ClockWord = same s (look_at L w (K s) ClockWord) refl
  looks s low EpochWord = same s (look_at L w (K s) EpochWord) refl
  looks s low RecordCounter = same s (look_at L w (K s) RecordCounter) refl
  looks s low (StateWord j n) = same s (look_at L w (K s) (StateWord j n)) refl
  looks s low (KeyWord r) = either (Parts w.counts s) (gives_up (K s) r (w.keys r)) (given_up (K s)) (K s) (λ _. same s (given_up (K s)) refl) (λ _. same s (K s) refl)
  looks s low (IndexWord q) = same s (look_at L w (K s) (IndexWord q)) refl
  looks s low (HeadWord r) = same s (look_at L w (K s) (HeadWord r)) refl
  looks s low (TailCounter range) = one w.counts s range (served L.tails (w.counts range) (counter_of (K s) range)) (look_at L w (K s) (TailCounter range)) low refl (λ _ _. refl)
      (λ h. counted_look L.tails L.sessions (w.counts range) (λ j. counter_of (K j) range) (sound.counted range h) s low)
  looks s low (CellWord t p) = same s (look_at L w (K s) (CellWord t p)) refl
  looks s low CommitWord = same s (K s) refl
  looks s low (LogWord i) = same s (K s) refl
  looks s low (BeginWord i n) = same s (K s) refl
  looks s low (DirectoryWord i n) = same s (K s) refl
  looks s low (FrameWord i n) = same s (K s) refl
  looks s low (PinWord i) = same s (K s) refl
  looks s low (PostingWord i n) = same s (look_at L w (K s) (PostingWord i n)) refl

  tails : (s range : ℕ) → s < L.sessions → Enabled L (K s) (DrawTail s range) → Parts (put w.counts range (w.counts range + 1)) s (cond (nat_lt (w.counts range) L.tails) (tail_drawn L w (K s) range) (tails_full w (K s) range))
  tails s range low ok = let counts' : ℕ → ℕ = put w.counts range (w.counts range + 1) in let here : counts' range ≡ w.counts range + 1 = put_here w.counts range (w.counts range + 1) in let knows : ℕ → Counter = λ j. counter_of (K j) range in
      either (Parts counts' s) (nat_lt (w.counts range) L.tails) (tail_drawn L w (K s) range) (tails_full w (K s) range)
      (λ e. one counts' s range (spent (counter_of (K s) range)) (tail_drawn L w (K s) range) low refl (λ q ne. put_else w.counts range (w.counts range + 1) q ne)
      (λ h. subst (λ (n : ℕ). Counted L.tails L.sessions n (put knows s (spent (counter_of (K s) range)))) (sym here) (counted_draw L.tails L.sessions (w.counts range) knows (sound.counted range h) s low ok.3 (ltb-true (w.counts range) L.tails e))))
      (λ e. one counts' s range (drawn_full (w.counts range)) (tails_full w (K s) range) low refl (λ q ne. put_else w.counts range (w.counts range + 1) q ne)
      (λ h. subst (λ (n : ℕ). Counted L.tails L.sessions n (put knows s (drawn_full (w.counts range)))) (sym here) (counted_full L.tails L.sessions (w.counts range) knows (sound.counted range h) s low ok.3
      (dite (dec_lt (w.counts range) L.tails) (λ d. absurd (true≢false (sym (lt-ltb (w.counts range) L.tails d) ∙ e))) (λ d. grind (arith, d))))))

  pub counts_keep : (e : Event) → session_of e < L.sessions → Enabled L (K (session_of e)) e → Parts (words_after L w (K (session_of e)) e).counts (session_of e) (known_after L w (K (session_of e)) e)
  counts_keep (Look s a) low ok = looks s low (place_of L a)
  counts_keep (Begin s b r) low ok = same s (known_after L w (K s) (Begin s b r)) refl
  counts_keep (Take s) low ok = either (Parts w.counts s) (eqb w.turn 0) (took (K s)) (held_off (K s)) (λ _. same s (took (K s)) refl) (λ _. same s (held_off (K s)) refl)
  counts_keep (Log s) low ok = same s (known_after L w (K s) (Log s)) refl
  counts_keep (State s) low ok = same s (known_after L w (K s) (State s)) refl
  counts_keep (Clock s) low ok = same s (known_after L w (K s) (Clock s)) refl
  counts_keep (Give s) low ok = same s (known_after L w (K s) (Give s)) refl
  counts_keep (Close s) low ok = same s (known_after L w (K s) (Close s)) refl
  counts_keep (DrawRecord s) low ok = either (Parts w.counts s) (nat_lt w.counter (record_count L)) (record_drawn w (K s)) (records_full w (K s)) (λ _. same s (record_drawn w (K s)) refl) (λ _. same s (records_full w (K s)) refl)
  counts_keep (StoreKey s k) low ok = same s (known_after L w (K s) (StoreKey s k)) refl
  counts_keep (Claim s q) low ok = either (Parts w.counts s) (eqb (w.index q) 0) (claimed (K s) q) (claim_lost w (K s) q) (λ _. same s (claimed (K s) q) refl) (λ _. same s (claim_lost w (K s) q) refl)
  counts_keep (Latch s r) low ok = either (Parts w.counts s) (eqb (w.heads r % 2) 0) (latched L w (K s) r) (latch_lost L w (K s) r) (λ _. same s (latched L w (K s) r) refl) (λ _. same s (latch_lost L w (K s) r) refl)
  counts_keep (DrawTail s range) low ok = tails s range low ok
  counts_keep (StoreCell s p x) low ok = either (Parts w.counts s) (eqb p 0) (cell_started L w (K s) p x) (word_stored (K s) p x) (λ _. same s (cell_started L w (K s) p x) refl) (λ _. same s (word_stored (K s) p x) refl)
  counts_keep (Install s) low ok = same s (known_after L w (K s) (Install s)) refl
  counts_keep (Release s) low ok = same s (known_after L w (K s) (Release s)) refl
  counts_keep (Stamp s range n) low ok = same s (K s) refl
  counts_keep (Post s column q) low ok = either (Parts w.counts s) (eqb (w.postings column q) 0) (posted (K s) column q) (post_lost w (K s) column q) (λ _. same s (posted (K s) column q) refl) (λ _. same s (post_lost w (K s) column q) refl)
