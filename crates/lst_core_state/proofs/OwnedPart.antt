-- Each step keeps the part on own writes, and that a whole tail in hand fits.
use Rattle.std.proofs.Common.{◌≡◌, ℕ, ◌+◌, ◌-◌, ◌*◌, ◌/◌, ◌%◌, ◌<◌, [], Bool, true, false, cond, eqb, nat_lt, refl, sym, subst, ap, ◌∙◌, arith, eqb-true, inl, inr, ⊎_elim}
use Rattle.lst_layout.specs.declared.limits.Limits.{Limits}
use Rattle.lst_layout.specs.Functions.{put}
use Rattle.lst_core_state.specs.Lists.{Has, chain_of}
use Rattle.lst_core_state.specs.declared.known.Known.{Known}
use Rattle.lst_core_state.specs.declared.events.Event.{Event}
use Rattle.lst_core_state.specs.declared.events.Event.TheVariants.{Look, Begin, Take, Log, State, Clock, Give, Close, DrawRecord, StoreKey, Claim, Latch, DrawTail, StoreCell, Install, Release, Stamp, Post}
use Rattle.lst_layout.specs.declared.place.Place.{Place}
use Rattle.lst_layout.specs.declared.place.Place.TheVariants.{ClockWord, CommitWord, EpochWord, RecordCounter, LogWord, BeginWord, StateWord, KeyWord, IndexWord, HeadWord, TailCounter, CellWord, DirectoryWord, FrameWord, PinWord, PostingWord}
use Rattle.lst_core_state.specs.Cells.{record_count, range_of, tail_at}
use Rattle.lst_core_state.specs.Index.{is_placed}
use Rattle.lst_core_state.specs.State.{Words, Core, line, writer_at, back_in}
use Rattle.lst_layout.specs.Addresses.{place_of}
use Rattle.lst_core_state.specs.Step.{session_of, Enabled, Stands, words_after, known_after, look_at, gives_up, given_up, took, held_off, record_drawn, records_full, claimed, claim_lost, latched, latch_lost, tail_drawn, tails_full, cell_started, word_stored, posted, post_lost}
use Rattle.lst_core_state.specs.Sound.{Owned, OwnsOf, Sound}
use Rattle.lst_core_state.proofs.Functions.{either}
use Rattle.lst_core_state.proofs.Positions.{placed_more, placed_new, placed_says}
use Rattle.lst_core_state.proofs.IndexKept.{claim_none}
use Rattle.lst_core_state.proofs.Steps.{Same}
use Rattle.lst_core_state.proofs.CellsKept.{tail_at-none}
use Rattle.lst_core_state.proofs.OwnsKept.{Reindexed, index_same, owns_closed, owns_begun, owns_step, owned_put, install_owned}
use Rattle.lst_core_state.proofs.Steady.{put_same, hand_out, kept_key, claim_inside, steady, lines_stay, IsInstall}

module _ (c : Core) (sound : Sound c) where
  abbrev L : Limits
  L = c.limits

  abbrev w : Words
  w = c.words

  abbrev K : ℕ → Known
  K = c.known

  module _ (e : Event) (low : session_of e < L.sessions) (ok : Enabled L (K (session_of e)) e) (stands : Stands L w (K (session_of e)) e) (other : ¬ IsInstall c sound e) where
    abbrev w' : Words
    w' = words_after L w (K (session_of e)) e

    abbrev s : ℕ
    s = session_of e

    on_lines : (r : ℕ) → r < record_count L → (t : ℕ) → Has t (line L w r) → Same L w w' t
    on_lines r h t i = steady c sound e low ok stands t ((sound.versions.lines r h).stored t i)

    -- a session whose own writes are as they were
    pub owned_same : (v' : Known) → Reindexed L w w' → v'.own ≡ (K s).own → v'.is_open ≡ (K s).is_open → v'.number ≡ (K s).number → Owned L w' (put K s v')
    owned_same v' x a b d = owned_put L w w' K s v' x (owns_step L w w' s (K s) v' x a b d (lines_stay c sound e low ok stands other) on_lines (sound.owned s low)) (lines_stay c sound e low ok stands other) on_lines sound.owned

    owned_other : (v' : Known) → Reindexed L w w' → OwnsOf L w' s v' → Owned L w' (put K s v')
    owned_other v' x mine = owned_put L w w' K s v' x mine (lines_stay c sound e low ok stands other) on_lines sound.owned

  looks : (s a : ℕ) → s < L.sessions → (p : Place) → Owned L w (put K s (look_at L w (K s) p))
  looks s a low ClockWord = owned_same (Look s a) low tt tt (λ i. i) (look_at L w (K s) ClockWord) (index_same L w w refl refl) refl refl refl
  looks s a low EpochWord = owned_same (Look s a) low tt tt (λ i. i) (look_at L w (K s) EpochWord) (index_same L w w refl refl) refl refl refl
  looks s a low RecordCounter = owned_same (Look s a) low tt tt (λ i. i) (look_at L w (K s) RecordCounter) (index_same L w w refl refl) refl refl refl
  looks s a low (StateWord j n) = owned_same (Look s a) low tt tt (λ i. i) (look_at L w (K s) (StateWord j n)) (index_same L w w refl refl) refl refl refl
  looks s a low (KeyWord r) = either (λ (u : Known). Owned L w (put K s u)) (gives_up (K s) r (w.keys r)) (given_up (K s)) (K s)
      (λ _. owned_same (Look s a) low tt tt (λ i. i) (given_up (K s)) (index_same L w w refl refl) refl refl refl) (λ _. owned_same (Look s a) low tt tt (λ i. i) (K s) (index_same L w w refl refl) refl refl refl)
  looks s a low (IndexWord q) = owned_same (Look s a) low tt tt (λ i. i) (look_at L w (K s) (IndexWord q)) (index_same L w w refl refl) refl refl refl
  looks s a low (HeadWord r) = owned_same (Look s a) low tt tt (λ i. i) (look_at L w (K s) (HeadWord r)) (index_same L w w refl refl) refl refl refl
  looks s a low (TailCounter range) = owned_same (Look s a) low tt tt (λ i. i) (look_at L w (K s) (TailCounter range)) (index_same L w w refl refl) refl refl refl
  looks s a low (CellWord t p) = owned_same (Look s a) low tt tt (λ i. i) (look_at L w (K s) (CellWord t p)) (index_same L w w refl refl) refl refl refl
  looks s a low CommitWord = owned_same (Look s a) low tt tt (λ i. i) (K s) (index_same L w w refl refl) refl refl refl
  looks s a low (LogWord i) = owned_same (Look s a) low tt tt (λ i. i) (K s) (index_same L w w refl refl) refl refl refl
  looks s a low (BeginWord i n) = owned_same (Look s a) low tt tt (λ i. i) (K s) (index_same L w w refl refl) refl refl refl
  looks s a low (DirectoryWord i n) = owned_same (Look s a) low tt tt (λ i. i) (K s) (index_same L w w refl refl) refl refl refl
  looks s a low (FrameWord i n) = owned_same (Look s a) low tt tt (λ i. i) (K s) (index_same L w w refl refl) refl refl refl
  looks s a low (PinWord i) = owned_same (Look s a) low tt tt (λ i. i) (K s) (index_same L w w refl refl) refl refl refl
  looks s a low (PostingWord i n) = owned_same (Look s a) low tt tt (λ i. i) (look_at L w (K s) (PostingWord i n)) (index_same L w w refl refl) refl refl refl

  -- the index with a claim
  pub claim_indexed : (s q : ℕ) → s < L.sessions → Enabled L (K s) (Claim s q) → Stands L w (K s) (Claim s q) → Reindexed L w (words_after L w (K s) (Claim s q))
  claim_indexed s q low ok stands = choose (eqb (w.index q) 0) refl
    where
      choose : (b : Bool) → eqb (w.index q) 0 ≡ b → Reindexed L w (record w { index = put w.index q (cond b (K s).placing.hand (w.index q)) })
      choose false e = subst (λ (f : ℕ → ℕ). Reindexed L w (record w { index = f })) (sym (put_same w.index q)) (index_same L w w refl refl)
      choose true e = let free : w.index q ≡ 0 = eqb-true (w.index q) 0 e in let inside = claim_inside c sound s q stands in let r : ℕ = (K s).placing.hand - 1 in
          let keyed = (sound.index.hands s low).keyed ok in let some = keyed.0 in let hand : r + 1 ≡ (K s).placing.hand = omega arith in let few = (sound.index.hands s low).few in
          let none = claim_none L w.counter w.keys w.index (λ j. (K j).placing) sound.index s low q stands.0 ok stands.1 inside stands.2 stands.3 free in
          let empty : line L w r ≡ [] = ap (λ (h : ℕ). chain_of (back_in L w.cells) h) (ap (λ (x : ℕ). tail_at L.tails (range_of r) (x / 2)) (sound.versions.unplaced r (omega arith) (hand_out c sound s low keyed.0)) ∙ tail_at-none L.tails (range_of r)) in
          subst (λ (x : ℕ). Reindexed L w (record w { index = put w.index q x })) hand record {
            more = placed_more L w.index q r inside free;
            kept = λ _ _. refl;
            new = λ p h is. ⊎_elim
                (λ (f : p ≡ r). inr (ap (line L w) f ∙ empty, λ y hy is_y d. let a = placed_says L w.index y is_y in let at = a.2 in let i : w.index a.0 - 1 ≡ y = omega arith in none a.0 (omega arith) (ap w.keys i ∙ (d ∙ (ap w.keys f ∙ keyed.1)))))
                (λ (f : is_placed L w.index p ≡ true). inl f) (placed_new L w.index q r inside free p is);
          }

  pub owned_keeps : (e : Event) → session_of e < L.sessions → Enabled L (K (session_of e)) e → Stands L w (K (session_of e)) e → Owned L (words_after L w (K (session_of e)) e) (put K (session_of e) (known_after L w (K (session_of e)) e))
  owned_keeps (Look s a) low ok stands = looks s a low (place_of L a)
  owned_keeps (Begin s b r) low ok stands = let v : Known = K s in let v' : Known = known_after L w v (Begin s b r) in let few = sound.sized.sessions.1 in owned_other (Begin s b r) low ok stands (λ i. i) v' (index_same L w (words_after L w v (Begin s b r)) refl refl)
      (owns_begun L w (words_after L w v (Begin s b r)) s v' refl refl (λ q h t i e. let begun = (sound.versions.stored t ((sound.versions.lines q h).stored t i)).begun in
      let own : writer_at w t ≡ 16 * (v.number + 1) + s = e in let at : writer_at w t % 16 ≡ s = omega arith in let number : (K (writer_at w t % 16)).number ≡ v.number = ap (λ (j : ℕ). (K j).number) at in let most = begun.2 in omega arith))
  owned_keeps (Take s) low ok stands = either (λ (u : Known). Owned L (words_after L w (K s) (Take s)) (put K s u)) (eqb w.turn 0) (took (K s)) (held_off (K s))
      (λ _. owned_same (Take s) low ok stands (λ i. i) (took (K s)) (index_same L w (words_after L w (K s) (Take s)) refl refl) refl refl refl)
      (λ _. owned_same (Take s) low ok stands (λ i. i) (held_off (K s)) (index_same L w (words_after L w (K s) (Take s)) refl refl) refl refl refl)
  owned_keeps (Log s) low ok stands = owned_same (Log s) low ok stands (λ i. i) (known_after L w (K s) (Log s)) (index_same L w (words_after L w (K s) (Log s)) refl refl) refl refl refl
  owned_keeps (State s) low ok stands = owned_same (State s) low ok stands (λ i. i) (known_after L w (K s) (State s)) (index_same L w (words_after L w (K s) (State s)) refl refl) refl refl refl
  owned_keeps (Clock s) low ok stands = owned_other (Clock s) low ok stands (λ i. i) (known_after L w (K s) (Clock s)) (index_same L w (words_after L w (K s) (Clock s)) refl refl) (owns_closed L w (words_after L w (K s) (Clock s)) s (known_after L w (K s) (Clock s)) refl refl)
  owned_keeps (Give s) low ok stands = owned_same (Give s) low ok stands (λ i. i) (known_after L w (K s) (Give s)) (index_same L w (words_after L w (K s) (Give s)) refl refl) refl refl refl
  owned_keeps (Close s) low ok stands = owned_other (Close s) low ok stands (λ i. i) (known_after L w (K s) (Close s)) (index_same L w (words_after L w (K s) (Close s)) refl refl) (owns_closed L w (words_after L w (K s) (Close s)) s (known_after L w (K s) (Close s)) refl refl)
  owned_keeps (DrawRecord s) low ok stands = either (λ (u : Known). Owned L (words_after L w (K s) (DrawRecord s)) (put K s u)) (nat_lt w.counter (record_count L)) (record_drawn w (K s)) (records_full w (K s))
      (λ _. owned_same (DrawRecord s) low ok stands (λ i. i) (record_drawn w (K s)) (index_same L w (words_after L w (K s) (DrawRecord s)) refl refl) refl refl refl)
      (λ _. owned_same (DrawRecord s) low ok stands (λ i. i) (records_full w (K s)) (index_same L w (words_after L w (K s) (DrawRecord s)) refl refl) refl refl refl)
  owned_keeps (StoreKey s k) low ok stands = owned_same (StoreKey s k) low ok stands (λ i. i) (known_after L w (K s) (StoreKey s k)) record { more = λ _ is. is; kept = kept_key c sound s k low ok; new = λ _ _ is. inl is } refl refl refl
  owned_keeps (Claim s q) low ok stands = either (λ (u : Known). Owned L (words_after L w (K s) (Claim s q)) (put K s u)) (eqb (w.index q) 0) (claimed (K s) q) (claim_lost w (K s) q)
      (λ _. owned_same (Claim s q) low ok stands (λ i. i) (claimed (K s) q) (claim_indexed s q low ok stands) refl refl refl)
      (λ _. owned_same (Claim s q) low ok stands (λ i. i) (claim_lost w (K s) q) (claim_indexed s q low ok stands) refl refl refl)
  owned_keeps (Latch s r) low ok stands = either (λ (u : Known). Owned L (words_after L w (K s) (Latch s r)) (put K s u)) (eqb (w.heads r % 2) 0) (latched L w (K s) r) (latch_lost L w (K s) r)
      (λ _. owned_same (Latch s r) low ok stands (λ i. i) (latched L w (K s) r) (index_same L w (words_after L w (K s) (Latch s r)) refl refl) refl refl refl)
      (λ _. owned_same (Latch s r) low ok stands (λ i. i) (latch_lost L w (K s) r) (index_same L w (words_after L w (K s) (Latch s r)) refl refl) refl refl refl)
  owned_keeps (DrawTail s range) low ok stands = either (λ (u : Known). Owned L (words_after L w (K s) (DrawTail s range)) (put K s u)) (nat_lt (w.counts range) L.tails) (tail_drawn L w (K s) range) (tails_full w (K s) range)
      (λ _. owned_same (DrawTail s range) low ok stands (λ i. i) (tail_drawn L w (K s) range) (index_same L w (words_after L w (K s) (DrawTail s range)) refl refl) refl refl refl)
      (λ _. owned_same (DrawTail s range) low ok stands (λ i. i) (tails_full w (K s) range) (index_same L w (words_after L w (K s) (DrawTail s range)) refl refl) refl refl refl)
  owned_keeps (StoreCell s p x) low ok stands = either (λ (u : Known). Owned L (words_after L w (K s) (StoreCell s p x)) (put K s u)) (eqb p 0) (cell_started L w (K s) p x) (word_stored (K s) p x)
      (λ _. owned_same (StoreCell s p x) low ok stands (λ i. i) (cell_started L w (K s) p x) (index_same L w (words_after L w (K s) (StoreCell s p x)) refl refl) refl refl refl)
      (λ _. owned_same (StoreCell s p x) low ok stands (λ i. i) (word_stored (K s) p x) (index_same L w (words_after L w (K s) (StoreCell s p x)) refl refl) refl refl refl)
  owned_keeps (Install s) low ok stands = install_owned L w K sound.sized sound.times sound.each sound.versions sound.owned s (known_after L w (K s) (Install s)) low ok stands.0 refl refl refl
  owned_keeps (Release s) low ok stands = owned_same (Release s) low ok stands (λ i. i) (known_after L w (K s) (Release s)) (index_same L w (words_after L w (K s) (Release s)) refl refl) refl refl refl
  owned_keeps (Stamp s range n) low ok stands = owned_same (Stamp s range n) low ok stands (λ i. i) (K s) (index_same L w (words_after L w (K s) (Stamp s range n)) refl refl) refl refl refl
  owned_keeps (Post s column q) low ok stands = let w' : Words = words_after L w (K s) (Post s column q) in either (λ (u : Known). Owned L w' (put K s u)) (eqb (w.postings column q) 0) (posted (K s) column q) (post_lost w (K s) column q)
      (λ _. owned_same (Post s column q) low ok stands (λ i. i) (posted (K s) column q) (index_same L w w' refl refl) refl refl refl)
      (λ _. owned_same (Post s column q) low ok stands (λ i. i) (post_lost w (K s) column q) (index_same L w w' refl refl) refl refl refl)
