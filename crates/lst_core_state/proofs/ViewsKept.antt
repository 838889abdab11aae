-- Each step keeps that what a session has seen is the front of the history.
use Rattle.std.proofs.Common.{◌≡◌, ℕ, ◌+◌, ◌<◌, ◌≤◌, List, [], ◌∷◌, ◌++◌, true, length, refl, sym, subst, ap, ◌∙◌, arith, true≢false, append-nil}
use Rattle.lst_layout.specs.declared.limits.Limits.{Limits}
use Rattle.lst_layout.specs.Functions.{put}
use Rattle.lst_model.specs.declared.commits.Commit.{Commit}
use Rattle.lst_model.specs.Histories.{Extends}
use Rattle.lst_core_state.specs.Writes.{commit}
use Rattle.lst_core_state.specs.declared.known.Known.{Known}
use Rattle.lst_core_state.specs.declared.events.Event.{Event}
use Rattle.lst_core_state.specs.declared.events.Event.TheVariants.{Look, Begin, Take, Log, State, Clock, Give, Close, DrawRecord, StoreKey, Claim, Latch, DrawTail, StoreCell, Install, Release, Stamp, Post}
use Rattle.lst_layout.specs.declared.place.Place.{Place}
use Rattle.lst_layout.specs.declared.place.Place.TheVariants.{ClockWord, CommitWord, EpochWord, RecordCounter, LogWord, BeginWord, StateWord, KeyWord, IndexWord, HeadWord, TailCounter, CellWord, DirectoryWord, FrameWord, PinWord, PostingWord}
use Rattle.lst_core_state.specs.State.{Words, Core, rank, history_of, writes_of, commits_of}
use Rattle.lst_layout.specs.Addresses.{place_of}
use Rattle.lst_core_state.specs.Step.{session_of, Enabled, Stands, words_after, known_after, look_at, took}
use Rattle.lst_core_state.specs.Sound.{ViewOf, Views, Sound}
use Rattle.lst_core_state.proofs.Functions.{each_put, either}
use Rattle.lst_core_state.proofs.Histories.{length-history, starts_more, starts_whole, commits_of-other}
use Rattle.lst_core_state.proofs.Decodes.{appended, decodes, clock_next}
use Rattle.lst_core_state.proofs.RunsKept.{seen_low}

module _ (c : Core) (sound : Sound c) where
  abbrev L : Limits
  L = c.limits

  abbrev w : Words
  w = c.words

  abbrev K : ℕ → Known
  K = c.known

  abbrev H : List Commit
  H = history_of L w

  -- a session that knows no more of the history
  view_same : (s : ℕ) (v' : Known) → s < L.sessions → v'.seen ≡ (K s).seen → v'.begin ≡ (K s).begin → (v'.is_open ≡ true → (K s).is_open ≡ true) → (2 ≤ rank v'.turn → 2 ≤ rank (K s).turn) → ViewOf H s v'
  view_same s v' low e f opened stage = let y = sound.views s low in record {
    prefix = subst (λ (z : List Commit). Extends H z) (sym e) y.prefix;
    whole = λ h. e ∙ y.whole (stage h);
    begun = λ h. let q = y.begun (opened h) in let n : length v'.seen ≡ length (K s).seen = ap length e in omega arith;
    own = ap (commits_of s) e ∙ y.own;
  }

  looks : (s : ℕ) → s < L.sessions → (p : Place) → ViewOf H s (look_at L w (K s) p)
  looks s low ClockWord = let y = sound.views s low in record { prefix = starts_whole H H refl; whole = λ _. refl; begun = λ e. let short = y.begun e in let long = seen_low c sound s low in let all = length-history w.clock w.log w.begins (writes_of L w) in omega arith; own = refl }
  looks s low EpochWord = sound.views s low
  looks s low RecordCounter = sound.views s low
  looks s low (StateWord j n) = sound.views s low
  looks s low (KeyWord r) = either (ViewOf H s) _ _ _ (λ _. sound.views s low) (λ _. sound.views s low)
  looks s low (IndexWord q) = sound.views s low
  looks s low (HeadWord r) = sound.views s low
  looks s low (TailCounter range) = sound.views s low
  looks s low (CellWord t p) = sound.views s low
  looks s low CommitWord = sound.views s low
  looks s low (LogWord i) = sound.views s low
  looks s low (BeginWord i n) = sound.views s low
  looks s low (DirectoryWord i n) = sound.views s low
  looks s low (FrameWord i n) = sound.views s low
  looks s low (PinWord i) = sound.views s low
  looks s low (PostingWord i n) = sound.views s low

  abbrev IsClock : Event → Type 0
  IsClock (Clock s) = Unit {0}
  IsClock e = ⊥

  views_mine : (e : Event) → session_of e < L.sessions → Enabled L (K (session_of e)) e → ¬ IsClock e → ViewOf H (session_of e) (known_after L w (K (session_of e)) e)
  views_mine (Look s a) low ok other = looks s low (place_of L a)
  views_mine (Begin s b r) low ok other = let y = sound.views s low in record { prefix = y.prefix; whole = y.whole; begun = λ _. ok.2; own = y.own }
  views_mine (Take s) low ok other = either (ViewOf H s) _ _ _ (λ _. view_same s (took (K s)) low refl refl (λ e. e) (λ h. absurd (omega arith))) (λ _. sound.views s low)
  views_mine (Log s) low ok other = view_same s (known_after L w (K s) (Log s)) low refl refl (λ e. e) (λ _. omega arith)
  views_mine (State s) low ok other = view_same s (known_after L w (K s) (State s)) low refl refl (λ e. e) (λ _. omega arith)
  views_mine (Clock s) low ok other = absurd (other tt)
  views_mine (Give s) low ok other = view_same s (known_after L w (K s) (Give s)) low refl refl (λ e. e) (λ h. absurd (omega arith))
  views_mine (Close s) low ok other = view_same s (known_after L w (K s) (Close s)) low refl refl (λ e. absurd (true≢false (sym e))) (λ e. e)
  views_mine (DrawRecord s) low ok other = either (ViewOf H s) _ _ _ (λ _. sound.views s low) (λ _. sound.views s low)
  views_mine (StoreKey s k) low ok other = sound.views s low
  views_mine (Claim s q) low ok other = either (ViewOf H s) _ _ _ (λ _. sound.views s low) (λ _. sound.views s low)
  views_mine (Latch s r) low ok other = either (ViewOf H s) _ _ _ (λ _. sound.views s low) (λ _. sound.views s low)
  views_mine (DrawTail s range) low ok other = either (ViewOf H s) _ _ _ (λ _. sound.views s low) (λ _. sound.views s low)
  views_mine (StoreCell s p x) low ok other = either (ViewOf H s) _ _ _ (λ _. sound.views s low) (λ _. sound.views s low)
  views_mine (Install s) low ok other = sound.views s low
  views_mine (Release s) low ok other = sound.views s low
  views_mine (Stamp s range n) low ok other = sound.views s low
  views_mine (Post s column q) low ok other = either (ViewOf H s) _ _ _ (λ _. sound.views s low) (λ _. sound.views s low)

  clock_views : (s : ℕ) → s < L.sessions → Enabled L (K s) (Clock s) → Views L (history_of L (words_after L w (K s) (Clock s))) (put K s (known_after L w (K s) (Clock s)))
  clock_views s low ok = let v : Known = K s in let v' : Known = known_after L w v (Clock s) in let own = sound.each s low in let y = sound.views s low in
      let turn : w.turn ≡ s + 1 = own.in_turn (omega arith) in let whole : v.seen ≡ H = y.whole (omega arith) in let one : Commit = commit s v.number v.begin v.own in
      subst (λ (all : List Commit). Views L all (put K s v')) (sym (clock_next c sound s low ok))
      (each_put (λ (j : ℕ) (u : Known). j < L.sessions → ViewOf (H ++ one ∷ []) j u) K s v'
      (λ _. record {
        prefix = starts_whole (H ++ one ∷ []) (v.seen ++ one ∷ []) (ap (λ l. l ++ one ∷ []) (sym whole));
        whole = λ _. ap (λ l. l ++ one ∷ []) whole;
        begun = λ e. absurd (true≢false (sym e));
        own = ap (λ l. commits_of s (l ++ one ∷ [])) whole;
      })
      (λ j other h. let u : Known = K j in let z = sound.views j h in record {
        prefix = starts_more H u.seen (one ∷ []) z.prefix;
        whole = λ f. absurd (other (let g = (sound.each j h).in_turn (omega arith) in omega arith));
        begun = z.begun;
        own = z.own ∙ sym (commits_of-other j H one (λ e. other (sym e)));
      }))

  -- a step that leaves the history
  views_put : (e : Event) (low : session_of e < L.sessions) (ok : Enabled L (K (session_of e)) e) (stands : Stands L w (K (session_of e)) e) → ¬ IsClock e → appended c sound e ≡ [] → Views L (history_of L (words_after L w (K (session_of e)) e)) (put K (session_of e) (known_after L w (K (session_of e)) e))
  views_put e low ok stands other none = let v' : Known = known_after L w (K (session_of e)) e in
      subst (λ (all : List Commit). Views L all (put K (session_of e) v')) (sym (decodes c sound e low ok stands ∙ (ap (λ l. H ++ l) none ∙ append-nil H)))
      (each_put (λ (j : ℕ) (u : Known). j < L.sessions → ViewOf H j u) K (session_of e) v' (λ _. views_mine e low ok other) (λ j apart. sound.views j))

  pub views_keeps : (e : Event) → session_of e < L.sessions → Enabled L (K (session_of e)) e → Stands L w (K (session_of e)) e → Views L (history_of L (words_after L w (K (session_of e)) e)) (put K (session_of e) (known_after L w (K (session_of e)) e))
  views_keeps (Look s a) low ok stands = views_put (Look s a) low ok stands (λ i. i) refl
  views_keeps (Begin s b r) low ok stands = views_put (Begin s b r) low ok stands (λ i. i) refl
  views_keeps (Take s) low ok stands = views_put (Take s) low ok stands (λ i. i) refl
  views_keeps (Log s) low ok stands = views_put (Log s) low ok stands (λ i. i) refl
  views_keeps (State s) low ok stands = views_put (State s) low ok stands (λ i. i) refl
  views_keeps (Clock s) low ok stands = clock_views s low ok
  views_keeps (Give s) low ok stands = views_put (Give s) low ok stands (λ i. i) refl
  views_keeps (Close s) low ok stands = views_put (Close s) low ok stands (λ i. i) refl
  views_keeps (DrawRecord s) low ok stands = views_put (DrawRecord s) low ok stands (λ i. i) refl
  views_keeps (StoreKey s k) low ok stands = views_put (StoreKey s k) low ok stands (λ i. i) refl
  views_keeps (Claim s q) low ok stands = views_put (Claim s q) low ok stands (λ i. i) refl
  views_keeps (Latch s r) low ok stands = views_put (Latch s r) low ok stands (λ i. i) refl
  views_keeps (DrawTail s range) low ok stands = views_put (DrawTail s range) low ok stands (λ i. i) refl
  views_keeps (StoreCell s p x) low ok stands = views_put (StoreCell s p x) low ok stands (λ i. i) refl
  views_keeps (Install s) low ok stands = views_put (Install s) low ok stands (λ i. i) refl
  views_keeps (Release s) low ok stands = views_put (Release s) low ok stands (λ i. i) refl
  views_keeps (Stamp s range n) low ok stands = views_put (Stamp s range n) low ok stands (λ i. i) refl
  views_keeps (Post s column q) low ok stands = views_put (Post s column q) low ok stands (λ i. i) refl

  -- every step lets the history be, or appends to it
  pub grows : (e : Event) → session_of e < L.sessions → Enabled L (K (session_of e)) e → Stands L w (K (session_of e)) e → Extends (history_of L (words_after L w (K (session_of e)) e)) H
  grows e low ok stands = (appended c sound e, decodes c sound e low ok stands)
