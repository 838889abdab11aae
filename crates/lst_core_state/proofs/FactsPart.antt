-- What steps have found stays so.
use Rattle.std.proofs.Common.{◌≡◌, ◌≢◌, ℕ, zero, suc, ◌+◌, ◌-◌, ◌*◌, ◌/◌, ◌%◌, ◌<◌, ◌≤◌, List, [], ◌∷◌, ◌++◌, Bool, true, false, cond, eqb, nat_lt, Contains, refl, sym, subst, ap, ◌∙◌, arith, true≢false, eqb-true, eq-eqb, ◌⊎◌, ⊎_elim, inl, inr}
use Rattle.std.proofs.lemmas.List.Elements.{Contains-append_cases, Contains-append_left, Contains-append_right}
use mathlib.Core.Logic.{dite}
use native.Mathlib.Decide.{ℕ_discrete}
use Rattle.lst_layout.specs.declared.limits.Limits.{Limits}
use Rattle.lst_layout.specs.Functions.{put, put_in}
use Rattle.lst_core_state.specs.Lists.{Has}
use Rattle.lst_core_state.specs.declared.known.Known.{Known}
use Rattle.lst_core_state.specs.declared.facts.Fact.{Fact}
use Rattle.lst_core_state.specs.declared.facts.Fact.TheVariants.{IndexAt, StateAt, CellIs, ChainEnds, CommitAt, RecordsAtLeast, TailsAtLeast, EpochAtLeast, PostAt}
use Rattle.lst_core_state.specs.declared.events.Event.{Event}
use Rattle.lst_core_state.specs.declared.events.Event.TheVariants.{Look, Begin, Take, Log, State, Clock, Give, Close, DrawRecord, StoreKey, Claim, Latch, DrawTail, StoreCell, Install, Release, Stamp, Post}
use Rattle.lst_layout.specs.declared.place.Place.{Place}
use Rattle.lst_layout.specs.declared.place.Place.TheVariants.{ClockWord, CommitWord, EpochWord, RecordCounter, LogWord, BeginWord, StateWord, KeyWord, IndexWord, HeadWord, TailCounter, CellWord, DirectoryWord, FrameWord, PinWord, PostingWord}
use Rattle.lst_core_state.specs.Cells.{record_count}
use Rattle.lst_core_state.specs.Index.{size}
use Rattle.lst_core_state.specs.State.{Words, Core, line, name_of}
use Rattle.lst_core_state.specs.Facts.{IsFact, index_fact, index_below, index_facts, state_fact, cell_fact, stored_fact, commit_fact, cell_facts, chain_facts, chains_below, range_facts, post_fact}
use Rattle.lst_core_state.specs.Step.{session_of, IsWithin, Enabled, Stands, words_after, known_after, look_at, is_reading, gives_up, given_up, took, held_off, record_drawn, records_full, claimed, claim_lost, latched, latch_lost, tail_drawn, tails_full, cell_started, word_stored, posted, post_lost}
use Rattle.lst_core_state.specs.Sound.{FactsOf, Sound}
use Rattle.lst_core_state.proofs.Functions.{either, each_put, put_here, put_else, put_in_else}
use Rattle.lst_core_state.proofs.Positions.{placed_holds}
use Rattle.lst_layout.specs.Addresses.{place_of}
use Rattle.lst_layout.specs.Addresses as layout
use Rattle.lst_layout.specs.Areas.{words_of}
use Rattle.lst_layout.proofs.Places.{at}
use Rattle.lst_core_state.proofs.Steps.{values_same}
use Rattle.lst_core_state.proofs.CellsKept.{put_in_here}
use Rattle.lst_core_state.proofs.FitPart.{keys_kept}
use Rattle.lst_core_state.proofs.ListedPart.{contains_one}
use Rattle.lst_core_state.proofs.PostingsKept.{exchanged_stays, exchanged_here}
use Rattle.lst_core_state.proofs.Steady.{steady, chains_grow}

-- the words that only ever change in one way
pub record Later (w w' : Words) : Type 0 where
  pub index : (q : ℕ) → 0 < w.index q → w'.index q ≡ w.index q
  pub states : (s n : ℕ) → (w'.states s n ≡ w.states s n) ⊎ (w.states s n ≡ 0)
  pub counter : w.counter ≤ w'.counter
  pub counts : (q : ℕ) → w.counts q ≤ w'.counts q
  pub epoch : w.epoch ≤ w'.epoch
  pub clock : w.clock ≤ w'.clock
  pub log : (t : ℕ) → 0 < t → t ≤ w.clock → w'.log t ≡ w.log t
  pub postings : (column q : ℕ) → 0 < w.postings column q → w'.postings column q ≡ w.postings column q

no_facts : (l : Limits) (w : Words) → FactsOf l w []
no_facts l w f h = let low = h.1 in absurd (omega arith)

one_fact : (l : Limits) (w : Words) (g : Fact) → IsFact l w g → FactsOf l w (g ∷ [])
one_fact l w g is f h = subst (IsFact l w) (contains_one g f h) is

pub more_facts : (l : Limits) (w : Words) (fs gs : List Fact) → FactsOf l w fs → FactsOf l w gs → FactsOf l w (fs ++ gs)
more_facts l w fs gs a b f h = ⊎_elim (λ (i : Contains fs f). a f i) (λ (i : Contains gs f). b f i) (Contains-append_cases fs gs f h)

cons_facts : (l : Limits) (w : Words) (g : Fact) (gs : List Fact) → IsFact l w g → FactsOf l w gs → FactsOf l w (g ∷ gs)
cons_facts l w g gs a b = more_facts l w (g ∷ []) gs (one_fact l w g a) b

pub index_is_fact : (l : Limits) (w : Words) (q : ℕ) → FactsOf l w (index_fact w q)
index_is_fact l w q = either (FactsOf l w) (eqb (w.index q) 0) [] (IndexAt q (w.index q - 1) (w.keys (w.index q - 1)) ∷ []) (λ _. no_facts l w)
    (λ e. one_fact l w (IndexAt q (w.index q - 1) (w.keys (w.index q - 1))) (let some : w.index q ≢ 0 = (λ z. true≢false (sym (eq-eqb (w.index q) 0 z) ∙ e)) in omega arith, refl))

pub state_facts : (l : Limits) (w : Words) (s n : ℕ) → FactsOf l w (state_fact w s n)
state_facts l w s n = either (FactsOf l w) (eqb (w.states s n) 0) [] (StateAt s n (w.states s n) ∷ []) (λ _. no_facts l w)
    (λ e. one_fact l w (StateAt s n (w.states s n)) (let some : w.states s n ≢ 0 = (λ z. true≢false (sym (eq-eqb (w.states s n) 0 z) ∙ e)) in omega arith, refl))

pub cell_is_fact : (l : Limits) (w : Words) (t : ℕ) → 0 < w.cells t 0 → IsFact l w (cell_fact l w t)
cell_is_fact l w t some = (some, refl, refl, refl, refl)

pub stored_facts : (l : Limits) (w : Words) (t : ℕ) → FactsOf l w (stored_fact l w t)
stored_facts l w t = either (FactsOf l w) (eqb (w.cells t 0) 0) [] (cell_fact l w t ∷ []) (λ _. no_facts l w)
    (λ e. one_fact l w (cell_fact l w t) (cell_is_fact l w t (let some : w.cells t 0 ≢ 0 = (λ z. true≢false (sym (eq-eqb (w.cells t 0) 0 z) ∙ e)) in omega arith)))

-- the whole index
pub index_are_facts : (l : Limits) (w : Words) (n : ℕ) → FactsOf l w (index_below n w)
index_are_facts l w zero = no_facts l w
index_are_facts l w (suc n) = more_facts l w (index_below n w) (index_fact w n) (index_are_facts l w n) (index_is_fact l w n)

has_at : (keys : ℕ → ℕ) (q x r : ℕ) → x ≡ r + 1 → Contains (cond (eqb x 0) [] (IndexAt q (x - 1) (keys (x - 1)) ∷ [])) (IndexAt q r (keys r))
has_at keys q x r e = subst (λ (y : ℕ). Contains (cond (eqb x 0) [] (IndexAt q y (keys y) ∷ [])) (IndexAt q r (keys r))) (let f : r ≡ x - 1 = omega arith in f)
    (either (λ (fs : List Fact). Contains fs (IndexAt q r (keys r))) (eqb x 0) [] (IndexAt q r (keys r) ∷ []) (λ z. let a = eqb-true x 0 z in absurd (omega arith)) (λ _. (0, omega arith, refl)))

-- it has each record that some position holds
pub index_has : (w : Words) (n q r : ℕ) → q < n → w.index q ≡ r + 1 → Contains (index_below n w) (IndexAt q r (w.keys r))
index_has w zero q r low e = absurd (omega arith)
index_has w (suc n) q r low e = dite (ℕ_discrete q n)
    (λ f. Contains-append_right (index_below n w) (index_fact w n) (IndexAt q r (w.keys r)) (subst (λ (i : ℕ). Contains (index_fact w i) (IndexAt q r (w.keys r))) f (has_at w.keys q (w.index q) r e)))
    (λ ne. Contains-append_left (index_below n w) (index_fact w n) (IndexAt q r (w.keys r)) (index_has w n q r (omega arith) e))

pub post_facts : (l : Limits) (w : Words) (i q : ℕ) → FactsOf l w (post_fact w i q)
post_facts l w i q = either (FactsOf l w) (eqb (w.postings i q) 0) [] (PostAt i q (w.postings i q) ∷ []) (λ _. no_facts l w)
    (λ e. one_fact l w (PostAt i q (w.postings i q)) (let some : w.postings i q ≢ 0 = (λ z. true≢false (sym (eq-eqb (w.postings i q) 0 z) ∙ e)) in omega arith, refl))

-- they have those of each record of the range
chains_have : (l : Limits) (w : Words) (range n i : ℕ) (f : Fact) → i < n → Contains (chain_facts l w (256 * range + i)) f → Contains (chains_below n l w range) f
chains_have l w range zero i f low h = absurd (omega arith)
chains_have l w range (suc n) i f low h = dite (ℕ_discrete i n)
    (λ e. Contains-append_right (chains_below n l w range) (chain_facts l w (256 * range + n)) f (subst (λ (j : ℕ). Contains (chain_facts l w (256 * range + j)) f) e h))
    (λ ne. Contains-append_left (chains_below n l w range) (chain_facts l w (256 * range + n)) f (chains_have l w range n i f (omega arith) h))

pub range_has : (l : Limits) (w : Words) (range i : ℕ) (f : Fact) → i < 256 → Contains (chain_facts l w (256 * range + i)) f → Contains (range_facts l w range) f
unfolding range_facts
range_has l w range i f low h = chains_have l w range 256 i f low h

module _ (c : Core) (sound : Sound c) where
  abbrev L : Limits
  L = c.limits

  abbrev w : Words
  w = c.words

  abbrev K : ℕ → Known
  K = c.known

  -- the commit that a stamped start word tells
  pub commit_facts : (t : ℕ) → FactsOf L w (commit_fact w.log (w.cells t 0))
  commit_facts t = let x : ℕ = w.cells t 0 in let u : ℕ = x / 2 in let f : Fact = CommitAt u (w.log u % 16) (w.log u / 16) in
      either (FactsOf L w) (eqb x 0) [] (cond (eqb (x % 2) 0) (f ∷ []) []) (λ _. no_facts L w)
      (λ e. either (FactsOf L w) (eqb (x % 2) 0) (f ∷ []) []
      (λ even. let some : x ≢ 0 = (λ z. true≢false (sym (eq-eqb x 0 z) ∙ e)) in let stamp = (sound.versions.stored t (omega arith)).stamped (eqb-true (x % 2) 0 even) in
      one_fact L w f (stamp.0, stamp.1, (sound.times.named u stamp.0 stamp.1).session, omega arith))
      (λ _. no_facts L w))

  -- all of a chain
  cells_are_facts : (r : ℕ) → r < record_count L → (ys : List ℕ) → ((t : ℕ) → Has t ys → Has t (line L w r)) → FactsOf L w (cell_facts L w ys)
  cells_are_facts r low [] has = no_facts L w
  cells_are_facts r low (t ∷ ts) has = cons_facts L w (cell_fact L w t) (cell_facts L w ts) (cell_is_fact L w t ((sound.versions.lines r low).stored t (has t (inl refl)))) (cells_are_facts r low ts (λ x i. has x (inr i)))

  pub chain_are_facts : (r : ℕ) → r < record_count L → FactsOf L w (chain_facts L w r)
  chain_are_facts r low = cons_facts L w (ChainEnds r (line L w r)) (cell_facts L w (line L w r)) (low, ([], refl)) (cells_are_facts r low (line L w r) (λ t i. i))

  -- all of the chains of a range
  chains_are_facts : (range n : ℕ) → range < L.ranges → n ≤ 256 → FactsOf L w (chains_below n L w range)
  chains_are_facts range zero low few = no_facts L w
  chains_are_facts range (suc n) low few = more_facts L w (chains_below n L w range) (chain_facts L w (256 * range + n)) (chains_are_facts range n low (omega arith)) (chain_are_facts (256 * range + n) (omega arith))

  pub range_are_facts : (range : ℕ) → range < L.ranges → FactsOf L w (range_facts L w range)
  unfolding range_facts
  range_are_facts range low = chains_are_facts range 256 low (omega arith)

  ends : (s x j n : ℕ) → w.states s (K s).number ≡ 0 → (put_in w.states s (K s).number x j n ≡ w.states j n) ⊎ (w.states j n ≡ 0)
  ends s x j n none = dite (ℕ_discrete j s)
      (λ e. dite (ℕ_discrete n (K s).number) (λ f. inr ((λ i. w.states (e i) (f i)) ∙ none)) (λ f. inl (put_in_else w.states s (K s).number x j n (λ _. f))))
      (λ e. inl (put_in_else w.states s (K s).number x j n (λ q. absurd (e q))))

  pub later : (e : Event) → session_of e < L.sessions → Enabled L (K (session_of e)) e → Later w (words_after L w (K (session_of e)) e)
  later (Look s a) low ok = record { index = λ _ _. refl; states = λ _ _. inl refl; counter = omega arith; counts = λ _. omega arith; epoch = omega arith; clock = omega arith; log = λ _ _ _. refl; postings = λ _ _ _. refl }
  later (Begin s b r) low ok = record { index = λ _ _. refl; states = λ _ _. inl refl; counter = omega arith; counts = λ _. omega arith; epoch = omega arith; clock = omega arith; log = λ _ _ _. refl; postings = λ _ _ _. refl }
  later (Take s) low ok = record { index = λ _ _. refl; states = λ _ _. inl refl; counter = omega arith; counts = λ _. omega arith; epoch = omega arith; clock = omega arith; log = λ _ _ _. refl; postings = λ _ _ _. refl }
  later (Log s) low ok = record { index = λ _ _. refl; states = λ _ _. inl refl; counter = omega arith; counts = λ _. omega arith; epoch = omega arith; clock = omega arith; log = λ t p q. put_else w.log (w.clock + 1) (name_of s (K s).number) t (λ e. omega arith); postings = λ _ _ _. refl }
  later (State s) low ok = record { index = λ _ _. refl; states = λ j n. ends s (w.clock + 2) j n ((sound.each s low).open_state ((sound.each s low).turn_open (omega arith) (omega arith)) (λ e. omega arith)); counter = omega arith; counts = λ _. omega arith; epoch = omega arith; clock = omega arith; log = λ _ _ _. refl; postings = λ _ _ _. refl }
  later (Clock s) low ok = record { index = λ _ _. refl; states = λ _ _. inl refl; counter = omega arith; counts = λ _. omega arith; epoch = omega arith; clock = omega arith; log = λ _ _ _. refl; postings = λ _ _ _. refl }
  later (Give s) low ok = record { index = λ _ _. refl; states = λ _ _. inl refl; counter = omega arith; counts = λ _. omega arith; epoch = omega arith; clock = omega arith; log = λ _ _ _. refl; postings = λ _ _ _. refl }
  later (Close s) low ok = record { index = λ _ _. refl; states = λ j n. ends s 1 j n ((sound.each s low).open_state ok.0 (λ e. let z = ok.1 in omega arith)); counter = omega arith; counts = λ _. omega arith; epoch = omega arith; clock = omega arith; log = λ _ _ _. refl; postings = λ _ _ _. refl }
  later (DrawRecord s) low ok = record { index = λ _ _. refl; states = λ _ _. inl refl; counter = omega arith; counts = λ _. omega arith; epoch = omega arith; clock = omega arith; log = λ _ _ _. refl; postings = λ _ _ _. refl }
  later (StoreKey s k) low ok = record { index = λ _ _. refl; states = λ _ _. inl refl; counter = omega arith; counts = λ _. omega arith; epoch = omega arith; clock = omega arith; log = λ _ _ _. refl; postings = λ _ _ _. refl }
  later (Claim s q) low ok = record {
    index = λ p some. dite (ℕ_discrete p q)
        (λ e. let x : ℕ = cond (eqb (w.index q) 0) (K s).placing.hand (w.index q) in ap (put w.index q x) e ∙ (put_here w.index q x ∙ (either (λ (y : ℕ). y ≡ w.index q) (eqb (w.index q) 0) (K s).placing.hand (w.index q)
        (λ f. let z = eqb-true (w.index q) 0 f in let same : w.index p ≡ w.index q = ap w.index e in absurd (omega arith)) (λ _. refl) ∙ sym (ap w.index e))))
        (λ ne. put_else w.index q (cond (eqb (w.index q) 0) (K s).placing.hand (w.index q)) p ne);
    states = λ _ _. inl refl;
    counter = omega arith;
    counts = λ _. omega arith;
    epoch = omega arith;
    clock = omega arith;
    log = λ _ _ _. refl;
    postings = λ _ _ _. refl;
  }
  later (Latch s r) low ok = record { index = λ _ _. refl; states = λ _ _. inl refl; counter = omega arith; counts = λ _. omega arith; epoch = omega arith; clock = omega arith; log = λ _ _ _. refl; postings = λ _ _ _. refl }
  later (DrawTail s range) low ok = record { index = λ _ _. refl; states = λ _ _. inl refl; counter = omega arith; counts = each_put (λ (j x : ℕ). w.counts j ≤ x) w.counts range (w.counts range + 1) (omega arith) (λ j other. omega arith); epoch = omega arith; clock = omega arith; log = λ _ _ _. refl; postings = λ _ _ _. refl }
  later (StoreCell s p x) low ok = record { index = λ _ _. refl; states = λ _ _. inl refl; counter = omega arith; counts = λ _. omega arith; epoch = omega arith; clock = omega arith; log = λ _ _ _. refl; postings = λ _ _ _. refl }
  later (Install s) low ok = record { index = λ _ _. refl; states = λ _ _. inl refl; counter = omega arith; counts = λ _. omega arith; epoch = omega arith; clock = omega arith; log = λ _ _ _. refl; postings = λ _ _ _. refl }
  later (Release s) low ok = record { index = λ _ _. refl; states = λ _ _. inl refl; counter = omega arith; counts = λ _. omega arith; epoch = omega arith; clock = omega arith; log = λ _ _ _. refl; postings = λ _ _ _. refl }
  later (Stamp s range n) low ok = record { index = λ _ _. refl; states = λ _ _. inl refl; counter = omega arith; counts = λ _. omega arith; epoch = omega arith; clock = omega arith; log = λ _ _ _. refl; postings = λ _ _ _. refl }
  later (Post s column q) low ok = record { index = λ _ _. refl; states = λ _ _. inl refl; counter = omega arith; counts = λ _. omega arith; epoch = omega arith; clock = omega arith; log = λ _ _ _. refl; postings = λ other p some. exchanged_stays w.postings column q (K s).hold.tail other p some }

  -- an enabled step leaves each fact
  pub fact_stays : (e : Event) → session_of e < L.sessions → Enabled L (K (session_of e)) e → Stands L w (K (session_of e)) e → (f : Fact) → IsFact L w f → IsFact L (words_after L w (K (session_of e)) e) f
  fact_stays e low ok stands (IndexAt q r k) h = let at : w.index q ≡ r + 1 = h.0 in let some : 0 < w.index q = omega arith in
      ((later e low ok).index q some ∙ h.0, keys_kept c sound e low ok r (placed_holds L w.index r q (sound.index.filled q some).position h.0) ∙ h.1)
  fact_stays e low ok stands (StateAt s n x) h = (h.0, ⊎_elim (λ (same : (words_after L w (K (session_of e)) e).states s n ≡ w.states s n). same ∙ h.1) (λ (z : w.states s n ≡ 0). let a = h.0 in let b = h.1 in absurd (omega arith)) ((later e low ok).states s n))
  fact_stays e low ok stands (CellIs t x en b vs) h = let q = steady c sound e low ok stands t h.0 in let w' : Words = words_after L w (K (session_of e)) e in
      (q.stays, q.by ∙ h.1, q.words 1 (omega arith) ∙ h.2, q.words 2 (omega arith) ∙ h.3, values_same L w.cells w'.cells t q.words ∙ h.4)
  fact_stays e low ok stands (ChainEnds r ts) h = let w' : Words = words_after L w (K (session_of e)) e in (
    h.0,
    ⊎_elim
        (λ (same : line L w' r ≡ line L w r). (h.1.0, same ∙ h.1.1))
        (λ (q : (x : ℕ) × (line L w' r ≡ x ∷ line L w r)). (q.0 ∷ h.1.0, q.1 ∙ ap (λ (zs : List ℕ). q.0 ∷ zs) h.1.1)) (chains_grow c sound e low ok stands r h.0),
  )
  fact_stays e low ok stands (CommitAt t s n) h = let a = h.1 in let b = (later e low ok).clock in (h.0, omega arith, h.2, (later e low ok).log t h.0 h.1 ∙ h.3)
  fact_stays e low ok stands (RecordsAtLeast n) h = let a : n ≤ w.counter = h in let b = (later e low ok).counter in omega arith
  fact_stays e low ok stands (TailsAtLeast range n) h = let a : n ≤ w.counts range = h in let b = (later e low ok).counts range in omega arith
  fact_stays e low ok stands (EpochAtLeast n) h = let a : n ≤ w.epoch = h in let b = (later e low ok).epoch in omega arith
  fact_stays e low ok stands (PostAt column q t) h = (h.0, (later e low ok).postings column q (let a = h.0 in let b = h.1 in omega arith) ∙ h.1)

  pub facts_stay : (e : Event) → session_of e < L.sessions → Enabled L (K (session_of e)) e → Stands L w (K (session_of e)) e → (fs : List Fact) → FactsOf L w fs → FactsOf L (words_after L w (K (session_of e)) e) fs
  facts_stay e low ok stands fs a f i = fact_stays e low ok stands f (a f i)

  -- what a load finds is so
  pub look_facts : (v : Known) → FactsOf L w v.facts → (p : Place) → layout.IsWithin L p → FactsOf L w (look_at L w v p).facts
  look_facts v old ClockWord low = more_facts L w v.facts (index_facts L w) old (index_are_facts L w (size L))
  look_facts v old EpochWord low = more_facts L w v.facts (EpochAtLeast w.epoch ∷ []) old (one_fact L w (EpochAtLeast w.epoch) (omega arith))
  look_facts v old RecordCounter low = more_facts L w v.facts (RecordsAtLeast w.counter ∷ []) old (one_fact L w (RecordsAtLeast w.counter) (omega arith))
  look_facts v old (StateWord s n) low = more_facts L w v.facts (state_fact w s n) old (state_facts L w s n)
  look_facts v old (KeyWord r) low = either (λ (u : Known). FactsOf L w u.facts) (gives_up v r (w.keys r)) (given_up v) v (λ _. old) (λ _. old)
  look_facts v old (IndexWord q) low = more_facts L w v.facts (index_fact w q) old (index_is_fact L w q)
  look_facts v old (HeadWord r) low = more_facts L w v.facts (chain_facts L w r) old (chain_are_facts r low)
  look_facts v old (TailCounter range) low = more_facts L w v.facts (TailsAtLeast range (w.counts range) ∷ cond (is_reading v) (range_facts L w range) []) old
      (cons_facts L w (TailsAtLeast range (w.counts range)) (cond (is_reading v) (range_facts L w range) []) (omega arith) (either (FactsOf L w) (is_reading v) (range_facts L w range) [] (λ _. range_are_facts range low) (λ _. no_facts L w)))
  look_facts v old (CellWord t p) low = more_facts L w v.facts (stored_fact L w t ++ commit_fact w.log (w.cells t 0)) old (more_facts L w (stored_fact L w t) (commit_fact w.log (w.cells t 0)) (stored_facts L w t) (commit_facts t))
  look_facts v old CommitWord low = old
  look_facts v old (LogWord i) low = old
  look_facts v old (BeginWord i n) low = old
  look_facts v old (DirectoryWord i n) low = old
  look_facts v old (FrameWord i n) low = old
  look_facts v old (PinWord i) low = old
  look_facts v old (PostingWord i n) low = more_facts L w v.facts (post_fact w i n) old (post_facts L w i n)

  pub looks_facts : (a : ℕ) → a < words_of L → (v : Known) → FactsOf L w v.facts → FactsOf L w (look_at L w v (place_of L a)).facts
  looks_facts a inside v old = look_facts v old (place_of L a) (at L a sound.sized inside).within

  new_facts : (e : Event) → session_of e < L.sessions → IsWithin L e → Enabled L (K (session_of e)) e → Stands L w (K (session_of e)) e → let w' : Words = words_after L w (K (session_of e)) e in FactsOf L w' (K (session_of e)).facts → FactsOf L w' (known_after L w (K (session_of e)) e).facts
  new_facts (Look s a) low within ok stands old = looks_facts a within.1 (K s) old
  new_facts (Begin s b r) low within ok stands old = old
  new_facts (Take s) low within ok stands old = either (λ (u : Known). FactsOf L (words_after L w (K s) (Take s)) u.facts) (eqb w.turn 0) (took (K s)) (held_off (K s)) (λ _. old) (λ _. old)
  new_facts (Log s) low within ok stands old = old
  new_facts (State s) low within ok stands old = old
  new_facts (Clock s) low within ok stands old = old
  new_facts (Give s) low within ok stands old = old
  new_facts (Close s) low within ok stands old = old
  new_facts (DrawRecord s) low within ok stands old = let w' : Words = words_after L w (K s) (DrawRecord s) in let now = more_facts L w' (K s).facts (RecordsAtLeast (w.counter + 1) ∷ []) old (one_fact L w' (RecordsAtLeast (w.counter + 1)) (omega arith)) in
      either (λ (u : Known). FactsOf L w' u.facts) (nat_lt w.counter (record_count L)) (record_drawn w (K s)) (records_full w (K s)) (λ _. now) (λ _. now)
  new_facts (StoreKey s k) low within ok stands old = old
  new_facts (Claim s q) low within ok stands old = choose (eqb (w.index q) 0) refl old
    where
      choose : (b : Bool) → eqb (w.index q) 0 ≡ b → FactsOf L (words_after L w (K s) (Claim s q)) (K s).facts → FactsOf L (words_after L w (K s) (Claim s q)) (cond (eqb (w.index q) 0) (claimed (K s) q) (claim_lost w (K s) q)).facts
      choose true e old = let w' : Words = words_after L w (K s) (Claim s q) in let k = (sound.index.hands s low).keyed ok in let some = k.0 in
          subst (λ (t : Bool). FactsOf L w' (cond t (claimed (K s) q) (claim_lost w (K s) q)).facts) (sym e)
          (more_facts L w' (K s).facts (IndexAt q ((K s).placing.hand - 1) (K s).placing.key ∷ []) old (one_fact L w' (IndexAt q ((K s).placing.hand - 1) (K s).placing.key)
          (put_here w.index q (cond (eqb (w.index q) 0) (K s).placing.hand (w.index q)) ∙ (ap (λ (t : Bool). cond t (K s).placing.hand (w.index q)) e ∙ (omega arith)), k.1)))
      choose false e old = let w' : Words = words_after L w (K s) (Claim s q) in subst (λ (t : Bool). FactsOf L w' (cond t (claimed (K s) q) (claim_lost w (K s) q)).facts) (sym e)
          (more_facts L w' (K s).facts (index_fact w q) old (facts_stay (Claim s q) low ok stands (index_fact w q) (index_is_fact L w q)))
  new_facts (Latch s r) low within ok stands old = let w' : Words = words_after L w (K s) (Latch s r) in let chain = facts_stay (Latch s r) low ok stands (chain_facts L w r) (chain_are_facts r within.1) in
      let all = more_facts L w' (index_facts L w) (chain_facts L w r) (facts_stay (Latch s r) low ok stands (index_facts L w) (index_are_facts L w (size L))) chain in
      either (λ (u : Known). FactsOf L w' u.facts) (eqb (w.heads r % 2) 0) (latched L w (K s) r) (latch_lost L w (K s) r)
      (λ _. more_facts L w' (K s).facts (index_facts L w ++ chain_facts L w r) old all) (λ _. more_facts L w' (K s).facts (chain_facts L w r) old chain)
  new_facts (DrawTail s range) low within ok stands old = let w' : Words = words_after L w (K s) (DrawTail s range) in let here : w'.counts range ≡ w.counts range + 1 = put_here w.counts range (w.counts range + 1) in
      let now = more_facts L w' (K s).facts (TailsAtLeast range (w.counts range + 1) ∷ []) old (one_fact L w' (TailsAtLeast range (w.counts range + 1)) (omega arith)) in
      either (λ (u : Known). FactsOf L w' u.facts) (nat_lt (w.counts range) L.tails) (tail_drawn L w (K s) range) (tails_full w (K s) range) (λ _. now) (λ _. now)
  new_facts (StoreCell s p x) low within ok stands old = let w' : Words = words_after L w (K s) (StoreCell s p x) in
      either (λ (u : Known). FactsOf L w' u.facts) (eqb p 0) (cell_started L w (K s) p x) (word_stored (K s) p x)
      (λ e. let first : p ≡ 0 = eqb-true p 0 e in let named = (ok.2 first).1 in let T : ℕ = (K s).hold.tail in let start : w'.cells T 0 ≡ x = ap (λ (q : ℕ). put_in w.cells T q x T 0) first ∙ put_in_here w.cells T 0 x in
      more_facts L w' (K s).facts (cell_fact L w' T ∷ []) old (one_fact L w' (cell_fact L w' T) (cell_is_fact L w' T (omega arith))))
      (λ _. old)
  new_facts (Install s) low within ok stands old = old
  new_facts (Release s) low within ok stands old = old
  new_facts (Stamp s range n) low within ok stands old = old
  new_facts (Post s column q) low within ok stands old = let w' : Words = words_after L w (K s) (Post s column q) in let held = (sound.versions.hands s low).some ok.0 in
      either (λ (u : Known). FactsOf L w' u.facts) (eqb (w.postings column q) 0) (posted (K s) column q) (post_lost w (K s) column q)
      (λ e. more_facts L w' (K s).facts (PostAt column q (K s).hold.tail ∷ []) old (one_fact L w' (PostAt column q (K s).hold.tail) (held, exchanged_here w.postings column q (K s).hold.tail (eqb-true (w.postings column q) 0 e))))
      (λ _. more_facts L w' (K s).facts (post_fact w column q) old (facts_stay (Post s column q) low ok stands (post_fact w column q) (post_facts L w column q)))

  pub facts_keep : (e : Event) → session_of e < L.sessions → IsWithin L e → Enabled L (K (session_of e)) e → Stands L w (K (session_of e)) e → (j : ℕ) → j < L.sessions → FactsOf L (words_after L w (K (session_of e)) e) (put K (session_of e) (known_after L w (K (session_of e)) e) j).facts
  facts_keep e low within ok stands = each_put (λ (j : ℕ) (u : Known). j < L.sessions → FactsOf L (words_after L w (K (session_of e)) e) u.facts) K (session_of e) (known_after L w (K (session_of e)) e)
      (λ h. new_facts e low within ok stands (facts_stay e low ok stands (K (session_of e)).facts (sound.facts (session_of e) low)))
      (λ j other h. facts_stay e low ok stands (K j).facts (sound.facts j h))
