-- Each step keeps that the facts have the records of the keys that were seen, are own, or are latched.
use Rattle.std.proofs.Common.{cond, ◌≡◌, ◌≢◌, ℕ, ◌+◌, ◌-◌, ◌%◌, ◌<◌, List, [], ◌∷◌, ◌++◌, true, eqb, nat_lt, Contains, refl, sym, subst, ◌∙◌, arith, append-nil, ◌⊎◌, ⊎_elim, inl, inr}
use Rattle.std.proofs.lemmas.List.Elements.{Contains-append_left, Contains-append_right}
use mathlib.Core.Logic.{dite}
use native.Mathlib.Decide.{ℕ_discrete}
use Rattle.lst_layout.specs.declared.limits.Limits.{Limits}
use Rattle.lst_layout.specs.Functions.{put}
use Rattle.lst_model.specs.declared.acts.Write.{Write}
use Rattle.lst_model.specs.declared.commits.Commit.{Commit}
use Rattle.lst_model.specs.Histories.{acts_on, all_acts_on, joined}
use Rattle.lst_core_state.specs.Writes.{write, commit}
use Rattle.lst_core_state.proofs.Writes.{all_acts_on-append, line_joined-else}
use Rattle.lst_core_state.specs.declared.known.Known.{Known}
use Rattle.lst_core_state.specs.declared.facts.Fact.{Fact}
use Rattle.lst_core_state.specs.declared.facts.Fact.TheVariants.{IndexAt, RecordsAtLeast, TailsAtLeast, EpochAtLeast, PostAt}
use Rattle.lst_core_state.specs.declared.events.Event.{Event}
use Rattle.lst_core_state.specs.declared.events.Event.TheVariants.{Look, Begin, Take, Log, State, Clock, Give, Close, DrawRecord, StoreKey, Claim, Latch, DrawTail, StoreCell, Install, Release, Stamp, Post}
use Rattle.lst_layout.specs.declared.place.Place.{Place}
use Rattle.lst_layout.specs.declared.place.Place.TheVariants.{ClockWord, CommitWord, EpochWord, RecordCounter, LogWord, BeginWord, StateWord, KeyWord, IndexWord, HeadWord, TailCounter, CellWord, DirectoryWord, FrameWord, PinWord, PostingWord}
use Rattle.lst_layout.specs.Addresses.{place_of}
use Rattle.lst_core_state.specs.Cells.{record_count}
use Rattle.lst_core_state.specs.Index.{is_placed, size}
use Rattle.lst_core_state.specs.State.{Words, Core, history_of, act_in}
use Rattle.lst_core_state.specs.Facts.{index_fact, index_facts, state_fact, cell_fact, stored_fact, commit_fact, chain_facts, range_facts, post_fact}
use Rattle.lst_core_state.specs.Step.{session_of, Enabled, Stands, words_after, known_after, look_at, is_reading, gives_up, given_up, took, held_off, record_drawn, records_full, claimed, claim_lost, latched, latch_lost, tail_drawn, tails_full, cell_started, word_stored, posted, post_lost}
use Rattle.lst_core_state.specs.Sound.{IsRecorded, SeenIsRecorded, Recorded, RecordedOf, Sound}
use Rattle.lst_core_state.proofs.Functions.{either, each_put}
use Rattle.lst_core_state.proofs.Positions.{placed_says}
use Rattle.lst_core_state.proofs.Decoded.{find_key}
use Rattle.lst_core_state.proofs.Sightings.{absent_line}
use Rattle.lst_core_state.proofs.FitPart.{keys_kept}
use Rattle.lst_core_state.proofs.FactsPart.{index_has}

-- the second list has what the first one has
abbrev pub Grows : List Fact → List Fact → Type 0
Grows fs gs = (f : Fact) → Contains fs f → Contains gs f

pub grows_by : (fs gs : List Fact) → Grows fs (fs ++ gs)
grows_by fs gs f i = Contains-append_left fs gs f i

recorded_on : (fs gs : List Fact) → Grows fs gs → (k : ℕ) → IsRecorded fs k → IsRecorded gs k
recorded_on fs gs more k h = (h.0, h.1, more (IndexAt h.0 h.1 k) h.2)

pub seen_on : (fs gs : List Fact) → Grows fs gs → (seen : List Commit) → SeenIsRecorded fs seen → SeenIsRecorded gs seen
seen_on fs gs more seen h k = ⊎_elim (λ (z : all_acts_on k seen ≡ []). inl z) (λ (q : IsRecorded fs k). inr (recorded_on fs gs more k q)) (h k)

abbrev OwnIsRecorded : List Fact → List Write → Type 0
OwnIsRecorded fs own = (k : ℕ) → (acts_on k own ≡ []) ⊎ IsRecorded fs k

own_on : (fs gs : List Fact) → Grows fs gs → (own : List Write) → OwnIsRecorded fs own → OwnIsRecorded gs own
own_on fs gs more own h k = ⊎_elim (λ (z : acts_on k own ≡ []). inl z) (λ (q : IsRecorded fs k). inr (recorded_on fs gs more k q)) (h k)

own_none : (fs : List Fact) → OwnIsRecorded fs []
own_none fs k = inl refl

latch_on : (fs gs : List Fact) → Grows fs gs → (latch key key' : ℕ) → (0 < latch → key' ≡ key) → (0 < latch → (q : ℕ) × Contains fs (IndexAt q (latch - 1) key)) → 0 < latch → (q : ℕ) × Contains gs (IndexAt q (latch - 1) key')
latch_on fs gs more latch key key' same h some = let a = h some in (a.0, subst (λ (k : ℕ). Contains gs (IndexAt a.0 (latch - 1) k)) (sym (same some)) (more (IndexAt a.0 (latch - 1) key) a.1))

-- a commit of own writes
seen_next : (fs : List Fact) (seen : List Commit) (c : Commit) → SeenIsRecorded fs seen → OwnIsRecorded fs c.writes → SeenIsRecorded fs (seen ++ c ∷ [])
seen_next fs seen c a b k = ⊎_elim
    (λ (z : all_acts_on k seen ≡ []). ⊎_elim (λ (y : acts_on k c.writes ≡ []). inl (all_acts_on-append k seen (c ∷ []) ∙ ((λ i. z i ++ (append-nil (acts_on k c.writes) ∙ y) i)))) (λ (q : IsRecorded fs k). inr q) (b k))
    (λ (q : IsRecorded fs k). inr q) (a k)

-- one more own write
own_next : (fs : List Fact) (own : List Write) (x : Write) → OwnIsRecorded fs own → IsRecorded fs x.key → OwnIsRecorded fs (joined own x)
own_next fs own x a b k = dite (ℕ_discrete x.key k)
    (λ e. inr (subst (IsRecorded fs) e b))
    (λ ne. ⊎_elim (λ (z : acts_on k own ≡ []). inl (line_joined-else k own x ne ∙ z)) (λ (q : IsRecorded fs k). inr q) (a k))

module _ (c : Core) (sound : Sound c) where
  abbrev L : Limits
  L = c.limits

  abbrev w : Words
  w = c.words

  abbrev K : ℕ → Known
  K = c.known

  -- the index has a record that was placed
  placed_fact : (r : ℕ) → is_placed L w.index r ≡ true → (q : ℕ) × Contains (index_facts L w) (IndexAt q r (w.keys r))
  placed_fact r is = let a = placed_says L w.index r is in (a.0, index_has w (size L) a.0 r a.1 a.2)

  -- the whole history is recorded by the whole index
  pub history_recorded : SeenIsRecorded (index_facts L w) (history_of L w)
  history_recorded k = ⊎_elim
      (λ (q : (r : ℕ) × (r < record_count L) × (is_placed L w.index r ≡ true) × (w.keys r ≡ k)). let a = placed_fact q.0 q.2 in inr (a.0, q.0, subst (λ (x : ℕ). Contains (index_facts L w) (IndexAt a.0 q.0 x)) q.3 a.1))
      (λ (none : (r : ℕ) → r < record_count L → is_placed L w.index r ≡ true → w.keys r ≢ k). inl (absent_line c sound w.clock k none))
      (find_key L w K sound.sized sound.times sound.each sound.versions k (record_count L))

  pub seen_history : (fs : List Fact) → SeenIsRecorded (fs ++ index_facts L w) (history_of L w)
  seen_history fs = seen_on (index_facts L w) (fs ++ index_facts L w) (λ f i. Contains-append_right fs (index_facts L w) f i) (history_of L w) history_recorded

  seen_by : (v : Known) → SeenIsRecorded v.facts v.seen → (gs : List Fact) → SeenIsRecorded (v.facts ++ gs) v.seen
  seen_by v old gs = seen_on v.facts (v.facts ++ gs) (grows_by v.facts gs) v.seen old

  module _ (e : Event) (low : session_of e < L.sessions) (ok : Enabled L (K (session_of e)) e) where
    abbrev w' : Words
    w' = words_after L w (K (session_of e)) e

    -- the key of a latched record stays
    latched_key : (j : ℕ) → j < L.sessions → 0 < (K j).hold.latch → w'.keys ((K j).hold.latch - 1) ≡ w.keys ((K j).hold.latch - 1)
    latched_key j h some = keys_kept c sound e low ok ((K j).hold.latch - 1) ((sound.versions.hands j h).index some)

    -- a session that has what it had, and more facts
    pub recorded_more : (j : ℕ) → j < L.sessions → (fs : List Fact) → Grows (K j).facts fs → Recorded fs (K j).seen (K j).own (K j).hold.latch (w'.keys ((K j).hold.latch - 1))
    recorded_more j h fs more = let r = sound.recorded j h in record {
      seen_keys = seen_on (K j).facts fs more (K j).seen r.seen_keys;
      own_keys = own_on (K j).facts fs more (K j).own r.own_keys;
      latched = latch_on (K j).facts fs more (K j).hold.latch (w.keys ((K j).hold.latch - 1)) (w'.keys ((K j).hold.latch - 1)) (latched_key j h) r.latched;
    }

    -- with no more facts
    same : Recorded (K (session_of e)).facts (K (session_of e)).seen (K (session_of e)).own (K (session_of e)).hold.latch (w'.keys ((K (session_of e)).hold.latch - 1))
    same = recorded_more (session_of e) low (K (session_of e)).facts (λ f i. i)

    by : (gs : List Fact) → Recorded ((K (session_of e)).facts ++ gs) (K (session_of e)).seen (K (session_of e)).own (K (session_of e)).hold.latch (w'.keys ((K (session_of e)).hold.latch - 1))
    by gs = recorded_more (session_of e) low ((K (session_of e)).facts ++ gs) (grows_by (K (session_of e)).facts gs)

  looks : (s a : ℕ) → s < L.sessions → (p : Place) → RecordedOf w.keys (look_at L w (K s) p)
  looks s a low ClockWord = let gs : List Fact = index_facts L w in let r = by (Look s a) low tt gs in record { seen_keys = seen_history (K s).facts; own_keys = r.own_keys; latched = r.latched }
  looks s a low EpochWord = by (Look s a) low tt (EpochAtLeast w.epoch ∷ [])
  looks s a low RecordCounter = by (Look s a) low tt (RecordsAtLeast w.counter ∷ [])
  looks s a low (StateWord j n) = by (Look s a) low tt (state_fact w j n)
  looks s a low (KeyWord r) = either (RecordedOf w.keys) (gives_up (K s) r (w.keys r)) (given_up (K s)) (K s) (λ _. same (Look s a) low tt) (λ _. same (Look s a) low tt)
  looks s a low (IndexWord q) = by (Look s a) low tt (index_fact w q)
  looks s a low (HeadWord r) = by (Look s a) low tt (chain_facts L w r)
  looks s a low (TailCounter range) = by (Look s a) low tt (TailsAtLeast range (w.counts range) ∷ cond (is_reading (K s)) (range_facts L w range) [])
  looks s a low (CellWord t p) = by (Look s a) low tt (stored_fact L w t ++ commit_fact w.log (w.cells t 0))
  looks s a low CommitWord = same (Look s a) low tt
  looks s a low (LogWord i) = same (Look s a) low tt
  looks s a low (BeginWord i n) = same (Look s a) low tt
  looks s a low (DirectoryWord i n) = same (Look s a) low tt
  looks s a low (FrameWord i n) = same (Look s a) low tt
  looks s a low (PinWord i) = same (Look s a) low tt
  looks s a low (PostingWord i n) = by (Look s a) low tt (post_fact w i n)

  -- what a load shows of the history
  pub look_seen : (v : Known) → SeenIsRecorded v.facts v.seen → (p : Place) → SeenIsRecorded (look_at L w v p).facts (look_at L w v p).seen
  look_seen v old ClockWord = seen_history v.facts
  look_seen v old EpochWord = seen_by v old (EpochAtLeast w.epoch ∷ [])
  look_seen v old RecordCounter = seen_by v old (RecordsAtLeast w.counter ∷ [])
  look_seen v old (StateWord j n) = seen_by v old (state_fact w j n)
  look_seen v old (KeyWord r) = either (λ (u : Known). SeenIsRecorded u.facts u.seen) (gives_up v r (w.keys r)) (given_up v) v (λ _. old) (λ _. old)
  look_seen v old (IndexWord q) = seen_by v old (index_fact w q)
  look_seen v old (HeadWord r) = seen_by v old (chain_facts L w r)
  look_seen v old (TailCounter range) = seen_by v old (TailsAtLeast range (w.counts range) ∷ cond (is_reading v) (range_facts L w range) [])
  look_seen v old (CellWord t p) = seen_by v old (stored_fact L w t ++ commit_fact w.log (w.cells t 0))
  look_seen v old CommitWord = old
  look_seen v old (LogWord i) = old
  look_seen v old (BeginWord i n) = old
  look_seen v old (DirectoryWord i n) = old
  look_seen v old (FrameWord i n) = old
  look_seen v old (PinWord i) = old
  look_seen v old (PostingWord i n) = seen_by v old (post_fact w i n)

  -- a latch, with the whole index
  latch_won : (s r : ℕ) → s < L.sessions → Enabled L (K s) (Latch s r) → Stands L w (K s) (Latch s r) → RecordedOf w.keys (latched L w (K s) r)
  latch_won s r low ok stands = let fs : List Fact = (K s).facts ++ (index_facts L w ++ chain_facts L w r) in let old = by (Latch s r) low ok (index_facts L w ++ chain_facts L w r) in record {
    seen_keys = old.seen_keys;
    own_keys = old.own_keys;
    latched = λ _. let a = placed_fact r stands in (
      a.0,
      subst (λ (x : ℕ). Contains fs (IndexAt a.0 x (w.keys x))) (let f : r ≡ r + 1 - 1 = omega arith in f)
          (Contains-append_right (K s).facts (index_facts L w ++ chain_facts L w r) (IndexAt a.0 r (w.keys r)) (Contains-append_left (index_facts L w) (chain_facts L w r) (IndexAt a.0 r (w.keys r)) a.1)),
    );
  }

  pub recorded_step : (e : Event) → session_of e < L.sessions → Enabled L (K (session_of e)) e → Stands L w (K (session_of e)) e → RecordedOf (words_after L w (K (session_of e)) e).keys (known_after L w (K (session_of e)) e)
  recorded_step (Look s a) low ok stands = looks s a low (place_of L a)
  recorded_step (Begin s b r) low ok stands = let q = same (Begin s b r) low ok in record { seen_keys = q.seen_keys; own_keys = own_none (K s).facts; latched = q.latched }
  recorded_step (Take s) low ok stands = either (RecordedOf w.keys) (eqb w.turn 0) (took (K s)) (held_off (K s)) (λ _. same (Take s) low ok) (λ _. same (Take s) low ok)
  recorded_step (Log s) low ok stands = same (Log s) low ok
  recorded_step (State s) low ok stands = same (State s) low ok
  recorded_step (Clock s) low ok stands = let q = same (Clock s) low ok in record { seen_keys = seen_next (K s).facts (K s).seen (commit s (K s).number (K s).begin (K s).own) q.seen_keys q.own_keys; own_keys = own_none (K s).facts; latched = q.latched }
  recorded_step (Give s) low ok stands = same (Give s) low ok
  recorded_step (Close s) low ok stands = let q = same (Close s) low ok in record { seen_keys = q.seen_keys; own_keys = own_none (K s).facts; latched = q.latched }
  recorded_step (DrawRecord s) low ok stands = let now = by (DrawRecord s) low ok (RecordsAtLeast (w.counter + 1) ∷ []) in either (RecordedOf w.keys) (nat_lt w.counter (record_count L)) (record_drawn w (K s)) (records_full w (K s)) (λ _. now) (λ _. now)
  recorded_step (StoreKey s k) low ok stands = same (StoreKey s k) low ok
  recorded_step (Claim s q) low ok stands = either (RecordedOf w.keys) (eqb (w.index q) 0) (claimed (K s) q) (claim_lost w (K s) q)
      (λ _. by (Claim s q) low ok (IndexAt q ((K s).placing.hand - 1) (K s).placing.key ∷ [])) (λ _. by (Claim s q) low ok (index_fact w q))
  recorded_step (Latch s r) low ok stands = either (RecordedOf w.keys) (eqb (w.heads r % 2) 0) (latched L w (K s) r) (latch_lost L w (K s) r) (λ _. latch_won s r low ok stands) (λ _. by (Latch s r) low ok (chain_facts L w r))
  recorded_step (DrawTail s range) low ok stands = let now = by (DrawTail s range) low ok (TailsAtLeast range (w.counts range + 1) ∷ []) in either (RecordedOf w.keys) (nat_lt (w.counts range) L.tails) (tail_drawn L w (K s) range) (tails_full w (K s) range) (λ _. now) (λ _. now)
  recorded_step (StoreCell s p x) low ok stands = either (RecordedOf w.keys) (eqb p 0) (cell_started L w (K s) p x) (word_stored (K s) p x)
      (λ _. by (StoreCell s p x) low ok (cell_fact L (words_after L w (K s) (StoreCell s p x)) (K s).hold.tail ∷ [])) (λ _. same (StoreCell s p x) low ok)
  recorded_step (Install s) low ok stands = let q = same (Install s) low ok in let k = sound.versions.hands s low in let r : ℕ = (K s).hold.latch - 1 in let a = q.latched (k.holds (k.some ok)) in
      record { seen_keys = q.seen_keys; own_keys = own_next (K s).facts (K s).own (write (w.keys r) (act_in L w.cells (K s).hold.tail)) q.own_keys (a.0, r, a.1); latched = λ p. absurd (omega arith) }
  recorded_step (Release s) low ok stands = let q = same (Release s) low ok in record { seen_keys = q.seen_keys; own_keys = q.own_keys; latched = λ p. absurd (omega arith) }
  recorded_step (Stamp s range n) low ok stands = same (Stamp s range n) low ok
  recorded_step (Post s column q) low ok stands = either (RecordedOf w.keys) (eqb (w.postings column q) 0) (posted (K s) column q) (post_lost w (K s) column q)
      (λ _. by (Post s column q) low ok (PostAt column q (K s).hold.tail ∷ [])) (λ _. by (Post s column q) low ok (post_fact w column q))

  pub recorded_keeps : (e : Event) → session_of e < L.sessions → Enabled L (K (session_of e)) e → Stands L w (K (session_of e)) e → (j : ℕ) → j < L.sessions → RecordedOf (words_after L w (K (session_of e)) e).keys (put K (session_of e) (known_after L w (K (session_of e)) e) j)
  recorded_keeps e low ok stands = each_put (λ (j : ℕ) (u : Known). j < L.sessions → RecordedOf (words_after L w (K (session_of e)) e).keys u) K (session_of e) (known_after L w (K (session_of e)) e)
      (λ h. recorded_step e low ok stands) (λ j other h. recorded_more e low ok j h (K j).facts (λ f i. i))
