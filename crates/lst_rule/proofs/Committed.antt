-- Versions whose commit time is known.
use Rattle.std.proofs.Common.{◌≡◌, ◌≢◌, ◌⊎◌, ℕ, zero, suc, ◌+◌, ◌-◌, ◌*◌, ◌/◌, ◌%◌, ◌<◌, ◌≤◌, List, [], ◌∷◌, ◌++◌, Bool, true, false, cond, eqb, length, take, drop, Contains, refl, sym, subst, ap, ◌∙◌, arith, inl, inr, ⊎_elim, eq-eqb, append_assoc, true≢false}
use Rattle.std.proofs.lemmas.List.{take-append-le, take-append-drop}
use Rattle.lst_layout.specs.Words.{shown}
use Rattle.lst_model.specs.declared.acts.Write.{Write}
use Rattle.lst_model.specs.declared.commits.Commit.{Commit}
use Rattle.lst_model.specs.Histories.{acts_on}
use Rattle.lst_core_state.specs.Lists.{Has, acts}
use Rattle.lst_core_state.specs.declared.known.Known.{Known}
use Rattle.lst_core_state.specs.declared.facts.Fact.TheVariants.{IndexAt, StateAt, CommitAt}
use Rattle.lst_core_state.specs.Cells.{record_count, record_of}
use Rattle.lst_core_state.specs.Index.{is_placed}
use Rattle.lst_core_state.specs.Facts.{IsFact}
use Rattle.lst_core_state.specs.State.{Words, Core, entry, state_at, line, act_in, record_in, writes_of, history, history_of, commit_at}
use Rattle.lst_core_state.specs.Step.{IsCommitted}
use Rattle.lst_core_state.specs.Sound.{InHand, StoredOf}
use Rattle.lst_core_state.proofs.Decoded.{logged_apart}
use Rattle.lst_core_state.proofs.Histories.{length-history, starts_length}
use Rattle.lst_core_state.proofs.Positions.{placed_holds}
use Rattle.lst_core_state.proofs.Sightings.{commit_line, history_front}
use Rattle.lst_core_state.specs.State.{state_over}
use Rattle.lst_rule.specs.declared.view.View.{View}
use Rattle.lst_rule.specs.Rule.{knows, hosts, Allowed}
use Rattle.lst_rule.proofs.Knowing.{is_fact, is_seen, clock_is}
use Rattle.lst_rule.specs.Copies.{Version, fact_of, IsVersionOf}
use Rattle.lst_rule.specs.Seen.{HasKey}
use Rattle.lst_rule.specs.Judging.{IsCommittedAt, WroteAt}
use Rattle.lst_rule.specs.Laws.{CommittedWrote, CommittedMayBeStamped}

-- a choice of a list's tails that takes one makes some act
not_empty : {A : Type 0} (xs : List A) (x : A) → xs ++ x ∷ [] ≢ []
not_empty [] x z = let h : suc zero ≡ zero = ap length z in omega arith
not_empty (y ∷ ys) x z = let h : suc (length (ys ++ x ∷ [])) ≡ zero = ap length z in omega arith

some_acts : {A : Type 0} (p : ℕ → Bool) (f : ℕ → A) (ts : List ℕ) (t : ℕ) → Has t ts → p t ≡ true → acts p f ts ≢ []
some_acts p f [] t i e = absurd i
some_acts {A} p f (y ∷ ys) t i e = step (p y) refl i (some_acts p f ys t)
  where
    step : (b : Bool) → p y ≡ b → (t ≡ y) ⊎ Has t ys → (Has t ys → p t ≡ true → acts p f ys ≢ []) → cond (p y) (acts p f ys ++ f y ∷ []) (acts p f ys) ≢ []
    step true is i rest none = not_empty (acts p f ys) (f y) (sym (ap (λ (b : Bool). cond b (acts p f ys ++ f y ∷ []) (acts p f ys)) is) ∙ none)
    step false is (inl here) rest none = absurd (true≢false (sym e ∙ (ap p here ∙ is)))
    step false is (inr later) rest none = rest later e (sym (ap (λ (b : Bool). cond b (acts p f ys ++ f y ∷ []) (acts p f ys)) is) ∙ none)

next_history : (m : ℕ) (log : ℕ → ℕ) (begins : ℕ → ℕ → ℕ) (ws : ℕ → List Write) → history (suc m) log begins ws ≡ history m log begins ws ++ commit_at log begins ws (suc m) ∷ []
unfolding history
next_history m log begins ws = refl

module _ (v : View) (words : List ℕ) (known : ℕ → Known) (merger : Known) (a : Allowed v words known merger) (s : ℕ) (hosted : hosts v s ≡ true) where
  abbrev c : Core
  c = state_over v.limits words known merger

  abbrev w : Words
  w = shown v.limits words

  -- the state word of the version's transaction
  committed_at : (d : Version) (time : ℕ) → IsCommittedAt (knows v s).facts d time → entry (shown v.limits words).states d.writer ≡ time + 1
  committed_at d time (inl h) = let f = is_fact v words known merger a s hosted (CommitAt time (d.writer % 16) (d.writer / 16)) h in let few = a.sound.sized.sessions.1 in let low = f.2 in let is : w.log time ≡ d.writer = f.3 ∙ (omega arith) in
      ap (entry w.states) (sym is) ∙ (a.sound.times.named time f.0 f.1).state
  committed_at d time (inr h) = (is_fact v words known merger a s hosted (StateAt (d.writer % 16) (d.writer / 16) (time + 1)) h).1

  seen_low : (time : ℕ) → time ≤ length (knows v s).seen → time ≤ (shown v.limits words).clock
  seen_low time high = let e = (clock_is v words known merger a).0 in let f = starts_length (history_of v.limits w) (knows v s).seen (is_seen v words known merger a s hosted) in omega arith

  -- what was seen up to a time is the history up to it
  seen_front : (time : ℕ) → time ≤ length (knows v s).seen → take time (knows v s).seen ≡ history time w.log w.begins (writes_of v.limits w)
  seen_front time high = let q = is_seen v words known merger a s hosted in sym (take-append-le time (knows v s).seen q.0 high) ∙ (ap (take time) (sym q.1) ∙ history_front w.clock time w.log w.begins (writes_of v.limits w) (seen_low time high))

  -- the commit of a version wrote its record's key
  commit_wrote : (rec key time : ℕ) (d : Version) → IsVersionOf v.limits rec d → Contains (knows v s).facts (fact_of d) → HasKey (knows v s).facts rec key → 0 < time → time ≤ length (knows v s).seen → IsCommittedAt (knows v s).facts d time
      → (w.log time ≡ d.writer) × (acts_on key (writes_of v.limits w (w.log time)) ≢ [])
  commit_wrote rec key time d is stored has some high committed = (
    logged,
    subst (λ (k : ℕ). acts_on k (writes_of v.limits w (w.log time)) ≢ []) at.1 (λ none. some_acts (λ t. eqb (state_at w t) (time + 1)) (act_in v.limits w.cells) (line v.limits w rec) d.tail on_line
        (eq-eqb (state_at w d.tail) (time + 1) (ap (entry w.states) f.1 ∙ state)) (sym (commit_line c a.sound time rec low placed some (seen_low time high)) ∙ none)),
  )
    where
      f : IsFact v.limits w (fact_of d)
      f = is_fact v words known merger a s hosted (fact_of d) stored

      at : IsFact v.limits w (IndexAt has.0 rec key)
      at = is_fact v words known merger a s hosted (IndexAt has.0 rec key) has.1

      placed : is_placed v.limits w.index rec ≡ true
      placed = placed_holds v.limits w.index rec has.0 (a.sound.index.filled has.0 (let e = at.0 in omega arith)).position at.0

      state : entry w.states d.writer ≡ time + 1
      state = committed_at d time committed

      logged : w.log time ≡ d.writer
      logged = let low = is.session in a.sound.times.found (d.writer % 16) (d.writer / 16) time is.session some (seen_low time high) state ∙ (omega arith)

      here : record_in v.limits w.cells d.tail ≡ rec
      here = ap (record_of v.limits.tails d.tail) f.2 ∙ is.here

      low : rec < record_count v.limits
      low = let k : StoredOf v.limits w known d.tail = a.sound.versions.stored d.tail f.0 in subst (λ (r : ℕ). r < record_count v.limits) here k.low

      on_line : Has d.tail (line v.limits w rec)
      on_line = let k : StoredOf v.limits w known d.tail = a.sound.versions.stored d.tail f.0 in subst (λ (r : ℕ). Has d.tail (line v.limits w r)) here (⊎_elim
          (λ (i : Has d.tail (line v.limits w (record_in v.limits w.cells d.tail))). i)
          (λ (i : InHand v.limits known d.tail). absurd (logged_apart v.limits w known a.sound.sized a.sound.times a.sound.each a.sound.versions time d.tail some (seen_low time high) i (f.1 ∙ sym logged)))
          k.place)

  pub wrote_at : (rec key time : ℕ) (d : Version) → IsVersionOf v.limits rec d → Contains (knows v s).facts (fact_of d) → HasKey (knows v s).facts rec key → 0 < time → time ≤ length (knows v s).seen → IsCommittedAt (knows v s).facts d time
      → WroteAt (knows v s).seen time d.writer key
  wrote_at rec key zero d is stored has some high committed = absurd (omega arith)
  wrote_at rec key (suc m) d is stored has some high committed = let ws : ℕ → List Write = writes_of v.limits w in let q = commit_wrote rec key (suc m) d is stored has some high committed in record {
    before = history m w.log w.begins ws;
    commit = commit_at w.log w.begins ws (suc m);
    rest = drop (suc m) (knows v s).seen;
    is = sym (take-append-drop (suc m) (knows v s).seen) ∙ (ap (λ (front : List Commit). front ++ drop (suc m) (knows v s).seen) (seen_front (suc m) high ∙ next_history m w.log w.begins ws) ∙ append_assoc (history m w.log w.begins ws) (commit_at w.log w.begins ws (suc m) ∷ []) (drop (suc m) (knows v s).seen));
    place = let e = length-history m w.log w.begins ws in omega arith;
    session = ap (λ (x : ℕ). x % 16) q.0;
    number = ap (λ (x : ℕ). x / 16) q.0;
    wrote = q.1;
  }

  pub may_be_stamped : (range n time : ℕ) (d : Version) → Contains (knows v s).facts (fact_of d) → d.tail ≡ range * v.limits.tails + n → 0 < time → time ≤ length (knows v s).seen → IsCommittedAt (knows v s).facts d time
      → IsCommitted w (range * v.limits.tails + n) × (state_at w (range * v.limits.tails + n) - 1 ≡ time)
  may_be_stamped range n time d stored tail some high committed = subst (λ (t : ℕ). IsCommitted w t × (state_at w t - 1 ≡ time)) tail
      (let f = is_fact v words known merger a s hosted (fact_of d) stored in let state : state_at w d.tail ≡ time + 1 = ap (entry w.states) f.1 ∙ committed_at d time committed in let low = seen_low time high in
      ((f.0, omega arith, omega arith), omega arith))

pub committed_wrote : CommittedWrote
committed_wrote v s rec key time d p hosted is stored has some high committed = wrote_at v p.words p.known p.merger p.allowed s hosted rec key time d is stored has some high committed

pub committed_may_be_stamped : CommittedMayBeStamped
committed_may_be_stamped v s range n time d hosted session stored tail some high committed = (
  λ words known merger a. (may_be_stamped v words known merger a s hosted range n time d stored tail some high committed).0,
  λ words known merger a. (may_be_stamped v words known merger a s hosted range n time d stored tail some high committed).1,
)
