-- What a writer may do by what it found of a chain.
use Rattle.std.proofs.Common.{◌≡◌, ℕ, ◌+◌, ◌-◌, ◌*◌, ◌/◌, ◌%◌, ◌<◌, List, [], ◌∷◌, true, eqb, Contains, refl, sym, subst, ap, ◌∙◌, arith, inl, inr, ⊎_elim, eqb-true}
use mathlib.Core.Logic.{dite}
use native.Mathlib.Decide.{ℕ_discrete}
use Rattle.lst_layout.specs.declared.limits.Limits.{Limits}
use Rattle.lst_layout.specs.Words.{shown}
use Rattle.lst_core_state.specs.Lists.{Links, Judged}
use Rattle.lst_core_state.proofs.Lists.{links_chain}
use Rattle.lst_core_state.proofs.Sights.{or_says, until_says}
use Rattle.lst_core_state.specs.declared.known.Known.{Known}
use Rattle.lst_core_state.specs.declared.facts.Fact.{Fact}
use Rattle.lst_core_state.specs.declared.facts.Fact.TheVariants.{StateAt}
use Rattle.lst_core_state.specs.Cells.{range_of, tail_at}
use Rattle.lst_core_state.specs.Facts.{IsFact}
use Rattle.lst_core_state.specs.State.{Words, Core, entry, writer_at, name_of, line, back_in, head_of}
use Rattle.lst_core_state.proofs.CellsKept.{tail_at-some, tail_at-none, tail_range-is}
use Rattle.lst_core_state.proofs.Steps.{name_entry}
use Rattle.lst_core_state.specs.State.{state_over}
use Rattle.lst_rule.specs.declared.view.View.{View}
use Rattle.lst_rule.specs.Rule.{knows, hosts, Allowed}
use Rattle.lst_rule.proofs.Knowing.{is_fact, knows_own}
use Rattle.lst_rule.specs.Copies.{Version, fact_of, tails_of, AreKnown, Leads, IsChainFrom}
use Rattle.lst_rule.specs.Seen.{is_early, sees}
use Rattle.lst_rule.specs.Judging.{IsClosed, IsJudged}
use Rattle.lst_rule.specs.Laws.{ClosedArePassed, JudgedMayDraw}
use Rattle.lst_rule.proofs.StatusTelling.{state_tells, own_state}

pub closed_are_passed : ClosedArePassed
closed_are_passed v s [] rest closed judged = judged
closed_are_passed v s (c ∷ passed) rest closed judged = inr (closed.0, closed_are_passed v s passed rest closed.1 judged)

-- ---- judging

module _ (l : Limits) (w : Words) (facts : List Fact) (so : (f : Fact) → Contains facts f → IsFact l w f) where
  -- the back words of the state lead along the versions
  links_of : (range n : ℕ) (cs : List Version) → AreKnown facts cs → Leads l range n cs → Links (back_in l w.cells) (tail_at l.tails range n) (tails_of cs)
  links_of range n [] known leads = ap (tail_at l.tails range) leads ∙ tail_at-none l.tails range
  links_of range n (c ∷ cs) known leads = let f = so (fact_of c) known.0 in let some = leads.0 in let high = leads.1 in let is = leads.2 in let falls = leads.3 in
      let head : tail_at l.tails range n ≡ c.tail = tail_at-some l.tails range n some ∙ sym is in
      let back : back_in l w.cells c.tail ≡ tail_at l.tails range c.back = (λ i. tail_at l.tails (tail_range-is l.tails range c.tail (omega arith) (omega arith) i) (f.3 i)) in
      (head, omega arith, lower back, subst (λ (h : ℕ). Links (back_in l w.cells) h (tails_of cs)) (sym back) (links_of range c.back cs known.1 leads.4))
    where
      lower : back_in l w.cells c.tail ≡ tail_at l.tails range c.back → back_in l w.cells c.tail < c.tail
      lower back = let is = leads.2 in let falls = leads.3 in let some = leads.0 in dite (ℕ_discrete c.back 0)
          (λ e. let f : tail_at l.tails range c.back ≡ 0 = ap (tail_at l.tails range) e ∙ tail_at-none l.tails range in omega arith)
          (λ ne. let f = tail_at-some l.tails range c.back (omega arith) in omega arith)

module _ (v : View) (words : List ℕ) (known : ℕ → Known) (merger : Known) (a : Allowed v words known merger) (s : ℕ) (hosted : hosts v s ≡ true) (low : s < v.limits.sessions) where
  abbrev c : Core
  c = state_over v.limits words known merger

  abbrev w : Words
  w = shown v.limits words

  same : knows v s ≡ known s
  same = knows_own v words known merger a s hosted (λ e. omega arith)

  -- while the latch is in hand, the chain is the one that was found
  pub line_is : (rec : ℕ) (cs : List Version) → (knows v s).hold.latch ≡ rec + 1 → IsChainFrom v.limits (knows v s).facts rec (knows v s).hold.head cs → line v.limits (shown v.limits words) rec ≡ tails_of cs
  line_is rec cs latch is = let H = a.sound.versions.hands s low in let head : ℕ = (knows v s).hold.head in
      let latch' : (known s).hold.latch ≡ rec + 1 = ap (λ (u : Known). u.hold.latch) (sym same) ∙ latch in
      let word : w.heads rec ≡ 2 * head + 1 = ap w.heads (let e : rec ≡ (known s).hold.latch - 1 = omega arith in e) ∙ (H.latched (omega arith) ∙ ap (λ (u : Known). 2 * u.hold.head + 1) (sym same)) in
      let half : w.heads rec / 2 ≡ head = omega arith in
      let h : ℕ = head_of v.limits rec (w.heads rec) in
      let links : Links (back_in v.limits w.cells) h (tails_of cs) = subst (λ (n : ℕ). Links (back_in v.limits w.cells) (tail_at v.limits.tails (range_of rec) n) (tails_of cs)) (sym half)
      (links_of v.limits w (knows v s).facts (is_fact v words known merger a s hosted) (range_of rec) head cs is.known is.leads) in
      links_chain (back_in v.limits w.cells) h h (tails_of cs) (omega arith) links

  judged_of : (is_on : (knows v s).is_open ≡ true) (own : ℕ) → own ≡ name_of s (knows v s).number → (rec : ℕ) (cs : List Version) → AreKnown (knows v s).facts cs → ((d : Version) → Contains (knows v s).facts (fact_of d) → d.writer % 16 < v.limits.sessions) → IsJudged (knows v s) s cs
      → Judged (entry w.states) (entry w.begins) (writer_at w) own (tails_of cs)
  judged_of is_on own is rec [] facts begun judged = tt
  judged_of is_on own is rec (d ∷ ds) facts begun judged = let f = is_fact v words known merger a s hosted (fact_of d) facts.0 in let by : writer_at w d.tail ≡ d.writer = f.1 in ⊎_elim
      (λ (seen : sees (knows v s) s d.writer ≡ true). ⊎_elim
      (λ (early : is_early (knows v s) d.writer ≡ true). let q = until_says (knows v s).begin (entry w.states d.writer) (sym (state_tells v words known merger a s hosted is_on d.writer (begun d facts.0)) ∙ early) in
      let state : entry w.states (writer_at w d.tail) ≡ entry w.states d.writer = ap (entry w.states) by in let some = q.0 in let most = q.1 in let b = begin_is in
      (λ _. inr (omega arith, omega arith), λ z. absurd (omega arith)))
      (λ (mine : eqb d.writer (name_of s (knows v s).number) ≡ true). let e : writer_at w d.tail ≡ own = by ∙ (eqb-true d.writer (name_of s (knows v s).number) mine ∙ sym is) in
      (λ _. inl e, λ z. absurd (not_closed (ap (entry w.states) (sym (e ∙ is)) ∙ z))))
      (or_says (is_early (knows v s) d.writer) (eqb d.writer (name_of s (knows v s).number)) seen))
      (λ (q : IsClosed (knows v s).facts d × IsJudged (knows v s) s ds). let g = (is_fact v words known merger a s hosted (StateAt (d.writer % 16) (d.writer / 16) 1) q.0).1 in
      let state : entry w.states (writer_at w d.tail) ≡ 1 = ap (entry w.states) by ∙ g in
      (λ live. absurd (live state), λ _. judged_of is_on own is rec ds facts.1 begun q.1))
      judged
    where
      begin_is : entry w.begins own ≡ (knows v s).begin + 1
      begin_is = let few = a.sound.sized.sessions.1 in subst (λ (u : Known). entry w.begins own ≡ u.begin + 1) (sym same)
          (ap (entry w.begins) (is ∙ ap (λ (u : Known). name_of s u.number) same) ∙ (name_entry w.begins s (known s).number (omega arith) ∙ (a.sound.each s low).open_begin (ap (λ (u : Known). u.is_open) (sym same) ∙ is_on)))

      not_closed : ¬ (entry w.states (name_of s (knows v s).number) ≡ 1)
      not_closed z = let y : entry w.states (name_of s (known s).number) ≡ 1 = ap (λ (u : Known). entry w.states (name_of s u.number)) (sym same) ∙ z in
          ⊎_elim (λ (g : entry w.states (name_of s (known s).number) ≡ 0). omega arith) (λ (g : entry w.states (name_of s (known s).number) ≡ w.clock + 2). omega arith)
          (own_state c a.sound s low (ap (λ (u : Known). u.is_open) (sym same) ∙ is_on))

  -- each version of a fact is by a session of the store
  begun_of : (d : Version) → Contains (knows v s).facts (fact_of d) → d.writer % 16 < v.limits.sessions
  begun_of d h = let f = is_fact v words known merger a s hosted (fact_of d) h in subst (λ (x : ℕ). x % 16 < v.limits.sessions) f.1 (a.sound.versions.stored d.tail f.0).begun.0

  pub judged_stands : (rec : ℕ) (cs : List Version) → (knows v s).hold.latch ≡ rec + 1 → IsChainFrom v.limits (knows v s).facts rec (knows v s).hold.head cs → IsJudged (knows v s) s cs
      → Judged (entry w.states) (entry w.begins) (writer_at w) (name_of s (knows v s).number) (line v.limits w ((knows v s).hold.latch - 1))
  judged_stands rec cs latch is judged = let latch' : (known s).hold.latch ≡ rec + 1 = ap (λ (u : Known). u.hold.latch) (sym same) ∙ latch in
      let is_on : (knows v s).is_open ≡ true = ap (λ (u : Known). u.is_open) same ∙ (a.sound.versions.hands s low).opened (omega arith) in
      subst (λ (ts : List ℕ). Judged (entry w.states) (entry w.begins) (writer_at w) (name_of s (knows v s).number) ts)
      (sym (ap (line v.limits w) (let e : (knows v s).hold.latch - 1 ≡ rec = omega arith in e) ∙ line_is rec cs latch is))
      (judged_of is_on (name_of s (knows v s).number) refl rec cs is.known begun_of judged)

pub judged_may_draw : JudgedMayDraw
judged_may_draw v s rec cs hosted low latch is judged words known merger a = judged_stands v words known merger a s hosted low rec cs latch is judged
