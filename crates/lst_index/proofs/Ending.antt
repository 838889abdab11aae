-- What the positions passed say of each state in which the view is possible.
use Rattle.std.proofs.Common.{◌≡◌, ◌≢◌, ℕ, ◌+◌, ◌-◌, ◌<◌, ◌≤◌, List, [], true, sym, subst, ap, ◌∙◌, arith, ⊎_elim}
use Rattle.std.specs.List.{Contains}
use mathlib.Core.Logic.{dite}
use native.Mathlib.Decide.{dec_lt}
use Rattle.lst_layout.specs.declared.limits.Limits.{Limits}
use Rattle.lst_layout.specs.Words.{Words, shown}
use Rattle.lst_model.specs.Histories.{all_acts_on}
use Rattle.lst_core_state.specs.declared.known.Known.{Known}
use Rattle.lst_core_state.specs.declared.facts.Fact.{Fact}
use Rattle.lst_core_state.specs.declared.facts.Fact.TheVariants.{IndexAt}
use Rattle.lst_core_state.specs.Cells.{record_count}
use Rattle.lst_core_state.specs.Index.{size, position_of, is_placed, Passes, Reaches}
use Rattle.lst_core_state.specs.State.{history_of, sight}
use Rattle.lst_core_state.proofs.IndexKept.{absent, not_full}
use Rattle.lst_core_state.proofs.Positions.{placed_says}
use Rattle.lst_core_state.proofs.Statements.{histories_are_sound, absent_is_unseen}
use Rattle.lst_core_state.specs.State.{state_over}
use Rattle.lst_rule.specs.declared.view.View.{View}
use Rattle.lst_rule.specs.Rule.{knows, hosts, Allowed}
use Rattle.lst_rule.specs.Learned.{Possible}
use Rattle.lst_rule.proofs.Knowing.{is_fact, is_seen, knows_own}
use Rattle.lst_index.specs.Searches.{Passed, Ended, IsUnseen}
use Rattle.lst_index.proofs.Lists.{acts_append, front_none}

pub passed_more : (l : Limits) (fs gs : List Fact) (key n : ℕ) → ((f : Fact) → Contains fs f → Contains gs f) → Passed l fs key n → Passed l gs key n
passed_more l fs gs key n more p i h = let t = p i h in (t.0, t.1, more (IndexAt (position_of l key i) t.0 t.1) t.2, t.3)

pub passed_next : (l : Limits) (fs : List Fact) (key n r k : ℕ) → Passed l fs key n → Contains fs (IndexAt (position_of l key n) r k) → k ≢ key → Passed l fs key (n + 1)
passed_next l fs key n r k p c other i h = dite (dec_lt i n) (λ g. p i g) (λ g. let e : n ≡ i = grind (arith, g, h) in subst (λ (j : ℕ). (r k : ℕ) × Contains fs (IndexAt (position_of l key j) r k) × (k ≢ key)) e (r, k, c, other))

module _ (v : View) (words : List ℕ) (known : ℕ → Known) (merger : Known) (a : Allowed v words known merger) (s : ℕ) (hosted : hosts v s ≡ true) where
  abbrev w : Words
  w = shown v.limits words

  -- what has been passed is passed in any state that is possible
  pub passes : (key n : ℕ) → Passed v.limits (knows v s).facts key n → Passes v.limits w.keys w.index key n
  passes key n p i h = let t = p i h in let is = is_fact v words known merger a s hosted (IndexAt (position_of v.limits key i) t.0 t.1) t.2 in
      (let e = is.0 in omega arith, λ e. t.3 (sym is.1 ∙ (ap w.keys (let f = is.0 in omega arith) ∙ e)))

  pub reaches : (key n q : ℕ) → n < size v.limits → q ≡ position_of v.limits key n → Passed v.limits (knows v s).facts key n → Reaches v.limits w.keys w.index key q
  reaches key n q short at p = (n, short, at, passes key n p)

  -- a key that stands in no position
  module _ (key : ℕ) (none : (q : ℕ) → 0 < w.index q → w.keys (w.index q - 1) ≢ key) where
    unplaced : (r : ℕ) → r < record_count v.limits → is_placed v.limits w.index r ≡ true → w.keys r ≢ key
    unplaced r low is e = let q = placed_says v.limits w.index r is in none q.0 (let f = q.2 in omega arith) (ap w.keys (let f = q.2 in omega arith) ∙ e)

    unwritten : all_acts_on key (history_of v.limits w) ≡ []
    unwritten = ⊎_elim
        (λ (t : (r : ℕ) × (r < record_count v.limits) × (is_placed v.limits w.index r ≡ true) × (w.keys r ≡ key)). absurd (unplaced t.0 t.1 t.2 t.3))
        (λ (e : all_acts_on key (history_of v.limits w) ≡ []). e) ((histories_are_sound (state_over v.limits words known merger) a.sound).placed key)

    pub unseen : s < v.limits.sessions → IsUnseen (knows v s) key
    unseen low = record {
      commits = let h = is_seen v words known merger a s hosted in front_none (all_acts_on key (knows v s).seen) (all_acts_on key h.0) (sym (acts_append key (knows v s).seen h.0) ∙ (ap (all_acts_on key) (sym h.1) ∙ unwritten));
      own = let same : knows v s ≡ known s = knows_own v words known merger a s hosted (λ e. omega arith) in
          subst (λ (k : Known). k.is_open ≡ true → sight k key ≡ []) (sym same) (λ is_on. absent_is_unseen (state_over v.limits words known merger) a.sound s low is_on key unplaced);
    }

-- a run that was found to end without the key: it stands in no position then
pub ended_absent : (v : View) (s key : ℕ) → hosts v s ≡ true → (e : Ended v s key) → let w = shown v.limits e.words in (q : ℕ) → 0 < w.index q → w.keys (w.index q - 1) ≢ key
ended_absent v s key hosted e = let w : Words = shown v.limits e.words in
    absent v.limits w.counter w.keys w.index (λ j. (e.known j).placing) e.allowed.sound.index key e.offset (passes v e.words e.known e.merger e.allowed s hosted key e.offset e.passed) e.empty

pub ended_unseen : (v : View) (s key : ℕ) → hosts v s ≡ true → s < v.limits.sessions → Ended v s key → IsUnseen (knows v s) key
ended_unseen v s key hosted low e = unseen v e.words e.known e.merger e.allowed s hosted key (ended_absent v s key hosted e) low

-- a run is never passed to its end
pub endless : (l : Limits) (v : View) (s key n : ℕ) → v.limits ≡ l → hosts v s ≡ true → Possible v → Passed l (knows v s).facts key n → size l ≤ n → ⊥
endless l v s key n same hosted p passed all = let w : Words = shown v.limits p.words in
    let passed' : Passed v.limits (knows v s).facts key n = subst (λ (z : Limits). Passed z (knows v s).facts key n) (sym same) passed in let e : size v.limits ≡ size l = ap size same in
    not_full v.limits w.counter w.keys w.index (λ j. (p.known j).placing) p.allowed.sound.index p.allowed.sound.sized key (λ i h. (passes v p.words p.known p.merger p.allowed s hosted key n passed' i (omega arith)).0)

-- so each position passed has one behind it
pub not_over : (l : Limits) (v : View) (s key n : ℕ) → v.limits ≡ l → hosts v s ≡ true → Possible v → Passed l (knows v s).facts key n → n < size l
not_over l v s key n same hosted p passed = dite (dec_lt n (size l)) (λ low. low) (λ high. absurd (endless l v s key n same hosted p passed (omega arith)))
