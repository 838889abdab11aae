-- What statuses tell, whenever they were found.
use Rattle.std.proofs.Common.{◌≡◌, ◌≢◌, ◌⊎◌, ℕ, ◌+◌, ◌-◌, ◌/◌, ◌%◌, ◌<◌, ◌≤◌, List, true, false, nat_le, Contains, sym, subst, ap, ◌∙◌, arith, inl, inr, ⊎_elim, le-leb, leb-true, true≢false}
use mathlib.Core.Logic.{dite}
use native.Mathlib.Decide.{ℕ_discrete}
use Rattle.lst_layout.specs.Words.{shown}
use Rattle.lst_core_state.specs.Lists.{is_until}
use Rattle.lst_core_state.proofs.Sights.{same_truth, is_false, until_says, until_holds, until_not}
use Rattle.lst_core_state.specs.declared.known.Known.{Known}
use Rattle.lst_core_state.specs.declared.facts.Fact.{Fact}
use Rattle.lst_core_state.specs.declared.facts.Fact.TheVariants.{StateAt, CommitAt}
use Rattle.lst_core_state.specs.declared.facts.Find.TheVariants.{UnfinishedVersion}
use Rattle.lst_core_state.specs.Facts.{IsFact}
use Rattle.lst_core_state.specs.State.{Words, Core, rank, entry, name_of}
use Rattle.lst_core_state.specs.Sound.{Sound}
use Rattle.lst_core_state.proofs.Steps.{name_entry}
use Rattle.lst_core_state.specs.State.{state_over}
use Rattle.lst_rule.specs.declared.view.View.{View}
use Rattle.lst_rule.specs.Rule.{knows, hosts, Allowed}
use Rattle.lst_rule.proofs.Knowing.{knows_own, knows_merger, low_own, is_fact}
use Rattle.lst_rule.specs.Seen.{is_early}
use Rattle.lst_rule.specs.Laws.{StatesTell, StatusesTell}
use Rattle.lst_rule.proofs.Seeing.{early_is}

-- the state word of an open transaction: 0, or the time above the clock
pub own_state : (c : Core) → Sound c → (s : ℕ) → s < c.limits.sessions → (c.known s).is_open ≡ true
    → (entry c.words.states (name_of s (c.known s).number) ≡ 0) ⊎ (entry c.words.states (name_of s (c.known s).number) ≡ c.words.clock + 2)
own_state c sound s low is_on = let v : Known = c.known s in let few = sound.sized.sessions.1 in let r = sound.each s low in let e : entry c.words.states (name_of s v.number) ≡ c.words.states s v.number = name_entry c.words.states s v.number (omega arith) in
    dite (ℕ_discrete (rank v.turn) 4) (λ f. inr (e ∙ r.stated f)) (λ f. inl (e ∙ r.open_state is_on f))

-- a transaction whose state word is 1, or a time by the clock, isn't the open one
pub not_own : (c : Core) → Sound c → (s : ℕ) → s < c.limits.sessions → (c.known s).is_open ≡ true → (x : ℕ) → 0 < entry c.words.states x → entry c.words.states x ≤ c.words.clock + 1 → x ≢ name_of s (c.known s).number
not_own c sound s low is_on x some most e = let f : entry c.words.states x ≡ entry c.words.states (name_of s (c.known s).number) = ap (entry c.words.states) e in
    ⊎_elim (λ (z : entry c.words.states (name_of s (c.known s).number) ≡ 0). omega arith) (λ (z : entry c.words.states (name_of s (c.known s).number) ≡ c.words.clock + 2). omega arith) (own_state c sound s low is_on)

-- by a time
pub until_time : (b time : ℕ) → 0 < time → is_until b (time + 1) ≡ nat_le time b
until_time b time some = same_truth (is_until b (time + 1)) (nat_le time b)
    (λ e. let q = until_says b (time + 1) e in let h = q.1 in le-leb time b (omega arith))
    (λ e. let h = leb-true time b e in until_holds b (time + 1) (omega arith) (omega arith))

module _ (v : View) (words : List ℕ) (known : ℕ → Known) (merger : Known) (a : Allowed v words known merger) (s : ℕ) (hosted : hosts v s ≡ true) (is_on : (knows v s).is_open ≡ true) where
  abbrev c : Core
  c = state_over v.limits words known merger

  -- the merger has no open transaction
  pub is_session : s ≢ v.limits.sessions
  is_session e = true≢false (sym is_on ∙ (ap (λ (u : Known). u.is_open) (knows_merger v words known merger a s hosted e) ∙ a.sound.merger_idle))

  pub low : s < v.limits.sessions
  low = low_own v words known merger a s hosted is_session

  pub is_known : knows v s ≡ known s
  is_known = knows_own v words known merger a s hosted is_session

  pub is_on_known : (known s).is_open ≡ true
  is_on_known = ap (λ (u : Known). u.is_open) (sym is_known) ∙ is_on

  pub state_tells : (x : ℕ) → x % 16 < v.limits.sessions → is_early (knows v s) x ≡ is_until (knows v s).begin (entry (shown v.limits words).states x)
  state_tells x in_range = subst (λ (u : Known). is_early u x ≡ is_until u.begin (entry (shown v.limits words).states x)) (sym is_known) (early_is c a.sound s low is_on_known x in_range)

  pub other : (x : ℕ) → 0 < entry (shown v.limits words).states x → entry (shown v.limits words).states x ≤ (shown v.limits words).clock + 1 → x ≢ name_of s (knows v s).number
  other x some most = subst (λ (u : Known). x ≢ name_of s u.number) (sym is_known) (not_own c a.sound s low is_on_known x some most)

  -- the time at which a fact has a transaction committed
  pub stamped_at : (time x : ℕ) → IsFact v.limits (shown v.limits words) (CommitAt time (x % 16) (x / 16)) → (entry (shown v.limits words).states x ≡ time + 1) × (time ≤ (shown v.limits words).clock) × (0 < time)
  stamped_at time x f = let few = a.sound.sized.sessions.1 in let is : (shown v.limits words).log time ≡ x = f.3 ∙ (omega arith) in
      (ap (entry (shown v.limits words).states) (sym is) ∙ (a.sound.times.named time f.0 f.1).state, f.1, f.0)

  -- an unfinished version's transaction isn't early
  pub unfinished_late : (about tail x : ℕ) → x % 16 < v.limits.sessions → Contains (knows v s).finds (UnfinishedVersion about tail (x % 16) (x / 16) ((knows v s).begin + 1)) → is_early (knows v s) x ≡ false
  unfinished_late about tail x in_range h = let w : Words = shown v.limits words in let b : ℕ = (knows v s).begin in
      let find = (a.sound.found s low).each (UnfinishedVersion about tail (x % 16) (x / 16) (b + 1)) (subst (λ (u : Known). Contains u.finds (UnfinishedVersion about tail (x % 16) (x / 16) (b + 1))) is_known h) in
      let none = find.2 (omega arith) in
      is_false (is_early (knows v s) x) (λ e. let q = until_says b (entry w.states x) (sym (state_tells x in_range) ∙ e) in let some = q.0 in let most = q.1 in let high = none.0 in let t : ℕ = entry w.states x - 1 in
      none.1 t (omega arith) (omega arith) (a.sound.times.found (x % 16) (x / 16) t in_range (omega arith) (omega arith) (omega arith)))

pub states_tell : StatesTell
states_tell v s x hosted is_on in_range words known merger a = state_tells v words known merger a s hosted is_on x in_range

pub statuses_tell : StatusesTell
statuses_tell v s x p hosted is_on in_range = let a = p.allowed in let w : Words = shown v.limits p.words in let b : ℕ = (knows v s).begin in
    let tell = state_tells v p.words p.known p.merger a s hosted is_on x in_range in
    let fact : (f : Fact) → Contains (knows v s).facts f → IsFact v.limits w f = is_fact v p.words p.known p.merger a s hosted in record {
      closed = λ h. let f = (fact (StateAt (x % 16) (x / 16) 1) h).1 in (tell ∙ until_not b (entry w.states x) (λ z. omega arith), other v p.words p.known p.merger a s hosted is_on x (omega arith) (omega arith));
      committed = λ time some h. let f = (fact (StateAt (x % 16) (x / 16) (time + 1)) h).1 in tell ∙ (ap (is_until b) f ∙ until_time b time some);
      stamped = λ time h. let f = stamped_at v p.words p.known p.merger a s hosted is_on time x (fact (CommitAt time (x % 16) (x / 16)) h) in let is = f.0 in let low = f.1 in let some = f.2 in
          (tell ∙ (ap (is_until b) is ∙ until_time b time some), other v p.words p.known p.merger a s hosted is_on x (omega arith) (omega arith));
      unfinished = λ about tail h. unfinished_late v p.words p.known p.merger a s hosted is_on about tail x in_range h;
    }
