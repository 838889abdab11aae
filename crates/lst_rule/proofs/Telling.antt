-- The numbers of a seat are its view's, after a step too.
use Rattle.std.proofs.Common.{◌≤◌, ◌≡◌, ◌≢◌, ℕ, ◌<◌, ◌^◌, List, true, get_or, set, sym, subst, ap, ◌∙◌, arith, length-set, get_or-set_other, get_or-set_same, length}
use Rattle.std.specs.Prelude.{◌+◌, MatchOption, Option, None, Some}
use Rattle.lst_bits.specs.Numbers.{number_word}
use mathlib.Core.Logic.{dite}
use native.Mathlib.Decide.{ℕ_discrete}
use Rattle.std.proofs.lemmas.List.{get_or_default}
use Rattle.lst_layout.specs.Addresses as layout
use Rattle.lst_layout.specs.Limits.{IsValid}
use Rattle.lst_layout.specs.Words.{shown}
use Rattle.lst_core_state.specs.declared.known.Known.{Known}
use Rattle.lst_core_state.specs.declared.events.Event.{Event}
use Rattle.lst_core_state.specs.State.{newcomer, history_of}
use Rattle.lst_core_state.specs.Step.{session_of, IsWithin, Enabled}
use Rattle.lst_core_state.proofs.Histories.{starts_length}
use Rattle.lst_core_state.specs.declared.numbers.Numbers.{Numbers}
use Rattle.lst_core_state.specs.Numbers.{numbers_of, place_for}
use Rattle.lst_core_state.specs.Bounds.{IsWritable}
use Rattle.lst_core_state.specs.State.{state_over}
use Rattle.lst_rule.specs.declared.actions.Action.{Action}
use Rattle.lst_rule.specs.declared.actions.Action.TheVariants.{Core}
use Rattle.lst_rule.specs.declared.view.View.{View}
use Rattle.lst_rule.specs.Actions.{actor, known_after_action}
use Rattle.lst_rule.specs.Rule.{knows, hosts, view_after, Told}
use Rattle.lst_rule.specs.Learned.{Possible}
use Rattle.lst_rule.proofs.Enabling.{allowed_steps}
use Rattle.lst_rule.proofs.Knowing.{knows_own, is_seen, clock_is}
use Rattle.lst_rule.proofs.Learning.{possible_after}
use Rattle.lst_rule.proofs.Bounded.{writable, numbers_few}
use Rattle.lst_rule.specs.Seats.{Tells, told}

-- the numbers after a step
pub tells_after : (v w : View) (numbers : List Numbers) (a : Action) (i x s : ℕ) (n : Numbers) → Tells v numbers → actor v.limits a ≡ s → hosts v s ≡ true → (t : Told a i x v w)
    → numbers_of (known_after_action v.limits (shown v.limits t.words) (knows v (actor v.limits a)) a) ≡ n → Tells w (set numbers s n)
tells_after v w numbers a i x s n tells session hosted t becomes = record {
  possible = possible_after v w a i x t;
  all = λ r h. let g = tells.all r (same_hosts r h) in let q = length-set numbers s n in omega arith;
  is = λ r h. dite (ℕ_discrete r s)
      (λ f. subst (λ (z : ℕ). get_or (set numbers s n) z (told w z) ≡ told w z) (sym f) (get_or-set_same numbers s n (told w s) (tells.all s hosted) ∙ sym here))
      (λ other. get_or-set_other numbers s r n (told w r) other ∙ subst (λ (u : Numbers). get_or numbers r u ≡ u) (sym (else r other)) (tells.is r (same_hosts r h)));
}
  where
    same_hosts : (r : ℕ) → hosts w r ≡ true → hosts v r ≡ true
    same_hosts r h = sym (ap (λ (u : View). hosts u r) t.now) ∙ h

    k : ℕ
    k = actor v.limits a

    low : s < length v.known
    low = let h = t.allowed.low s hosted in let b = t.allowed.sized in omega arith

    here : told w s ≡ n
    here = ap (λ (u : View). told u s) t.now ∙ (subst (λ (z : ℕ). told (view_after a i x t.words v) z ≡ n) session
        (ap numbers_of (get_or-set_same v.known k (known_after_action v.limits (shown v.limits t.words) (knows v k) a) (newcomer v.limits) (let h = low in let b = session in omega arith)) ∙ becomes))

    else : (r : ℕ) → r ≢ s → told w r ≡ told v r
    else r other = ap (λ (u : View). told u r) t.now ∙ ap numbers_of (get_or-set_other v.known k r (known_after_action v.limits (shown v.limits t.words) (knows v k) a) (newcomer v.limits) (λ f. other (f ∙ session)))

-- the same where the numbers stay
pub tells_still : (v w : View) (numbers : List Numbers) (a : Action) (i x s : ℕ) → Tells v numbers → actor v.limits a ≡ s → hosts v s ≡ true → (t : Told a i x v w)
    → numbers_of (known_after_action v.limits (shown v.limits t.words) (knows v (actor v.limits a)) a) ≡ numbers_of (knows v (actor v.limits a)) → Tells w numbers
tells_still v w numbers a i x s tells session hosted t stays = record {
  possible = possible_after v w a i x t;
  all = λ r h. tells.all r (same_hosts r h);
  is = λ r h. subst (λ (u : Numbers). get_or numbers r u ≡ u) (sym (same r)) (tells.is r (same_hosts r h));
}
  where
    same_hosts : (r : ℕ) → hosts w r ≡ true → hosts v r ≡ true
    same_hosts r h = sym (ap (λ (u : View). hosts u r) t.now) ∙ h

    k : ℕ
    k = actor v.limits a

    low : k < length v.known
    low = let h = t.allowed.low s hosted in let b = t.allowed.sized in let c = session in omega arith

    same : (r : ℕ) → told w r ≡ told v r
    same r = ap (λ (u : View). told u r) t.now ∙ dite (ℕ_discrete r k)
        (λ f. subst (λ (z : ℕ). told (view_after a i x t.words v) z ≡ told v z) (sym f) (ap numbers_of (get_or-set_same v.known k (known_after_action v.limits (shown v.limits t.words) (knows v k) a) (newcomer v.limits) low) ∙ stays))
        (λ other. ap numbers_of (get_or-set_other v.known k r (known_after_action v.limits (shown v.limits t.words) (knows v k) a) (newcomer v.limits) other))

-- what a session may do that the seat hosts
pub record MayStep (v : View) (n : Numbers) (e : Event) : Type 0 where
  pub valid : IsValid v.limits
  pub place : layout.IsWithin v.limits (place_for v.limits n e)
  pub writable : IsWritable v.limits n e

pub may_step : (v : View) (s : ℕ) (e : Event) → Possible v → hosts v s ≡ true → s < v.limits.sessions → session_of e ≡ s → IsWithin v.limits e → Enabled v.limits (knows v s) e → MayStep v (told v s) e
may_step v s e p hosted low session within ok = record {
  valid = p.allowed.sound.sized;
  place = subst (λ (k : ℕ). layout.IsWithin v.limits (place_for v.limits (told v k) e)) session
      (allowed_steps v (Core e) p.words p.known p.merger p.allowed (subst (λ (k : ℕ). hosts v k ≡ true) (sym session) hosted) within (subst (λ (k : ℕ). Enabled v.limits (knows v k) e) (sym session) ok)).within;
  writable = let same = knows_own v p.words p.known p.merger p.allowed s hosted (λ f. omega arith) in subst (λ (u : Known). IsWritable v.limits (numbers_of u) e) (sym same)
      (writable (state_over v.limits p.words p.known p.merger) p.allowed.sound s low e within (subst (λ (u : Known). Enabled v.limits u e) same ok));
}

-- the numbers that the program reads are the session's
pub reads : (v u : View) (numbers : List Numbers) (s : ℕ) (n : Numbers) → v ≡ u → Tells v numbers → n ≡ get_or numbers s n → hosts u s ≡ true → n ≡ told u s
reads v u numbers s n same tells read hosted = let t : Tells u numbers = subst (λ (z : View). Tells z numbers) same tells in read ∙ (get_or_default numbers s n (told u s) (t.all s hosted) ∙ t.is s hosted)

-- a pin's word, by what it unpacks to
pub pin_is : (pin : Option ℕ) (word : ℕ) → number_word pin ≡ word → MatchOption pin (word ≡ 0) (λ epoch. word ≡ epoch + 1)
pin_is None word is = sym is
pin_is (Some epoch) word is = sym is

pub reads_step : (v u : View) (numbers : List Numbers) (s : ℕ) (n : Numbers) (e : Event) → v ≡ u → Tells v numbers → n ≡ get_or numbers s n → hosts u s ≡ true → s < u.limits.sessions → session_of e ≡ s → IsWithin u.limits e → Enabled u.limits (knows u s) e
    → MayStep u n e
reads_step v u numbers s n e same tells read hosted low session within ok = subst (λ (m : Numbers). MayStep u m e) (sym (reads v u numbers s n same tells read hosted)) (may_step u s e (subst Possible same tells.possible) hosted low session within ok)

-- a session's number is within the limit
pub number_few : (v u : View) (numbers : List Numbers) (s : ℕ) (n : Numbers) → v ≡ u → Tells v numbers → n ≡ get_or numbers s n → hosts u s ≡ true → s < u.limits.sessions → n.number ≤ u.limits.txns
number_few v u numbers s n same tells read hosted low = let p : Possible u = subst Possible same tells.possible in let is = knows_own u p.words p.known p.merger p.allowed s hosted (λ f. omega arith) in
    let h = (numbers_few (state_over u.limits p.words p.known p.merger) p.allowed.sound s low).0 in let a = ap (λ (m : Numbers). m.number) (reads v u numbers s n same tells read hosted) in let b = ap (λ (k : Known). k.number) is in omega arith

-- as many commits as a session has seen fit 32 bits
pub seen_few : (v u : View) (numbers : List Numbers) (s : ℕ) (n : Numbers) → v ≡ u → Tells v numbers → n ≡ get_or numbers s n → hosts u s ≡ true → n.seen < 2 ^ 32
seen_few v u numbers s n same tells read hosted = let p : Possible u = subst Possible same tells.possible in let h = is_seen u p.words p.known p.merger p.allowed s hosted in let c = clock_is u p.words p.known p.merger p.allowed in
    let low = starts_length (history_of u.limits (shown u.limits p.words)) (knows u s).seen h in let a = ap (λ (m : Numbers). m.seen) (reads v u numbers s n same tells read hosted) in let e = c.0 in let few = c.1 in omega arith
