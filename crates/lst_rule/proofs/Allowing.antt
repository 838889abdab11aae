-- A step that may be made keeps the rule. One lemma for every kind of step, of the core and on pages.
use Rattle.std.proofs.Common.{length, ◌≡◌, ◌≢◌, ℕ, ◌<◌, List, true, get_or, set, sym, refl, ap, ◌∙◌, subst, ⊎_elim, arith, length-set, get_or-set_other, get_or-set_same, slice_index}
use mathlib.Core.Logic.{dite}
use mathlib.Core.Option.{some}
use native.Mathlib.Decide.{ℕ_discrete}
use lib.ListN.{get_elem?}
use Rattle.atomic_table.specs.Table.{State, Me, keeps, Allows}
use Rattle.atomic_table.proofs.Lists.{at_set}
use Rattle.lst_layout.specs.declared.limits.Limits.{Limits}
use Rattle.lst_layout.specs.Areas.{words_of}
use Rattle.lst_layout.specs.Words.{shown}
use Rattle.lst_model.specs.declared.commits.Commit.{Commit}
use Rattle.lst_model.specs.Histories.{Extends}
use Rattle.lst_core_state.specs.declared.known.Known.{Known}
use Rattle.lst_core_state.specs.declared.facts.Fact.{Fact}
use Rattle.lst_core_state.specs.State.{Words, Core, newcomer, history_of}
use Rattle.lst_core_state.specs.Step.{known_of}
use Rattle.lst_core_state.specs.Facts.{IsFact}
use Rattle.lst_core_state.specs.Sound.{FactsOf, Sound}
use Rattle.lst_core_state.specs.State.{state_over}
use Rattle.lst_pages.specs.Known.{PagesSound}
use Rattle.lst_rule.specs.declared.actions.Action.{Action}
use Rattle.lst_rule.specs.declared.actions.Action.TheVariants as action
use Rattle.lst_rule.specs.declared.view.View.{View}
use Rattle.lst_rule.specs.Rule.{knows, hosts, Fits, Ruled, view_after, Allowed, Makes, Ready, Told}
use Rattle.lst_rule.specs.Actions.{actor, IsActionWithin, ActionEnabled, ActionStands, IsActionEnabled, words_after_action, known_after_action, after_action}
use Rattle.lst_rule.proofs.Leading.{Leads, leads}

pub allowed : (words : List ℕ) (known : ℕ → Known) (merger : Known) (owner : ℕ → ℕ) (id : ℕ) (v : View) → length words ≡ words_of v.limits → Sound (state_over v.limits words known merger) → PagesSound (state_over v.limits words known merger)
    → Fits words (state_over v.limits words known merger) owner id v → Allowed v words known merger
allowed words known merger owner id v wide sound pages fit = record {
  wide = wide;
  sound = sound;
  pages = pages;
  sized = fit.sized;
  low = fit.low;
  knew = fit.knew;
  told = fit.told;
  told_facts = fit.told_facts;
  told_keys = fit.told_keys;
  whole = fit.whole;
  all = fit.all;
}

-- the two conditions are those of the state
both : (c : Core) (u : Known) (a : Action) → u ≡ known_of c (actor c.limits a) → ActionEnabled c.limits u a → ActionStands c.limits c.words u a → IsActionEnabled c a
both c u (action.Core e) same ok stands = (subst (λ (k : Known). ActionEnabled c.limits k (action.Core e)) same ok, subst (λ (k : Known). ActionStands c.limits c.words k (action.Core e)) same stands)
both c u (action.Page e) same ok stands = (subst (λ (k : Known). ActionEnabled c.limits k (action.Page e)) same ok, subst (λ (k : Known). ActionStands c.limits c.words k (action.Page e)) same stands)

module _ (s : State (Unit {0}) View) (id : ℕ) (v : View) (r : Ruled v.limits s) (at : get_elem? s.views id ≡ some v) (a : Action) (i x : ℕ) (hosted : hosts v (actor v.limits a) ≡ true) (within : IsActionWithin v.limits a)
    (enabled : ActionEnabled v.limits (knows v (actor v.limits a)) a) (stands : ActionStands v.limits (shown v.limits s.words) (knows v (actor v.limits a)) a)
    (shows : shown v.limits (set s.words i x) ≡ words_after_action v.limits (shown v.limits s.words) (knows v (actor v.limits a)) a) where
  abbrev L : Limits
  L = v.limits

  abbrev W : Words
  W = shown L s.words

  abbrev c : Core
  c = state_over L s.words r.known r.merger

  abbrev d : Core
  d = after_action c a

  abbrev k : ℕ
  k = actor L a

  abbrev next : Known
  next = known_after_action L W (knows v k) a

  -- the state after, with the words after
  abbrev c' : Core
  c' = state_over L (set s.words i x) d.known d.merger

  fit : Fits s.words c r.owner id v
  fit = r.each id v at

  same : known_of c k ≡ knows v k
  same = sym (fit.knew k hosted)

  able : IsActionEnabled c a
  able = both c (knows v k) a (sym same) enabled stands

  step : Leads c a k d
  step = leads c r.sound r.pages a within able

  made : c' ≡ d
  made = let q : shown L (set s.words i x) ≡ d.words = shows ∙ (ap (λ (u : Known). words_after_action L W u a) (sym same) ∙ sym step.words) in
      λ i. record { limits = sym step.limits i; words = q i; known = d.known; merger = d.merger }

  sound_after : Sound c'
  sound_after = subst Sound (sym made) step.sound

  pages_after : PagesSound c'
  pages_after = subst PagesSound (sym made) step.pages

  grown : (front : List Commit) → Extends (history_of L W) front → Extends (history_of L (shown L (set s.words i x))) front
  grown front h = subst (λ (z : Core). Extends (history_of z.limits z.words) front) (sym made) (step.history front h)

  stayed : (facts : List Fact) → FactsOf L W facts → FactsOf L (shown L (set s.words i x)) facts
  stayed facts h f has = subst (λ (z : Core). IsFact z.limits z.words f) (sym made) (step.facts f (h f has))

  here : next ≡ known_of c' k
  here = sym (ap (λ (z : Core). known_of z k) made ∙ (step.here ∙ ap (λ (u : Known). known_after_action L W u a) same))

  there : (j : ℕ) → j ≢ k → known_of c j ≡ known_of c' j
  there j other = sym (ap (λ (z : Core). known_of z j) made ∙ step.else j other)

  low : k < length v.known
  low = let f = fit.low k hosted in let b = fit.sized in omega arith

  mine : Fits (set s.words i x) c' r.owner id (view_after a i x s.words v)
  mine = record {
    limits = refl;
    sized = length-set v.known k next ∙ fit.sized;
    low = fit.low;
    owns = fit.owns;
    knew = λ t h. dite (ℕ_discrete t k)
        (λ f. subst (λ (z : ℕ). get_or (set v.known k next) z (newcomer L) ≡ known_of c' z) (sym f) (get_or-set_same v.known k next (newcomer L) low ∙ here))
        (λ other. get_or-set_other v.known k t next (newcomer L) other ∙ (fit.knew t h ∙ there t other));
    told = grown v.note fit.told;
    told_facts = stayed v.note_facts fit.told_facts;
    told_keys = fit.told_keys;
    whole = λ h. ap (λ ws. set ws i x) (fit.whole h);
    all = fit.all;
  }

  others : (j : ℕ) (u : View) → j ≢ id → Fits s.words c r.owner j u → Fits (set s.words i x) c' r.owner j u
  others j u other f = let apart : ¬ (hosts u k ≡ true) = λ h. other (sym (f.owns k h) ∙ fit.owns k hosted) in record {
    limits = f.limits;
    sized = f.sized;
    low = f.low;
    owns = f.owns;
    knew = λ t h. f.knew t h ∙ there t (λ g. apart (subst (λ (z : ℕ). hosts u z ≡ true) g h));
    told = grown u.note f.told;
    told_facts = stayed u.note_facts f.told_facts;
    told_keys = f.told_keys;
    whole = λ h. absurd (apart (f.all h k (fit.low k hosted)));
    all = f.all;
  }

  -- the view is possible in the new state
  after_allowed : Allowed (view_after a i x s.words v) (set s.words i x) d.known d.merger
  after_allowed = allowed (set s.words i x) d.known d.merger r.owner id (view_after a i x s.words v) (length-set s.words i x ∙ r.wide) sound_after pages_after mine

  ruled_after : Ruled L record { words = set s.words i x; homes = s.homes; views = set s.views id (view_after a i x s.words v) }
  ruled_after = record {
    known = d.known;
    merger = d.merger;
    owner = r.owner;
    wide = length-set s.words i x ∙ r.wide;
    sound = sound_after;
    pages = pages_after;
    each = λ j u is. ⊎_elim (λ (t : (j ≡ id) × (view_after a i x s.words v ≡ u)). subst (λ (z : ℕ × View). Fits (set s.words i x) c' r.owner z.0 z.1) (λ i. (sym t.0 i, t.1 i)) mine)
        (λ (t : (j ≢ id) × (get_elem? s.views j ≡ some u)). others j u t.0 (r.each j u t.1)) (at_set s.views id j (view_after a i x s.words v) u is);
  }

  abbrev tells : Told a i x v (view_after a i x s.words v)
  tells = record {
    words = s.words;
    known = r.known;
    merger = r.merger;
    allowed = allowed s.words r.known r.merger r.owner id v r.wide r.sound r.pages fit;
    within = within;
    enabled = able;
    shows = shows;
    now = refl;
    after = after_allowed;
  }

-- a step that may be made keeps the rule
pub allows : (l : Limits) (slots id : ℕ) (v : View) (c : List (ℕ × Unit {0})) (a : Action) (i : ℕ) (f : ℕ → ℕ) → Ready v a i f
    → Allows (Ruled l) slots id (v, c) i f (λ x n. (t : Told a i (f x) v n.0) × (slice_index t.words i ≡ x) × (n.1 ≡ c))
allows l slots id v c a i f ready s r₀ deep at small = let is : v.limits ≡ l = (r₀.each id v at).limits in let r : Ruled v.limits s = subst (λ (z : Limits). Ruled z s) (sym is) r₀ in
    let q : Makes v a i f s.words = ready.2 s.words r.known r.merger (allowed s.words r.known r.merger r.owner id v r.wide r.sound r.pages (r.each id v at)) in let x : ℕ = f (slice_index s.words i) in (
      view_after a i x s.words v,
      keeps,
      tt,
      subst (λ (z : Limits). Ruled z record { words = set s.words i x; homes = s.homes; views = set s.views id (view_after a i x s.words v) }) is (ruled_after s id v r at a i x ready.0 ready.1 q.0 q.1 q.2),
      (tells s id v r at a i x ready.0 ready.1 q.0 q.1 q.2, refl, refl),
    )

pub allows_store : (l : Limits) (slots id : ℕ) (m : Me (Unit {0}) View) (a : Action) (i x : ℕ) → Ready m.0 a i (λ _. x)
    → Allows (Ruled l) slots id m i (λ _. x) (λ _ n. (t : Told a i x m.0 n.0) × (n.1 ≡ m.1))
allows_store l slots id m a i x ready s r at deep small = let h = allows l slots id m.0 m.1 a i (λ _. x) ready s r at deep small in (h.0, h.1, h.2, h.3, (h.4.0, h.4.2))
