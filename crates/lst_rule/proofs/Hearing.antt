-- All that a seat hosts hear its note, and the rule is kept.
use Rattle.std.proofs.Common.{◌≡◌, ◌≢◌, ℕ, zero, suc, ◌<◌, ◌≤◌, List, [], ◌++◌, Bool, true, false, cond, nat_lt, take, drop, length, set, refl, sym, subst, ap, ◌∙◌, arith, true≢false, ⊎_elim, lt-ltb, le-ltb, ltb-true, append-nil}
use mathlib.Core.Logic.{dite}
use mathlib.Core.Option.{some}
use native.Mathlib.Decide.{ℕ_discrete, dec_lt}
use lib.ListN.{get_elem?}
use Rattle.std.proofs.lemmas.Bool.{cases_Bool}
use Rattle.std.proofs.lemmas.List.{length-map, take-append-drop, take-append-le, get_or-map, set-get_or}
use Rattle.std.proofs.Math.Seq.{take-append_seam}
use Rattle.std.proofs.lemmas.List.Elements.{Contains-append_right}
use Rattle.atomic_table.specs.Table.{State, keeps, Allows}
use Rattle.atomic_table.proofs.Lists.{at_set}
use Rattle.lst_layout.specs.declared.limits.Limits.{Limits}
use Rattle.lst_layout.specs.Functions.{put}
use Rattle.lst_model.specs.declared.commits.Commit.{Commit}
use Rattle.lst_model.specs.Histories.{Extends}
use Rattle.lst_core_state.specs.declared.facts.Fact.{Fact}
use Rattle.lst_core_state.specs.declared.known.Known.{Known}
use Rattle.lst_core_state.specs.State.{Core, newcomer, history_of, state_over}
use Rattle.lst_core_state.specs.Step.{known_of}
use Rattle.lst_core_state.specs.Sound.{Sound, FactsOf, SeenIsRecorded}
use Rattle.lst_core_state.specs.Laws.{MayHear}
use Rattle.lst_core_state.proofs.Functions.{put_here, put_else, either}
use Rattle.lst_core_state.proofs.RecordedPart.{grows_by, seen_on}
use Rattle.lst_core_state.proofs.Statements.{seen_may_grow, merger_may_grow}
use Rattle.lst_pages.specs.Known.{PagesSound}
use Rattle.lst_pages.specs.Settled.{settled_tails}
use Rattle.lst_pages.specs.StateLaws.{LeavesPages}
use Rattle.lst_pages.proofs.Leaving.{pages_are_left}
use Rattle.lst_rule.specs.declared.view.View.{View}
use Rattle.lst_rule.specs.Rule.{knows, hosts, Fits, Ruled, Sat}
use Rattle.lst_rule.specs.Joins.{longer, hears, hearing, Heard}
use Rattle.lst_rule.proofs.Afters.{known_own, known_merger}
use Rattle.lst_rule.proofs.Allowing.{allowed}

-- ---- the longer of two fronts

-- of two fronts of one list, the longer one extends the other
pub front_on : (all a b : List Commit) → Extends all a → Extends all b → length a ≤ length b → Extends b a
front_on all a b h k low = let m = length a in let e : take m b ≡ a = sym (take-append-le m b k.0 low) ∙ (ap (take m) (sym k.1) ∙ (ap (take m) h.1 ∙ take-append_seam a h.0)) in
    (drop m b, sym (take-append-drop m b) ∙ ap (λ (l : List Commit). l ++ drop m b) e)

-- the longer of two fronts is a front, and extends both
pub record IsLonger (all a b c : List Commit) : Type 0 where
  pub front : Extends all c
  pub first : Extends c a
  pub second : Extends c b

pub longer_is : (all a b : List Commit) → Extends all a → Extends all b → IsLonger all a b (longer a b)
longer_is all a b h k = either (IsLonger all a b) (nat_lt (length a) (length b)) b a
    (λ e. record { front = k; first = front_on all a b h k (let d = ltb-true (length a) (length b) e in omega arith); second = ([], sym (append-nil b)) })
    (λ e. record { front = h; first = ([], sym (append-nil a)); second = front_on all b a k h (dite (dec_lt (length a) (length b)) (λ d. absurd (true≢false (sym (lt-ltb (length a) (length b) d) ∙ e))) (λ d. grind (arith, d))) })

pub length-longer : (a b : List Commit) → length (longer a b) ≡ cond (nat_lt (length a) (length b)) (length b) (length a)
length-longer a b = chosen (nat_lt (length a) (length b))
  where
    chosen : (x : Bool) → length (cond x b a) ≡ cond x (length b) (length a)
    chosen true = refl
    chosen false = refl

-- facts of both have the record of each key of the longer one
longer_recorded : (fs gs : List Fact) (a b : List Commit) → SeenIsRecorded fs a → SeenIsRecorded gs b → SeenIsRecorded (fs ++ gs) (longer a b)
longer_recorded fs gs a b h k = either (SeenIsRecorded (fs ++ gs)) (nat_lt (length a) (length b)) b a (λ _. seen_on gs (fs ++ gs) (λ f i. Contains-append_right fs gs f i) b k) (λ _. seen_on fs (fs ++ gs) (grows_by fs gs) a h)

-- ---- all that a seat hosts hear a note

module _ (c : Core) (sound : Sound c) (who : ℕ → Bool) (note : List Commit) (more : List Fact) (told : Extends (history_of c.limits c.words) note) (facts : FactsOf c.limits c.words more) (keys : SeenIsRecorded more note) where
  abbrev H : List Commit
  H = history_of c.limits c.words

  may_hear : (known : ℕ → Known) (v : Known) → Extends H v.seen → SeenIsRecorded v.facts v.seen → MayHear (record c { known = known }) v (longer v.seen note) more
  may_hear known v seen recorded = let l = longer_is H v.seen note seen told in record { prefix = l.front; longer = l.first; facts = facts; keys = longer_recorded v.facts more v.seen note recorded keys }

  -- those of the sessions below k that hear
  abbrev pub grown : ℕ → ℕ → Known
  grown k t = cond (nat_lt t k) (cond (who t) (hears note more (c.known t)) (c.known t)) (c.known t)

  grown_above : (k t : ℕ) → k ≤ t → grown k t ≡ c.known t
  grown_above k t low = ap (λ (b : Bool). cond b (cond (who t) (hears note more (c.known t)) (c.known t)) (c.known t)) (le-ltb t k low)

  grown_below : (k t : ℕ) → t < k → grown k t ≡ cond (who t) (hears note more (c.known t)) (c.known t)
  grown_below k t low = ap (λ (b : Bool). cond b (cond (who t) (hears note more (c.known t)) (c.known t)) (c.known t)) (lt-ltb t k low)

  grown_next : (k t : ℕ) → put (grown k) k (cond (who k) (hears note more (c.known k)) (c.known k)) t ≡ grown (suc k) t
  grown_next k t = dite (ℕ_discrete t k)
      (λ e. subst (λ (z : ℕ). put (grown k) k (cond (who k) (hears note more (c.known k)) (c.known k)) z ≡ grown (suc k) z) (sym e)
      (put_here (grown k) k (cond (who k) (hears note more (c.known k)) (c.known k)) ∙ sym (grown_below (suc k) k (omega arith))))
      (λ ne. put_else (grown k) k (cond (who k) (hears note more (c.known k)) (c.known k)) t ne
      ∙ dite (dec_lt t k) (λ d. grown_below k t d ∙ sym (grown_below (suc k) t (omega arith))) (λ d. grown_above k t (grind (arith, d)) ∙ sym (grown_above (suc k) t (grind (arith, d, ne)))))

  abbrev Grown : (ℕ → Known) → Type 0
  Grown known = Sound (record c { known = known })

  grown_sound : (k : ℕ) → k ≤ c.limits.sessions → Grown (grown k)
  grown_sound zero low = subst Grown (λ i t. sym (grown_above zero t (omega arith)) i) sound
  grown_sound (suc k) low = let before : Grown (grown k) = grown_sound k (omega arith) in let here : k < c.limits.sessions = omega arith in
      subst Grown (λ i t. grown_next k t i) (either (λ (u : Known). Grown (put (grown k) k u)) (who k) (hears note more (c.known k)) (c.known k)
      (λ _. subst (λ (u : Known). Grown (put (grown k) k u)) (ap (hears note more) (grown_above k k (omega arith)))
      (seen_may_grow (record c { known = grown k }) before k here (longer (grown k k).seen note) more (subst (λ (u : Known). MayHear (record c { known = grown k }) u (longer u.seen note) more) (sym (grown_above k k (omega arith))) (may_hear (grown k) (c.known k) (sound.views k here).prefix (sound.recorded k here).seen_keys))))
      (λ _. subst Grown (λ i t. sym (same k t) i) before))
    where
      same : (k t : ℕ) → put (grown k) k (c.known k) t ≡ grown k t
      same k t = dite (ℕ_discrete t k) (λ e. subst (λ (z : ℕ). put (grown k) k (c.known k) z ≡ grown k z) (sym e) (put_here (grown k) k (c.known k) ∙ sym (grown_above k k (omega arith)))) (λ ne. put_else (grown k) k (c.known k) t ne)

  -- what all know then
  abbrev pub heard_known : ℕ → Known
  heard_known = grown c.limits.sessions

  abbrev pub heard_merger : Known
  heard_merger = cond (who c.limits.sessions) (hears note more c.merger) c.merger

  abbrev pub heard_core : Core
  heard_core = record c { known = heard_known; merger = heard_merger }

  pub all_hear : Sound heard_core
  all_hear = let d : Core = record c { known = heard_known } in let sessions : Sound d = grown_sound c.limits.sessions (omega arith) in
      either (λ (u : Known). Sound (record d { merger = u })) (who c.limits.sessions) (hears note more c.merger) c.merger
      (λ _. merger_may_grow d sessions (longer c.merger.seen note) more (may_hear heard_known c.merger sound.merger_seen sound.merger_recorded)) (λ _. sessions)

  -- nobody learns anything of pages
  heard_leaves : LeavesPages c heard_core
  heard_leaves = record {
    limits = refl;
    words = record { epoch = refl; directory = refl; frames = refl; pins = refl };
    tails = λ range. ([], sym (append-nil (settled_tails c.limits c.words range)));
    known = λ t. either (λ (u : Known). u.pages ≡ (c.known t).pages) (nat_lt t c.limits.sessions) (cond (who t) (hears note more (c.known t)) (c.known t)) (c.known t)
        (λ _. either (λ (u : Known). u.pages ≡ (c.known t).pages) (who t) (hears note more (c.known t)) (c.known t) (λ _. refl) (λ _. refl)) (λ _. refl);
    merger = either (λ (u : Known). u.pages ≡ c.merger.pages) (who c.limits.sessions) (hears note more c.merger) c.merger (λ _. refl) (λ _. refl);
  }

  pub pages_hear : PagesSound c → PagesSound heard_core
  pages_hear = pages_are_left c heard_core heard_leaves

  pub heard_here : (t : ℕ) → t ≤ c.limits.sessions → who t ≡ true → known_of heard_core t ≡ hears note more (known_of c t)
  heard_here t low on = dite (ℕ_discrete t c.limits.sessions)
      (λ is. known_merger heard_core t is ∙ (ap (λ (b : Bool). cond b (hears note more c.merger) c.merger) (ap who (sym is) ∙ on) ∙ ap (hears note more) (sym (known_merger c t is))))
      (λ ne. known_own heard_core t ne ∙ (grown_below c.limits.sessions t (omega arith) ∙ (ap (λ (b : Bool). cond b (hears note more (c.known t)) (c.known t)) on ∙ ap (hears note more) (sym (known_own c t ne)))))

  pub heard_else : (t : ℕ) → t ≤ c.limits.sessions → who t ≡ false → known_of heard_core t ≡ known_of c t
  heard_else t low off = dite (ℕ_discrete t c.limits.sessions)
      (λ is. known_merger heard_core t is ∙ (ap (λ (b : Bool). cond b (hears note more c.merger) c.merger) (ap who (sym is) ∙ off) ∙ sym (known_merger c t is)))
      (λ ne. known_own heard_core t ne ∙ (grown_below c.limits.sessions t (omega arith) ∙ (ap (λ (b : Bool). cond b (hears note more (c.known t)) (c.known t)) off ∙ sym (known_own c t ne))))

-- what a session knows then
pub knows_hearing : (v : View) (t : ℕ) → t < length v.known → knows (hearing v) t ≡ hears v.note v.note_facts (knows v t)
knows_hearing v t low = get_or-map (hears v.note v.note_facts) v.known t (newcomer v.limits) (newcomer v.limits) low

-- ---- the load at which a note is heard

module _ (s : State (Unit {0}) View) (id : ℕ) (v : View) (r : Ruled v.limits s) (at : get_elem? s.views id ≡ some v) where
  abbrev c₀ : Core
  c₀ = state_over v.limits s.words r.known r.merger

  fit : Fits s.words c₀ r.owner id v
  fit = r.each id v at

  abbrev d₀ : Core
  d₀ = heard_core c₀ r.sound (hosts v) v.note v.note_facts fit.told fit.told_facts fit.told_keys

  abbrev pub w₀ : View
  w₀ = hearing v

  mine : Fits s.words d₀ r.owner id w₀
  mine = record {
    limits = refl;
    sized = length-map v.known (hears v.note v.note_facts) ∙ fit.sized;
    low = fit.low;
    owns = fit.owns;
    knew = λ t h. let low = fit.low t h in knows_hearing v t (let e = fit.sized in omega arith) ∙ (ap (hears v.note v.note_facts) (fit.knew t h) ∙ sym (heard_here c₀ r.sound (hosts v) v.note v.note_facts fit.told fit.told_facts fit.told_keys t low h));
    told = fit.told;
    told_facts = fit.told_facts;
    told_keys = fit.told_keys;
    whole = fit.whole;
    all = fit.all;
  }

  others : (j : ℕ) (u : View) → j ≢ id → Fits s.words c₀ r.owner j u → Fits s.words d₀ r.owner j u
  others j u ne f = record {
    limits = f.limits;
    sized = f.sized;
    low = f.low;
    owns = f.owns;
    knew = λ t h. f.knew t h ∙ sym (heard_else c₀ r.sound (hosts v) v.note v.note_facts fit.told fit.told_facts fit.told_keys t (f.low t h)
        (⊎_elim (λ (e : hosts v t ≡ true). absurd (ne (sym (f.owns t h) ∙ fit.owns t e))) (λ (e : hosts v t ≡ false). e) (cases_Bool (hosts v t))));
    told = f.told;
    told_facts = f.told_facts;
    told_keys = f.told_keys;
    whole = f.whole;
    all = f.all;
  }

  sound_then : Sound d₀
  sound_then = all_hear c₀ r.sound (hosts v) v.note v.note_facts fit.told fit.told_facts fit.told_keys

  pages_then : PagesSound d₀
  pages_then = pages_hear c₀ r.sound (hosts v) v.note v.note_facts fit.told fit.told_facts fit.told_keys r.pages

  ruled_then : Ruled v.limits record { words = s.words; homes = s.homes; views = set s.views id w₀ }
  ruled_then = record {
    known = d₀.known;
    merger = d₀.merger;
    owner = r.owner;
    wide = r.wide;
    sound = sound_then;
    pages = pages_then;
    each = λ j u e. ⊎_elim (λ (t : (j ≡ id) × (w₀ ≡ u)). subst (λ (z : ℕ × View). Fits s.words d₀ r.owner z.0 z.1) (λ k. (sym t.0 k, t.1 k)) mine)
        (λ (t : (j ≢ id) × (get_elem? s.views j ≡ some u)). others j u t.0 (r.each j u t.1)) (at_set s.views id j w₀ u e);
  }

  heard_then : Heard v w₀
  heard_then = record {
    before = record { words = s.words; known = r.known; merger = r.merger; allowed = allowed s.words r.known r.merger r.owner id v r.wide r.sound r.pages fit };
    now = refl;
    after = record { words = s.words; known = d₀.known; merger = d₀.merger; allowed = allowed s.words d₀.known d₀.merger r.owner id w₀ r.wide sound_then pages_then mine };
  }

pub hears_allows : (l : Limits) (slots id : ℕ) (m : Sat) (i : ℕ) → Allows (Ruled l) slots id m i (λ x. x) (λ x n. Heard m.0 n.0 × (n.1 ≡ m.1))
hears_allows l slots id m i s r₀ deep at small = let is : m.0.limits ≡ l = (r₀.each id m.0 at).limits in let r : Ruled m.0.limits s = subst (λ (z : Limits). Ruled z s) (sym is) r₀ in (
  hearing m.0,
  keeps,
  tt,
  subst (λ (z : Limits × List ℕ). Ruled z.0 record { words = z.1; homes = s.homes; views = set s.views id (hearing m.0) }) (λ k. (is k, sym (set-get_or s.words i 0) k)) (ruled_then s id m.0 r at),
  (heard_then s id m.0 r at, refl),
)
