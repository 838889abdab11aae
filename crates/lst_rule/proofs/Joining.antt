-- Two views are joined, and the rule is kept.
use Rattle.std.proofs.Common.{◌≡◌, ◌≢◌, ℕ, zero, suc, ◌+◌, ◌<◌, ◌≤◌, List, [], ◌∷◌, Bool, true, false, cond, ◌&&◌, ◌||◌, length, get_or, set, refl, sym, subst, ap, ◌∙◌, arith, true≢false, ◌⊎◌, ⊎_elim, inl, inr}
use mathlib.Core.Logic.{dite}
use mathlib.Core.Option.{some}
use native.Mathlib.Decide.{dec_lt}
use lib.ListN.{get_elem?, length-replicate}
use Rattle.std.proofs.lemmas.Bool.{cases_Bool}
use Rattle.std.proofs.lemmas.List.{get_or_past}
use Rattle.atomic_table.specs.Table.{Joins}
use Rattle.atomic_table.proofs.Lists.{at_set, set_else}
use Rattle.lst_layout.specs.declared.limits.Limits.{Limits}
use Rattle.lst_core_state.specs.declared.known.Known.{Known}
use Rattle.lst_core_state.specs.State.{Core, newcomer, history_of, state_over}
use Rattle.lst_core_state.specs.Step.{known_of}
use Rattle.lst_rule.specs.declared.view.View.{View}
use Rattle.lst_rule.specs.Rule.{knows, hosts, Fits, Ruled}
use Rattle.lst_rule.specs.Joins.{spent, overlap, united_lists, united}

-- ---- the lists of two seats that are united

overlap_false : (xs ys : List Bool) → ((t : ℕ) → get_or xs t false ≡ true → ¬ (get_or ys t false ≡ true)) → overlap xs ys ≡ false
overlap_false [] ys none = refl
overlap_false (x ∷ xs) [] none = refl
overlap_false (x ∷ xs) (y ∷ ys) none = step x y (none 0) (overlap_false xs ys (λ t. none (suc t)))
  where
    step : (x y : Bool) → (x ≡ true → ¬ (y ≡ true)) → overlap xs ys ≡ false → ((x && y) || overlap xs ys) ≡ false
    step true true apart e = absurd (apart refl refl)
    step true false apart e = e
    step false y apart e = e

pub overlap_apart : (xs ys : List Bool) → overlap xs ys ≡ false → (t : ℕ) → get_or xs t false ≡ true → get_or ys t false ≡ false
overlap_apart [] ys e t h = absurd (true≢false (sym h))
overlap_apart (x ∷ xs) [] e t h = refl
overlap_apart (x ∷ xs) (y ∷ ys) e zero h = first x y e h
  where
    first : (x y : Bool) → ((x && y) || overlap xs ys) ≡ false → x ≡ true → y ≡ false
    first true true e h = absurd (true≢false e)
    first true false e h = refl
    first false y e h = absurd (true≢false (sym h))
overlap_apart (x ∷ xs) (y ∷ ys) e (suc t) h = overlap_apart xs ys (rest x y e) t h
  where
    rest : (x y : Bool) → ((x && y) || overlap xs ys) ≡ false → overlap xs ys ≡ false
    rest true true e = absurd (true≢false e)
    rest true false e = e
    rest false y e = e

module _ {A : Type 0} where
  pub length-united : (bs : List Bool) (xs ys : List A) → length (united_lists bs xs ys) ≡ length xs
  length-united [] xs ys = refl
  length-united (b ∷ bs) [] ys = refl
  length-united (b ∷ bs) (x ∷ xs) [] = refl
  length-united (b ∷ bs) (x ∷ xs) (y ∷ ys) = ap suc (length-united bs xs ys)

  pub united_theirs : (bs : List Bool) (xs ys : List A) (s : ℕ) (d : A) → get_or bs s false ≡ true → s < length xs → s < length ys → get_or (united_lists bs xs ys) s d ≡ get_or ys s d
  united_theirs [] xs ys s d on low low' = absurd (true≢false (sym on))
  united_theirs (b ∷ bs) [] ys s d on low low' = absurd (omega arith)
  united_theirs (b ∷ bs) (x ∷ xs) [] s d on low low' = absurd (omega arith)
  united_theirs (b ∷ bs) (x ∷ xs) (y ∷ ys) zero d on low low' = ap (λ (c : Bool). cond c y x) on
  united_theirs (b ∷ bs) (x ∷ xs) (y ∷ ys) (suc s) d on low low' = united_theirs bs xs ys s d on (omega arith) (omega arith)

  pub united_else : (bs : List Bool) (xs ys : List A) (s : ℕ) (d : A) → get_or bs s false ≡ false → get_or (united_lists bs xs ys) s d ≡ get_or xs s d
  united_else [] xs ys s d off = refl
  united_else (b ∷ bs) [] ys s d off = refl
  united_else (b ∷ bs) (x ∷ xs) [] s d off = refl
  united_else (b ∷ bs) (x ∷ xs) (y ∷ ys) zero d off = ap (λ (c : Bool). cond c y x) off
  united_else (b ∷ bs) (x ∷ xs) (y ∷ ys) (suc s) d off = united_else bs xs ys s d off

-- what is true in a list is within it
pub true_low : (xs : List Bool) (s : ℕ) → get_or xs s false ≡ true → s < length xs
true_low xs s e = dite (dec_lt s (length xs)) (λ h. h) (λ h. absurd (true≢false (sym e ∙ get_or_past xs s false (grind (arith, h)))))

-- who is hosted by the seat that two are united in was hosted by one of them
pub united_from : (xs ys : List Bool) (s : ℕ) → get_or (united_lists ys xs ys) s false ≡ true → (get_or xs s false ≡ true) ⊎ (get_or ys s false ≡ true)
united_from xs ys s h = ⊎_elim (λ (on : get_or ys s false ≡ true). inr on) (λ (off : get_or ys s false ≡ false). inl (sym (united_else ys xs ys s false off) ∙ h)) (cases_Bool (get_or ys s false))

-- who was hosted by one of them is hosted, where the first has a place for it
pub united_both : (xs ys : List Bool) (s : ℕ) → s < length xs → get_or ys s false ≡ true → get_or (united_lists ys xs ys) s false ≡ true
united_both xs ys s low on = united_theirs ys xs ys s false on low (true_low ys s on) ∙ on

pub united_ours : (xs ys : List Bool) (s : ℕ) → get_or xs s false ≡ true → get_or (united_lists ys xs ys) s false ≡ true
united_ours xs ys s h = ⊎_elim (λ (on : get_or ys s false ≡ true). united_both xs ys s (true_low xs s h) on) (λ (off : get_or ys s false ≡ false). united_else ys xs ys s false off ∙ h) (cases_Bool (get_or ys s false))

-- ---- the seat that is joined hosts other sessions

-- what a view knows that two are united in
module _ (v w : View) (apart : overlap v.hosts w.hosts ≡ false) where
  united_is : (united v w).known ≡ united_lists w.hosts v.known w.known
  united_is = ap (λ (b : Bool). cond b [] (united_lists w.hosts v.known w.known)) apart

  pub knows_theirs : v.limits ≡ w.limits → length v.known ≡ length w.known → (t : ℕ) → hosts w t ≡ true → t < length w.known → knows (united v w) t ≡ knows w t
  knows_theirs limits sized t on low = ap (λ (ks : List Known). get_or ks t (newcomer v.limits)) united_is ∙ (united_theirs w.hosts v.known w.known t (newcomer v.limits) on (omega arith) low ∙ ap (λ (l : Limits). get_or w.known t (newcomer l)) limits)

  pub knows_ours : (t : ℕ) → hosts w t ≡ false → knows (united v w) t ≡ knows v t
  knows_ours t off = ap (λ (ks : List Known). get_or ks t (newcomer v.limits)) united_is ∙ united_else w.hosts v.known w.known t (newcomer v.limits) off

-- ---- views that are joined

spent_fits : (words : List ℕ) (c : Core) (owner : ℕ → ℕ) (j : ℕ) → Fits words c owner j (spent c.limits)
spent_fits words c owner j = record {
  limits = refl;
  sized = length-replicate (c.limits.sessions + 1) (newcomer c.limits);
  low = λ s h. absurd (true≢false (sym h));
  owns = λ s h. absurd (true≢false (sym h));
  knew = λ s h. absurd (true≢false (sym h));
  told = (history_of c.limits c.words, refl);
  told_facts = λ f h. absurd (let low : h.0 < 0 = h.1 in omega arith);
  told_keys = λ k. inl refl;
  whole = λ h. absurd (true≢false (sym h));
  all = λ h. absurd (true≢false (sym h));
}

-- after a join each seat is the one that was joined, or the one that took it in, or another
module _ (views : List View) (id other : ℕ) (both gone : View) (P : ℕ → View → Type 0) (at_other : P other gone) (at_id : P id both) (else : (j : ℕ) (u : View) → j ≢ other → j ≢ id → get_elem? views j ≡ some u → P j u) where
  joined_each : (j : ℕ) (u : View) → get_elem? (set (set views id both) other gone) j ≡ some u → P j u
  joined_each j u e = ⊎_elim (λ (t : (j ≡ other) × (gone ≡ u)). subst (λ (z : ℕ × View). P z.0 z.1) (λ i. (sym t.0 i, t.1 i)) at_other)
      (λ (t : (j ≢ other) × (get_elem? (set views id both) j ≡ some u)). ⊎_elim
      (λ (q : (j ≡ id) × (both ≡ u)). subst (λ (z : ℕ × View). P z.0 z.1) (λ i. (sym q.0 i, q.1 i)) at_id)
      (λ (q : (j ≢ id) × (get_elem? views j ≡ some u)). else j u t.0 q.0 q.1) (at_set views id j both u t.1))
      (at_set (set views id both) other j gone u e)

pub unites_rule : (l : Limits) (id other : ℕ) (v w : View) → Joins (Ruled l) id v other w (united v w) (spent l)
unites_rule l id other v w s r at apart at' = record {
  known = r.known;
  merger = r.merger;
  owner = owner;
  wide = r.wide;
  sound = r.sound;
  pages = r.pages;
  each = joined_each s.views id other (united v w) (spent l) (Fits s.words c owner) (spent_fits s.words c owner other) mine (λ j u ne _ e. others j u ne (r.each j u e));
}
  where
    c : Core
    c = state_over l s.words r.known r.merger

    fit : Fits s.words c r.owner id v
    fit = r.each id v at

    fit' : Fits s.words c r.owner other w
    fit' = r.each other w (sym (set_else s.views id other (united v w) apart) ∙ at')

    owner : ℕ → ℕ
    owner t = cond (hosts w t) id (r.owner t)

    moves : (t : ℕ) → hosts w t ≡ true → owner t ≡ id
    moves t e = ap (λ (b : Bool). cond b id (r.owner t)) e

    stays : (t : ℕ) → hosts w t ≡ false → owner t ≡ r.owner t
    stays t e = ap (λ (b : Bool). cond b id (r.owner t)) e

    no_overlap : overlap v.hosts w.hosts ≡ false
    no_overlap = overlap_false v.hosts w.hosts (λ t a b. apart (sym (fit'.owns t b) ∙ fit.owns t a))

    -- what holds where w hosts, and where v alone does, holds where the united view hosts
    both : (P : ℕ → Type 0) → ((t : ℕ) → hosts w t ≡ true → P t) → ((t : ℕ) → hosts w t ≡ false → hosts v t ≡ true → P t) → (t : ℕ) → hosts (united v w) t ≡ true → P t
    both P theirs ours t h = ⊎_elim (theirs t) (λ (e : hosts w t ≡ false). ours t e (⊎_elim (λ (a : hosts v t ≡ true). a) (λ (a : hosts w t ≡ true). absurd (true≢false (sym a ∙ e))) (united_from v.hosts w.hosts t h))) (cases_Bool (hosts w t))

    mine : Fits s.words c owner id (united v w)
    mine = record {
      limits = fit.limits;
      sized = ap length (united_is v w no_overlap) ∙ (length-united w.hosts v.known w.known ∙ fit.sized);
      low = both (λ t. t ≤ l.sessions) fit'.low (λ t _. fit.low t);
      owns = both (λ t. owner t ≡ id) moves (λ t e h. stays t e ∙ fit.owns t h);
      knew = both (λ t. knows (united v w) t ≡ known_of c t)
          (λ t e. knows_theirs v w no_overlap (fit.limits ∙ sym fit'.limits) (fit.sized ∙ sym fit'.sized) t e (let a = fit'.low t e in let b = fit'.sized in omega arith) ∙ fit'.knew t e)
          (λ t e h. knows_ours v w no_overlap t e ∙ fit.knew t h);
      told = fit'.told;
      told_facts = fit'.told_facts;
      told_keys = fit'.told_keys;
      whole = fit.whole;
      all = λ e t low. united_ours v.hosts w.hosts t (fit.all e t low);
    }

    others : (j : ℕ) (u : View) → j ≢ other → Fits s.words c r.owner j u → Fits s.words c owner j u
    others j u ne f = record {
      limits = f.limits;
      sized = f.sized;
      low = f.low;
      owns = λ t h. ⊎_elim (λ (e : hosts w t ≡ true). absurd (ne (sym (f.owns t h) ∙ fit'.owns t e))) (λ (e : hosts w t ≡ false). stays t e ∙ f.owns t h) (cases_Bool (hosts w t));
      knew = f.knew;
      told = f.told;
      told_facts = f.told_facts;
      told_keys = f.told_keys;
      whole = f.whole;
      all = f.all;
    }
