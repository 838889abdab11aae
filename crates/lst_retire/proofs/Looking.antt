-- Looks at pins, one after another.
use Rattle.std.proofs.Common.{◌≡◌, ℕ, suc, ◌+◌, ◌<◌, ◌≤◌, true, false, None, refl, sym, subst, ap, ◌∙◌, arith}
use mathlib.Core.Logic.{dite}
use native.Mathlib.Decide.{ℕ_discrete}
use Rattle.lst_layout.specs.declared.layout.Layout.{Layout}
use Rattle.lst_layout.specs.declared.limits.Limits.{Limits}
use Rattle.lst_layout.specs.Functions.{put}
use Rattle.lst_layout.proofs.Functions.{put_here, put_else}
use Rattle.lst_core_state.specs.declared.known.Known.{Known}
use Rattle.lst_core_state.specs.declared.pages.MergerFrames.{MergerFrames}
use Rattle.lst_pages.specs.Step.{lets_go}
use Rattle.lst_pages.proofs.Safety.{lets_not}
use Rattle.lst_rule.specs.declared.store.Store.{Store}
use Rattle.lst_rule.specs.declared.view.View.{View}
use Rattle.lst_rule.specs.Rule.{knows, hosts}
use Rattle.lst_rule.specs.Seats.{Sitting}
use Rattle.lst_rule.specs.Stores.{IsSeatOf}
use Rattle.lst_rule.specs.PageSteps.{StockIs, stock_of, pin_found, PinLooked}
use Rattle.lst_rule.proofs.Learning.{kept_same, kept_on}
use Rattle.lst_rule.proofs.Paging.{pin_is}
use Rattle.lst_rule.proofs.Stocks.{stock_same, stock_now, stock_then, still_hosts}
use Rattle.lst_retire.specs.Frames.{pins_found, LooksAtPins, AllLetGo, NoPinHolds, FirstPinHolds}
use Rattle.lst_retire.proofs.Stocks.{looks_rest, pins_same}

-- ---- one look after another

pub looks_none : (v : View) (found : ℕ → ℕ) → LooksAtPins v v 0 found
looks_none v found = record {
  between = λ _. v;
  first = refl;
  last = refl;
  each = λ s low. absurd (omega arith);
  view = stock_same v;
  kept = kept_same v;
  own = λ s low. absurd (omega arith);
}

-- the pin that a look finds of a session that the view hosts
look_own : (v u w : View) (m : MergerFrames) (n x : ℕ) → StockIs v u m → n < v.limits.sessions → PinLooked u w n x → hosts v n ≡ true → x ≡ (knows v n).pages.session.pin
look_own v u w m n x a low looked hosted = sym looked.met.found
    ∙ (pin_is u looked.met.made.told.words looked.met.made.told.known looked.met.made.told.merger looked.met.made.told.allowed n (still_hosts v u m a n hosted) (subst (λ (l : Limits). n < l.sessions) (sym a.limits) low)
    ∙ ap (λ (k : Known). k.pages.session.pin) (a.others n (λ e. omega arith)))

module _ (v u w : View) (n x : ℕ) (found : ℕ → ℕ) (r : LooksAtPins v u n found) (low : n < v.limits.sessions) (looked : PinLooked u w n x) where
  abbrev between : ℕ → View
  between = put r.between (suc n) w

  abbrev pins : ℕ → ℕ
  pins = put found n x

  here : (i : ℕ) → i ≤ n → between i ≡ r.between i
  here i short = put_else r.between (suc n) w i (λ e. omega arith)

  same : (i : ℕ) → i < n → pins i ≡ found i
  same i short = put_else found n x i (λ e. omega arith)

  before : between n ≡ u
  before = here n (omega arith) ∙ r.last

  there : between (suc n) ≡ w
  there = put_here r.between (suc n) w

  last_pin : pins n ≡ x
  last_pin = put_here found n x

  step : StockIs v w (pins_found (stock_of v) pins (suc n))
  step = subst (StockIs v w) (λ i. pin_found (sym (pins_same (stock_of v) found pins n same) i) n (sym last_pin i))
      (stock_then v u w (pins_found (stock_of v) found n) (λ m. pin_found m n x) r.view looked.view)

  pub looks_next : LooksAtPins v w (suc n) pins
  looks_next = record {
    between = between;
    first = here 0 (omega arith) ∙ r.first;
    last = there;
    each = λ i short. dite (ℕ_discrete i n)
        (λ e. subst (λ (j : ℕ). PinLooked (between j) (between (suc j)) j (pins j)) (sym e) (subst (λ (z : View × View × ℕ). PinLooked z.0 z.1 n z.2) (λ k. (sym before k, sym there k, sym last_pin k)) looked))
        (λ ne. let less : i < n = omega arith in subst (λ (z : View × View × ℕ). PinLooked z.0 z.1 i z.2) (λ k. (sym (here i (omega arith)) k, sym (here (suc i) (omega arith)) k, sym (same i less) k)) (r.each i less));
    view = step;
    kept = kept_on v u w r.view.whole r.kept looked.kept;
    own = λ i short hosted. dite (ℕ_discrete i n)
        (λ e. subst (λ (j : ℕ). pins j ≡ (knows v j).pages.session.pin) (sym e) (last_pin ∙ look_own v u w (pins_found (stock_of v) found n) n x r.view low looked (subst (λ (j : ℕ). hosts v j ≡ true) e hosted)))
        (λ ne. let less : i < n = omega arith in same i less ∙ r.own i less hosted);
  }

  pub free_same : (epoch : ℕ) → AllLetGo found epoch n → AllLetGo pins epoch n
  free_same epoch free i less = ap (λ (y : ℕ). lets_go y epoch) (same i less) ∙ free i less

-- ---- what the loop over the sessions keeps

-- a session of the store is one of the view
pub view_low : (store : Store) (seat : Sitting) (layout : Layout) (n : ℕ) → IsSeatOf store seat → layout ≡ store.layout → n < layout.limits.sessions → n < seat.view.limits.sessions
view_low store seat layout n is same low = subst (λ (l : Limits). n < l.sessions) (ap (λ (y : Layout). y.limits) same ∙ sym is.limits) low

pub record LooksOn (store : Store) (v : View) (seat : Sitting) (epoch n : ℕ) : Type 0 where
  pub is : IsSeatOf store seat
  pub few : n ≤ v.limits.sessions
  pub looks : NoPinHolds v seat.view epoch n

pub looks_first : (store : Store) (seat : Sitting) (epoch : ℕ) → IsSeatOf store seat → LooksOn store seat.view seat epoch 0
looks_first store seat epoch is = record { is = is; few = omega arith; looks = record { found = λ _. 0; looks = looks_none seat.view (λ _. 0); free = λ s low. absurd (omega arith) } }

module _ (store : Store) (v : View) (a : Sitting) (epoch n : ℕ) (on : LooksOn store v a epoch n) where
  -- the next look may be made
  pub looks_idle : (stock_of v).waiting ≡ None → (stock_of a.view).waiting ≡ None
  looks_idle idle = let rest = looks_rest (stock_of v) on.looks.found n in ap (λ (m : MergerFrames). m.waiting) (stock_now v a.view (pins_found (stock_of v) on.looks.found n) on.looks.looks.view) ∙ (rest.waiting ∙ idle)

  -- the merger is still hosted
  pub looks_host : hosts v v.limits.sessions ≡ true → hosts a.view a.view.limits.sessions ≡ true
  looks_host hosted = let view = on.looks.looks.view in subst (λ (l : Limits). hosts a.view l.sessions ≡ true) (sym view.limits) (still_hosts v a.view (pins_found (stock_of v) on.looks.found n) view v.limits.sessions hosted)

  pub looks_free : (b : Sitting) (x : ℕ) → n < v.limits.sessions → IsSeatOf store b → PinLooked a.view b.view n x → lets_go x epoch ≡ true → LooksOn store v b epoch (n + 1)
  looks_free b x low is looked go = let e : suc n ≡ n + 1 = omega arith in record {
    is = is;
    few = omega arith;
    looks = subst (NoPinHolds v b.view epoch) e record {
      found = put on.looks.found n x;
      looks = looks_next v a.view b.view n x on.looks.found on.looks.looks low looked;
      free = λ s short. dite (ℕ_discrete s n)
          (λ same. ap (λ (j : ℕ). lets_go (put on.looks.found n x j) epoch) same ∙ (ap (λ (y : ℕ). lets_go y epoch) (put_here on.looks.found n x) ∙ go))
          (λ ne. free_same v a.view b.view n x on.looks.found on.looks.looks low looked epoch on.looks.free s (omega arith));
    };
  }

  pub looks_held : (b : Sitting) (x : ℕ) → n < v.limits.sessions → PinLooked a.view b.view n x → lets_go x epoch ≡ false → FirstPinHolds v b.view epoch n
  looks_held b x low looked held = let last = put_here on.looks.found n x in let set = lets_not x epoch held in record {
    low = low;
    found = put on.looks.found n x;
    looks = looks_next v a.view b.view n x on.looks.found on.looks.looks low looked;
    free = free_same v a.view b.view n x on.looks.found on.looks.looks low looked epoch on.looks.free;
    holds = ap (λ (y : ℕ). lets_go y epoch) last ∙ held;
    pinned = subst (λ (y : ℕ). 0 < y) (sym last) set.0;
    below = subst (λ (y : ℕ). y ≤ epoch) (sym last) set.1;
  }
