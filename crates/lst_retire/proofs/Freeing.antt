-- The oldest retired frame, once pins were looked at.
use Rattle.std.proofs.Common.{◌≡◌, ℕ, suc, Bool, ◌<◌, ◌≤◌, List, [], ◌∷◌, ◌++◌, true, false, Some, sym, subst, ap, ◌∙◌, arith, length, slice_get, nat_lt, ◌||◌, ne_eqb}
use Rattle.std.proofs.lemmas.Bool.{le-ltb}
use Rattle.std.specs.List.{Contains}
use Rattle.lst_layout.specs.Words.{shown}
use Rattle.lst_layout.specs.declared.limits.Limits.{Limits}
use Rattle.lst_core_state.specs.declared.known.Known.{Known}
use Rattle.lst_core_state.specs.declared.pages.MergerFrames.{MergerFrames}
use Rattle.lst_core_state.specs.declared.pages.Retired.{Retired}
use Rattle.lst_pages.specs.Known.{IsHeld}
use Rattle.lst_pages.specs.Lists.{Every, HasFirst}
use Rattle.lst_pages.proofs.Moves.{none_some}
use Rattle.lst_pages.specs.Sound.{Rise}
use Rattle.lst_pages.specs.State.{oldest_epoch}
use Rattle.lst_pages.specs.Step.{IsClear, lets_go}
use Rattle.lst_core_state.proofs.ListedPart.{contains_last}
use Rattle.lst_rule.specs.declared.view.View.{View}
use Rattle.lst_rule.specs.Rule.{hosts, Allowed}
use Rattle.lst_rule.specs.Learned.{Possible}
use Rattle.lst_rule.specs.PageSteps.{StockIs, stock_of}
use Rattle.lst_rule.proofs.Learning.{possible_after}
use Rattle.lst_rule.proofs.Paging.{stock_is, epoch_is, pages_safe}
use Rattle.lst_rule.specs.Spares.{AreSpares}
use Rattle.lst_rule.proofs.Stocks.{stock_now, still_hosts, is_unused}
use Rattle.lst_retire.specs.Frames.{pins_found, NoPinHolds, FirstPinHolds, let_go_by, FindsFree, FindsHeld}
use Rattle.lst_retire.proofs.Stocks.{looks_rest, pins_let_go, pins_held, all_clear}

-- the spares stay what the merger knows, whatever pins were found
pub spares_stay : (v w : View) (spares : List Retired) (found : ℕ → ℕ) (n : ℕ) → AreSpares v spares → StockIs v w (pins_found (stock_of v) found n) → AreSpares w spares
spares_stay v w spares found n are a = let rest = looks_rest (stock_of v) found n in let now = stock_now v w (pins_found (stock_of v) found n) a in record {
  retired = are.retired ∙ sym (ap (λ (m : MergerFrames). m.retired) now ∙ rest.retired);
  idle = ap (λ (m : MergerFrames). m.waiting) now ∙ (rest.waiting ∙ are.idle);
}

-- the first of them
pub first_is : (rs spares : List Retired) (oldest : Retired) → rs ≡ spares → slice_get rs 0 ≡ Some oldest → HasFirst (λ r. r ≡ oldest) spares
first_is rs spares oldest same got = subst (HasFirst (λ r. r ≡ oldest)) same (go rs got)
  where
    go : (rs : List Retired) → slice_get rs 0 ≡ Some oldest → HasFirst (λ r. r ≡ oldest) rs
    go [] got = absurd (none_some got)
    go (r ∷ rs) got = cc

-- its epoch
pub first_epoch : (v : View) (spares : List Retired) (oldest : Retired) → AreSpares v spares → HasFirst (λ r. r ≡ oldest) spares → oldest.epoch ≡ oldest_epoch (stock_of v).retired
first_epoch v spares oldest are first = go spares are.retired first
  where
    go : (rs : List Retired) → rs ≡ (stock_of v).retired → HasFirst (λ r. r ≡ oldest) rs → oldest.epoch ≡ oldest_epoch (stock_of v).retired
    go [] same none = absurd none
    go (r ∷ rs) same is = sym (ap (λ (q : Retired). q.epoch) is) ∙ ap oldest_epoch same

-- and its frame
first_frame : (rs : List Retired) (oldest : Retired) → HasFirst (λ r. r ≡ oldest) rs → HasFirst (λ r. r.frame ≡ oldest.frame) rs
first_frame [] oldest none = absurd none
first_frame (r ∷ rs) oldest is = ap (λ (q : Retired). q.frame) is

-- a set pin holds what was retired at its epoch plus one or later
sets_hold : (pin e : ℕ) → 0 < pin → pin ≤ e → lets_go pin e ≡ false
sets_hold pin e some low = ap (λ (b : Bool). b || nat_lt e pin) (ne_eqb pin 0 (λ none. omega arith)) ∙ le-ltb e pin low

-- so one that holds the oldest of the retired frames holds each of them
all_held : (pin : ℕ) (rs : List Retired) (e : ℕ) → 0 < pin → pin ≤ oldest_epoch rs → Rise rs e → Every (λ r. lets_go pin r.epoch ≡ false) rs
all_held pin [] e some low rise = tt
all_held pin (r ∷ []) e some low rise = (sets_hold pin r.epoch some low, tt)
all_held pin (r ∷ q ∷ rs) e some low rise = let up = rise.0 in (sets_hold pin r.epoch some low, all_held pin (q ∷ rs) e some (omega arith) rise.2)

module _ (v w : View) (spares : List Retired) (oldest : Retired) (hosted : hosts v v.limits.sessions ≡ true) (are : AreSpares v spares) (first : HasFirst (λ r. r ≡ oldest) spares) where
  abbrev m : MergerFrames
  m = stock_of v

  module _ (p : Possible v) (q : Possible w) (none : NoPinHolds v w oldest.epoch v.limits.sessions) where
    looks : NoPinHolds v w (oldest_epoch m.retired) v.limits.sessions
    looks = subst (λ (e : ℕ). NoPinHolds v w e v.limits.sessions) (first_epoch v spares oldest are first) none

    view : StockIs v w (let_go_by m v.limits.sessions)
    view = subst (StockIs v w) (pins_let_go m looks.found v.limits.sessions looks.free) looks.looks.view

    now : stock_of w ≡ let_go_by m v.limits.sessions
    now = stock_now v w (let_go_by m v.limits.sessions) view

    is_oldest : HasFirst (λ r. r.frame ≡ oldest.frame) (stock_of w).retired
    is_oldest = subst (HasFirst (λ r. r.frame ≡ oldest.frame)) (are.retired ∙ sym (ap (λ (k : MergerFrames). k.retired) now)) (first_frame spares oldest first)

    long : length m.clear ≡ v.limits.sessions
    long = ap (λ (k : MergerFrames). length k.clear) (stock_is v p.words p.known p.merger p.allowed hosted) ∙ p.allowed.pages.pages.sized.sessions

    clear : IsClear w.limits (stock_of w)
    clear = subst (λ (z : Limits × MergerFrames). IsClear z.0 z.1) (λ i. (sym view.limits i, sym now i)) (λ s low. all_clear m.clear v.limits.sessions (let e = long in omega arith) s low)

    host : hosts w w.limits.sessions ≡ true
    host = ap (λ (l : Limits). hosts w l.sessions) view.limits ∙ still_hosts v w (let_go_by m v.limits.sessions) view v.limits.sessions hosted

    pub frees : FindsFree v w oldest.frame
    frees = record {
      looks = looks;
      view = view;
      oldest = is_oldest;
      clear = clear;
      within = λ place value short. (
        ((pages_safe w q.words q.known q.merger q.allowed).unlisted oldest.frame place value
            (subst (λ (k : MergerFrames). HasFirst (λ r. r.frame ≡ oldest.frame) k.retired × IsClear w.limits k) (stock_is w q.words q.known q.merger q.allowed host) (is_oldest, clear))).0,
        short,
      );
      may_store = λ place value. (is_oldest, clear);
      unused = is_unused w oldest.frame host is_oldest clear;
    }

  pub holds : (s : ℕ) → Possible v → FirstPinHolds v w oldest.epoch s → FindsHeld v w s
  holds s p h = record {
    looks = looks;
    view = view;
    all = all_held (looks.found s) m.retired (shown v.limits p.words).epoch looks.pinned looks.below rise;
    swaps = subst (λ (e : ℕ). w.limits.spare ≤ e) (sym (epoch_is w q.words q.known q.merger q.allowed host)) (says q.words q.known q.merger q.allowed).swaps;
    says = says;
  }
    where
      looks : FirstPinHolds v w (oldest_epoch m.retired) s
      looks = subst (λ (e : ℕ). FirstPinHolds v w e s) (first_epoch v spares oldest are first) h

      after : MergerFrames
      after = let k : MergerFrames = let_go_by m s in record k { held = m.held ++ s ∷ [] }

      view : StockIs v w after
      view = subst (StockIs v w) (pins_held m looks.found s looks.free looks.holds) looks.looks.view

      host : hosts w w.limits.sessions ≡ true
      host = ap (λ (l : Limits). hosts w l.sessions) view.limits ∙ still_hosts v w after view v.limits.sessions hosted

      says : (words : List ℕ) (known : ℕ → Known) (merger : Known) → Allowed w words known merger → IsHeld w.limits (shown w.limits words).epoch known s
      says words known merger may = may.pages.held s (subst (λ (k : MergerFrames). Contains k.held s) (sym (stock_now v w after view) ∙ stock_is w words known merger may host) (contains_last m.held s))

      -- the last look tells a state in which w is possible
      q : Possible w
      q = subst Possible looks.looks.last (possible_after (looks.looks.between s) (looks.looks.between (suc s)) _ _ _ (looks.looks.each s (omega arith)).met.made.told)

      rise : Rise m.retired (shown v.limits p.words).epoch
      rise = subst (λ (rs : List Retired). Rise rs (shown v.limits p.words).epoch) (ap (λ (k : MergerFrames). k.retired) (sym (stock_is v p.words p.known p.merger p.allowed hosted))) p.allowed.pages.pages.retirement.rise
