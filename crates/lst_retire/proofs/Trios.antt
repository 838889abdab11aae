-- What the calls leave of three sessions and the merger.
use Rattle.std.proofs.Common.{◌≡◌, ℕ, suc, ◌<◌, ◌≤◌, List, Bool, true, false, Option, Some, None, IfSome, IfNone, get_or, sym, ap, ◌∙◌, arith}
use Rattle.lst_layout.specs.declared.limits.Limits.{Limits}
use Rattle.lst_core_state.specs.declared.known.Known.{Known}
use Rattle.lst_core_state.specs.declared.pages.MergerFrames.{MergerFrames}
use Rattle.lst_core_state.specs.declared.pages.Retired.{Retired}
use Rattle.lst_rule.specs.declared.store.Store.{Store}
use Rattle.lst_rule.specs.Rule.{knows, hosts}
use Rattle.lst_rule.specs.Learned.{Learns}
use Rattle.lst_rule.specs.Seats.{Sitting}
use Rattle.lst_rule.specs.Stores.{IsSeatOf}
use Rattle.lst_rule.specs.PageSteps.{StockIs, stock_of}
use Rattle.lst_retire.specs.Frames.{pins_found, NoPinHolds, FirstPinHolds}
use Rattle.lst_retire.specs.Trios.{IsTrio}
use Rattle.lst_retire.proofs.Freeing.{spares_stay}

module _ (store : Store) (a b : Sitting) (spares : List Retired) (trio : IsTrio store a spares) (is : IsSeatOf store b) where
  host : (s : ℕ) → s ≤ 3 → b.view.hosts ≡ a.view.hosts → hosts b.view s ≡ true
  host s low same = ap (λ (hs : List Bool). get_or hs s false) same ∙ trio.hosted s low

  -- a session learns something
  pub trio_learns : (s : ℕ) (k : Known) → s < 3 → Learns a.view b.view s k → IsTrio store b spares
  trio_learns s k low h = record {
    seat_of = is;
    three = ap (λ (l : Limits). l.sessions) h.limits ∙ trio.three;
    hosted = λ t few. host t few h.hosted;
    are = record { retired = trio.are.retired ∙ ap (λ (m : MergerFrames). m.retired) (sym stays); idle = ap (λ (m : MergerFrames). m.waiting) stays ∙ trio.are.idle };
  }
    where
      stays : stock_of b.view ≡ stock_of a.view
      stays = ap (λ (l : Limits). (knows b.view l.sessions).pages.stock) h.limits ∙ ap (λ (q : Known). q.pages.stock) (h.others a.view.limits.sessions (λ e. let t = trio.three in omega arith))

  -- the merger looks at pins
  pub trio_looks : (found : ℕ → ℕ) (n : ℕ) → StockIs a.view b.view (pins_found (stock_of a.view) found n) → IsTrio store b spares
  trio_looks found n h = record {
    seat_of = is;
    three = ap (λ (l : Limits). l.sessions) h.limits ∙ trio.three;
    hosted = λ t few. host t few h.hosted;
    are = spares_stay a.view b.view spares found n trio.are h;
  }

  -- up to the first that holds
  pub trio_asks : (epoch : ℕ) (r : Option ℕ) → IfNone r (NoPinHolds a.view b.view epoch a.view.limits.sessions) → IfSome r (λ s. FirstPinHolds a.view b.view epoch s) → IsTrio store b spares
  trio_asks epoch None none some = trio_looks none.found a.view.limits.sessions none.looks.view
  trio_asks epoch (Some s) none some = trio_looks some.found (suc s) some.looks.view
