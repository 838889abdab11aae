-- The merger's stock of frames in a later view, and its spares.
use Rattle.std.proofs.Common.{◌≡◌, ℕ, ◌<◌, List, Bool, true, false, get_or, sym, subst, ap, ◌∙◌, arith, length}
use Rattle.lst_layout.specs.declared.limits.Limits.{Limits}
use Rattle.lst_core_state.specs.declared.known.Known.{Known}
use Rattle.lst_core_state.specs.declared.pages.MergerFrames.{MergerFrames}
use Rattle.lst_core_state.specs.declared.pages.Retired.{Retired}
use Rattle.lst_core_state.specs.State.{state_over}
use Rattle.lst_pages.specs.declared.events.PageEvent.TheVariants.{StoreFrame}
use Rattle.lst_pages.specs.Known.{pages_in}
use Rattle.lst_pages.specs.Lists.{HasFirst}
use Rattle.lst_pages.specs.Sound.{late}
use Rattle.lst_pages.specs.Step.{Enabled, IsClear}
use Rattle.lst_rule.specs.declared.view.View.{View}
use Rattle.lst_rule.specs.Rule.{knows, hosts, Allowed}
use Rattle.lst_rule.specs.Learned.{Learns, Possible}
use Rattle.lst_rule.specs.PageSteps.{with_stock, StockIs, stock_of}
use Rattle.lst_rule.specs.Spares.{AreSpares, IsUnused}
use Rattle.lst_rule.proofs.Learning.{learns_same, learns_then}
use Rattle.lst_rule.proofs.Paging.{stock_is, pages_safe}

-- ---- the stock in a later view

pub stock_same : (v : View) → StockIs v v (stock_of v)
stock_same v = learns_same v v.limits.sessions

pub stock_now : (v u : View) (m : MergerFrames) → StockIs v u m → stock_of u ≡ m
stock_now v u m a = ap (λ (l : Limits). (knows u l.sessions).pages.stock) a.limits ∙ ap (λ (k : Known). k.pages.stock) a.now

pub stock_then : (v u w : View) (m : MergerFrames) (f : MergerFrames → MergerFrames) → StockIs v u m → StockIs u w (f (stock_of u)) → StockIs v w (f m)
stock_then v u w m f a b = learns_then v u w v.limits.sessions (with_stock (knows v v.limits.sessions) m) (λ k. with_stock k (f k.pages.stock)) a
    (subst (λ (l : Limits). Learns u w l.sessions (with_stock (knows u l.sessions) (f (knows u l.sessions).pages.stock))) a.limits b)

pub still_hosts : (v u : View) (m : MergerFrames) → StockIs v u m → (s : ℕ) → hosts v s ≡ true → hosts u s ≡ true
still_hosts v u m a s hosted = ap (λ (hs : List Bool). get_or hs s false) a.hosted ∙ hosted

-- ---- spares

-- there is a spare frame
pub spares_some : (v : View) (spares : List Retired) → hosts v v.limits.sessions ≡ true → AreSpares v spares → Possible v → 0 < length spares
spares_some v spares hosted are p = let same : stock_of v ≡ p.merger.pages.stock = stock_is v p.words p.known p.merger p.allowed hosted in
    let count = (pages_safe v p.words p.known p.merger p.allowed).spare in let some = p.allowed.sound.sized.spare.0 in
    let long : length spares ≡ length p.merger.pages.stock.retired = ap length are.retired ∙ ap (λ (m : MergerFrames). length m.retired) same in
    let none : late p.merger.pages.stock.waiting ≡ 0 = ap (λ (m : MergerFrames). late m.waiting) (sym same) ∙ ap late are.idle in omega arith

-- where the merger knows that the frame is the oldest retired one, and that each session lets go of it, it is free
pub is_unused : (w : View) (f : ℕ) → hosts w w.limits.sessions ≡ true → HasFirst (λ r. r.frame ≡ f) (stock_of w).retired → IsClear w.limits (stock_of w) → IsUnused w f
is_unused w f hosted first clear = record {
  unread = λ words known merger may s low. (pages_safe w words known merger may).unread f 0 0 (ready words known merger may) s low;
  unlisted = λ words known merger may. ((pages_safe w words known merger may).unlisted f 0 0 (ready words known merger may)).1;
}
  where
    ready : (words : List ℕ) (known : ℕ → Known) (merger : Known) → Allowed w words known merger → Enabled (pages_in (state_over w.limits words known merger)) (StoreFrame f 0 0)
    ready words known merger may = subst (λ (m : MergerFrames). HasFirst (λ r. r.frame ≡ f) m.retired × IsClear w.limits m) (stock_is w words known merger may hosted) (first, clear)
