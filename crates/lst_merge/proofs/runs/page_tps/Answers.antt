use Rattle.std.proofs.Common.{◌≡◌, ◌<◌, ℕ, true, sym, refl, ◌≤◌, subst, arith}
use Rattle.lst_layout.specs.declared.limits.Limits.{Limits}
use Rattle.lst_layout.specs.Areas.{frame_count}
use Rattle.lst_rule.specs.Rule.{hosts}
use Rattle.lst_merge.proofs.Statuses.{merger_is}
use Rattle.lst_merge.proofs.Ending.{inspects_page, inspects_host, tps_is, tps_low, inspects_tps}
use Rattle.lst_merge.proofs.runs.page_tps.Goals as goal

pub load_frame-requires-clause-host : goal.load_frame-requires-clause-host
load_frame-requires-clause-host c = subst (λ (j : ℕ). hosts c.page_frame-frame.new.seat.view j ≡ true) (sym (merger_is c.args.store.now c.page_frame-frame.new.seat _ c.page_frame-frame.ensures.seat c.layout.ensures))
    (inspects_host c.args.seat.now.view c.page_frame-frame.new.seat.view (inspects_page c.args.seat.now.view c.page_frame-frame.new.seat.view _ c.args.range c.args.column _ refl c.requires.host c.requires.page c.page_frame-frame.ensures.looked) c.requires.host)

pub load_frame-requires-clause-place : goal.load_frame-requires-clause-place
load_frame-requires-clause-place c = (subst (λ (l : Limits). c.page_frame-frame.result < frame_count l) (sym c.page_frame-frame.ensures.looked.view.limits) c.page_frame-frame.ensures.low, omega arith)

pub returns-clause-inspects : goal.returns-clause-inspects
returns-clause-inspects c = inspects_tps c.args.seat.now.view _ _ _ c.args.range c.args.column _ _ (merger_is c.args.store.now c.args.seat.now _ c.requires.seat c.layout.ensures) c.requires.host c.requires.page c.page_frame-frame.ensures.looked c.page_frame-frame.ensures.frame c.load_frame.ensures.loaded

pub returns-clause-tps : goal.returns-clause-tps
returns-clause-tps c = tps_is c.args.seat.now.view _ _ _ c.args.range c.args.column _ _ (merger_is c.args.store.now c.args.seat.now _ c.requires.seat c.layout.ensures) c.requires.host c.requires.page c.page_frame-frame.ensures.looked c.page_frame-frame.ensures.frame c.load_frame.ensures.loaded

pub returns-clause-few : goal.returns-clause-few
returns-clause-few c = tps_low c.args.seat.now.view _ _ _ c.args.range c.args.column _ _ (merger_is c.args.store.now c.args.seat.now _ c.requires.seat c.layout.ensures) c.requires.host c.requires.page c.page_frame-frame.ensures.looked c.page_frame-frame.ensures.frame c.load_frame.ensures.loaded

pub overflow_cast-result : goal.overflow_cast-result
overflow_cast-result c = let few = tps_low c.args.seat.now.view _ _ _ c.args.range c.args.column _ _ (merger_is c.args.store.now c.args.seat.now _ c.requires.seat c.layout.ensures) c.requires.host c.requires.page c.page_frame-frame.ensures.looked c.page_frame-frame.ensures.frame c.load_frame.ensures.loaded in
    let most : c.args.seat.now.view.limits.tails ≤ 16384 = subst (λ (l : Limits). l.tails ≤ 16384) (sym c.requires.seat.limits) c.args.store.now.layout.valid.tails.1 in record { fits = omega arith }
