use Rattle.std.proofs.Common.{◌≡◌, ◌<◌, ◌+◌, ◌*◌, ℕ, true, sym, subst, ap, ◌∙◌, arith}
use Rattle.lst_layout.specs.declared.limits.Limits.{Limits}
use Rattle.lst_layout.specs.declared.layout.Layout.{Layout}
use Rattle.lst_rule.specs.Rule.{hosts}
use Rattle.lst_merge.specs.Inspections.{merger_of}
use Rattle.lst_merge.specs.Runs.{HasSettled, Unsettled}
use Rattle.lst_merge.proofs.Statuses.{merger_is}
use Rattle.lst_merge.proofs.Ending.{inspects_host, ends_first, ends_next, ends_kept, last_low, last_full, run_at_last, run_stops}
use Rattle.lst_merge.proofs.runs.run_end.Goals as goal

pub load_tail_counter-count-requires-clause-host : goal.load_tail_counter-count-requires-clause-host
load_tail_counter-count-requires-clause-host c = subst (λ (j : ℕ). hosts c.page_tps-tps.new.seat.view j ≡ true) (sym (merger_is c.args.store.now c.page_tps-tps.new.seat _ c.page_tps-tps.ensures.seat c.layout.ensures)) (inspects_host c.args.seat.now.view c.page_tps-tps.new.seat.view c.page_tps-tps.ensures.inspects c.requires.host)

pub load_tail_counter-count-requires-clause-place : goal.load_tail_counter-count-requires-clause-place
load_tail_counter-count-requires-clause-place c = subst (λ (l : Limits). c.args.range < l.ranges) (sym c.page_tps-tps.ensures.inspects.view.limits) c.requires.page.0

pub loop-end-init : goal.loop-end-init
loop-end-init c = ends_first _ _ c.page_tps-tps.new.seat c.load_tail_counter-count.new.seat _ _ _ _ _ (merger_is c.args.store.now c.page_tps-tps.new.seat _ c.page_tps-tps.ensures.seat c.layout.ensures) c.page_tps-tps.ensures.inspects c.page_tps-tps.ensures.tps c.page_tps-tps.ensures.few c.load_tail_counter-count.ensures.seat c.load_tail_counter-count.ensures.looked

pub loop-end-preserved : goal.loop-end-preserved
loop-end-preserved c = let on = c.loop-end.invariant in let low = last_low _ _ c.loop-end.seat _ _ _ _ _ on _ c.last_tail-last.result c.layout.ensures c.last_tail-last.ensures.few in ends_next _ _ c.loop-end.seat _ _ _ _ _ on c.is_settled.new.seat c.is_settled.ensures.seat c.is_settled.ensures.inspects (omega arith) (subst (HasSettled (merger_of c.is_settled.new.seat.view)) (c.tail_at.ensures.identifier ∙ ap (λ (y : Layout). c.args.range * y.limits.tails + (c.loop-end.end + 1)) c.layout.ensures) (c.is_settled.ensures.yes c.if-not-is_settled.false))

pub returns-then-not-is_settled-clause-inspects : goal.returns-then-not-is_settled-clause-inspects
returns-then-not-is_settled-clause-inspects c = (ends_kept _ _ c.loop-end.seat _ _ _ _ _ c.loop-end.invariant c.is_settled.new.seat c.is_settled.ensures.seat c.is_settled.ensures.inspects).inspects

pub returns-then-not-is_settled-clause-run : goal.returns-then-not-is_settled-clause-run
returns-then-not-is_settled-clause-run c = run_stops _ _ c.loop-end.seat c.is_settled.new.seat _ _ _ _ _ c.loop-end.invariant c.is_settled.ensures.seat c.is_settled.ensures.inspects c.requires.host c.requires.page c.consider.ensures (subst (Unsettled c.loop-end.seat.view c.is_settled.new.seat.view) (c.tail_at.ensures.identifier ∙ ap (λ (y : Layout). c.args.range * y.limits.tails + (c.loop-end.end + 1)) c.layout.ensures) (c.is_settled.ensures.no c.if-not-is_settled.true))

pub returns-clause-run : goal.returns-clause-run
returns-clause-run c = run_at_last _ _ c.loop-end.seat _ _ _ _ _ c.loop-end.invariant c.requires.host c.requires.page c.consider-2.ensures c.last_tail-last.result (last_full _ _ c.loop-end.seat _ _ _ _ _ c.loop-end.invariant _ _ c.layout.ensures c.last_tail-last.ensures.last) c.loop-end-test.false
