use Rattle.std.proofs.Common.{ap, arith}
use Rattle.lst_layout.specs.declared.layout.Layout.{Layout}
use Rattle.lst_layout.specs.declared.limits.Limits.{Limits}
use Rattle.lst_core_state.specs.declared.known.Hold.{Hold}
use Rattle.lst_rule.specs.Rule.{knows}
use Rattle.lst_write.proofs.Drawing.{range_low, draw_enabled, draw_stands, draw_won, draw_full}
use Rattle.lst_write.proofs.tails.draw.Goals as goal

pub look_at_counter-requires-clause-range : goal.look_at_counter-requires-clause-range
look_at_counter-requires-clause-range c = range_low c.args.seat.now.view.limits (knows c.args.seat.now.view c.args.s) c.args.s c.args.rec.number c.args.head c.requires.judged

pub look_at_counter-requires-clause-latch : goal.look_at_counter-requires-clause-latch
look_at_counter-requires-clause-latch c = let e = ap (λ (h : Hold). h.latch) c.requires.latch in omega arith

pub step_draw_tail-found-requires-clause-enabled : goal.step_draw_tail-found-requires-clause-enabled
step_draw_tail-found-requires-clause-enabled c = let counts = c.in_ok-look_at_counter.ensures.ok in draw_enabled _ _ _ _ _ counts.0 c.requires.latch counts.1 c.in_ok-look_at_counter.ensures.serves

pub step_draw_tail-found-requires-clause-stands : goal.step_draw_tail-found-requires-clause-stands
step_draw_tail-found-requires-clause-stands c = let counts = c.in_ok-look_at_counter.ensures.ok in draw_stands _ _ _ _ _ counts.0 c.requires.latch counts.1 c.requires.host c.requires.own c.requires.judged

pub returns-then-found-layout-clause-err : goal.returns-then-found-layout-clause-err
returns-then-found-layout-clause-err c = let counts = c.in_ok-look_at_counter.ensures.ok in let same = ap (λ (l : Layout). l.limits.tails) c.layout.ensures in let e = ap (λ (l : Limits). l.tails) c.requires.seat.limits in
    draw_full _ _ _ _ _ counts.0 c.requires.latch counts.1 _ _ _ c.step_draw_tail-found.ensures.met c.in_ok-look_at_counter.ensures.kept c.in_ok-look_at_counter.ensures.left (let h = c.if-found-layout.true in omega arith)

pub returns-clause-ok : goal.returns-clause-ok
returns-clause-ok c = let counts = c.in_ok-look_at_counter.ensures.ok in let same = ap (λ (l : Layout). l.limits.tails) c.layout.ensures in let e = ap (λ (l : Limits). l.tails) c.requires.seat.limits in
    draw_won _ _ _ _ _ counts.0 c.requires.latch counts.1 _ _ _ c.step_draw_tail-found.ensures.met c.in_ok-look_at_counter.ensures.kept (let h = c.if-found-layout.false in omega arith)
