use Rattle.std.proofs.Common.{ap, arith}
use Rattle.lst_layout.specs.declared.layout.Layout.{Layout}
use Rattle.lst_layout.specs.declared.limits.Limits.{Limits}
use Rattle.lst_write.proofs.Drawing.{counter_left, counter_full, counter_serves, counter_below}
use Rattle.lst_write.proofs.tails.look_at_counter.Goals as goal

pub returns-then-load_tail_counter-layout-clause-err : goal.returns-then-load_tail_counter-layout-clause-err
returns-then-load_tail_counter-layout-clause-err c = let same = ap (λ (l : Layout). l.limits.tails) c.layout.ensures in let e = ap (λ (l : Limits). l.tails) c.requires.seat.limits in
    counter_full _ _ _ _ _ c.load_tail_counter.ensures.looked c.requires.latch (let h = c.if-load_tail_counter-layout.true in omega arith)

pub returns-clause-ok : goal.returns-clause-ok
returns-clause-ok c = let same = ap (λ (l : Layout). l.limits.tails) c.layout.ensures in let e = ap (λ (l : Limits). l.tails) c.requires.seat.limits in
    (c.load_tail_counter.result, counter_left _ _ _ _ _ c.load_tail_counter.ensures.looked (let h = c.if-load_tail_counter-layout.false in omega arith))

pub returns-clause-serves : goal.returns-clause-serves
returns-clause-serves c = let same = ap (λ (l : Layout). l.limits.tails) c.layout.ensures in let e = ap (λ (l : Limits). l.tails) c.requires.seat.limits in
    counter_serves _ _ _ _ _ c.load_tail_counter.ensures.looked c.requires.host c.requires.own c.requires.range (let h = c.if-load_tail_counter-layout.false in omega arith)

pub returns-clause-left : goal.returns-clause-left
returns-clause-left c = let same = ap (λ (l : Layout). l.limits.tails) c.layout.ensures in let e = ap (λ (l : Limits). l.tails) c.requires.seat.limits in
    counter_below _ _ _ _ _ c.load_tail_counter.ensures.looked (let h = c.if-load_tail_counter-layout.false in omega arith)
