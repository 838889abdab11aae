use Rattle.std.proofs.Common.{List, length, drop, refl, subst, sym, ap, ◌∙◌, arith}
use Rattle.lst_reply_queue.specs.declared.kinds.Kind.{Kind}
use Rattle.lst_reply_queue.specs.Kinds.{AreKept}
use Rattle.lst_reply_queue.proofs.Taking.{takes_none, enough, are_wide, are_whole, told_leaves, takes_told, other_leaves, takes_other}
use Rattle.lst_reply_queue.proofs.queue.ReplyQueue.pop.Goals as goal

pub invariant_of-self : goal.invariant_of-self
invariant_of-self c = (c.self.invariant.0, subst (λ (ks : List Kind). AreKept ks (drop c.self.inside.taken c.self.inside.numbers.items) c.self.inside.others.items) c.in_err-kind.ensures.items c.self.invariant.1)

pub returns-in_err-kind : goal.returns-in_err-kind
returns-in_err-kind c = takes_none c.self.inside.kinds.items _ _ c.self.inside.others.items _ _ c.self.view_is c.in_err-kind.ensures.items c.in_err-kind.ensures.rest c.from_residual.ensures

pub overflow_add-end : goal.overflow_add-end
overflow_add-end c = let e = enough c.self.inside.kinds.items _ _ c.self.inside.numbers.items c.self.inside.numbers.items c.self.inside.taken c.width.result c.self.inside.others.items c.self.invariant c.in_ok-kind.ensures.items c.width.ensures refl in let r = c.self.ranges in omega arith

pub slice_bounds-told-end : goal.slice_bounds-told-end
slice_bounds-told-end c = let e = enough c.self.inside.kinds.items _ _ c.self.inside.numbers.items _ c.self.inside.taken c.width.result c.self.inside.others.items c.self.invariant c.in_ok-kind.ensures.items c.width.ensures c.deref.ensures.value in let n = ap length c.deref.ensures.value in omega arith

pub told-reply-requires-clause-wide : goal.told-reply-requires-clause-wide
told-reply-requires-clause-wide c = are_wide c.self.inside.kinds.items _ _ c.self.inside.numbers.items _ c.self.inside.taken _ c.self.inside.others.items c.self.invariant c.in_ok-kind.ensures.items c.width.ensures c.deref.ensures.value

pub told-reply-requires-clause-whole : goal.told-reply-requires-clause-whole
told-reply-requires-clause-whole c = are_whole c.self.inside.kinds.items _ _ c.self.inside.numbers.items _ c.self.inside.taken _ c.self.inside.others.items c.self.invariant c.in_ok-kind.ensures.items c.width.ensures c.deref.ensures.value

pub invariant_of-self-then-is_some : goal.invariant_of-self-then-is_some
invariant_of-self-then-is_some c = told_leaves c.self.inside.kinds.items _ _ c.self.inside.numbers.items _ c.self.inside.taken _ c.self.inside.others.items c.self.invariant c.in_ok-kind.ensures.items c.width.ensures c.deref.ensures.value
    _ c.told-reply.ensures (sym c.is_some.ensures ∙ c.if-is_some.true)

pub returns-then-is_some : goal.returns-then-is_some
returns-then-is_some c = takes_told c.self.inside.kinds.items _ _ c.self.inside.numbers.items _ c.self.inside.taken _ c.self.inside.others.items c.self.invariant c.in_ok-kind.ensures.items c.width.ensures c.deref.ensures.value
    _ _ c.told-reply.ensures (sym c.is_some.ensures ∙ c.if-is_some.true) c.self.view_is

pub invariant_of-self-2 : goal.invariant_of-self-2
invariant_of-self-2 c = other_leaves c.self.inside.kinds.items _ _ c.self.inside.numbers.items _ c.self.inside.taken _ c.self.inside.others.items c.self.invariant c.in_ok-kind.ensures.items c.width.ensures c.deref.ensures.value
    _ _ c.told-reply.ensures (sym c.is_some.ensures ∙ c.if-is_some.false) c.pop_front-2.ensures.rest

pub returns : goal.returns
returns c = takes_other c.self.inside.kinds.items _ _ c.self.inside.numbers.items _ c.self.inside.taken _ c.self.inside.others.items c.self.invariant c.in_ok-kind.ensures.items c.width.ensures c.deref.ensures.value
    _ _ _ _ c.told-reply.ensures (sym c.is_some.ensures ∙ c.if-is_some.false) c.pop_front-2.ensures.items c.pop_front-2.ensures.rest c.self.view_is
