use Rattle.std.proofs.Common.{◌<◌, length, take, refl, subst, ◌∙◌, arith}
use Rattle.std.proofs.lemmas.List.{take_more_set, length-set}
use Rattle.lst_walk.proofs.Lists.{take_whole}
use Rattle.lst_work.specs.Orders.{AreInOrder}
use Rattle.lst_work.proofs.Ordering.{ordering_first, ordering_then, ordered, one_left_at}
use Rattle.lst_work.proofs.orders.put_in_order.Goals as goal

pub loop-i-init : goal.loop-i-init
loop-i-init c = (ordering_first c.args.sessions c.args.lines.now _ c.requires.long (take 0 c.args.places.now) refl, refl)

pub taken-reply-requires-clause-some : goal.taken-reply-requires-clause-some
taken-reply-requires-clause-some c = let x = c.loop-i.invariant in
    one_left_at c.args.sessions c.args.lines.now _ _ _ c.loop-i.i c.index-lines-i.result x.0 c.loop-i-test.true c.index-lines-i.is c.speaker-speaker.result c.unwrap_or.result c.speaker-speaker.ensures c.unwrap_or.ensures

pub loop-i-preserved : goal.loop-i-preserved
loop-i-preserved c = let e = c.taken-reply.ensures in let x = c.loop-i.invariant in
    let inside : c.loop-i.i < length c.loop-i.places = (let a = x.1 in let b = c.requires.room in let t = c.loop-i-test.true in omega arith) in (
      ordering_then c.args.sessions c.args.lines.now _ _ _ c.loop-i.i c.index-lines-i.result x.0 c.loop-i-test.true c.index-lines-i.is c.speaker-speaker.result c.unwrap_or.result c.speaker-speaker.ensures c.unwrap_or.ensures
          _ c.taken-reply.result _ (take_more_set c.loop-i.places c.loop-i.i (c.speaker-speaker.result, c.taken-reply.result) inside) e.first e.others,
      length-set c.loop-i.places c.loop-i.i (c.speaker-speaker.result, c.taken-reply.result) ∙ x.1,
    )

pub returns-clause-order : goal.returns-clause-order
returns-clause-order c = let x = c.loop-i.invariant in
    subst (AreInOrder c.args.sessions c.args.lines.now _) (take_whole c.loop-i.places c.loop-i.i (let a = x.1 in let b = c.requires.room in let t = c.loop-i-test.false in omega arith))
    (ordered c.args.sessions c.args.lines.now _ _ _ c.loop-i.i x.0 c.loop-i-test.false)
