use Rattle.lst_session.proofs.Waiting.{end_after, waiting_on, not_tried}
use Rattle.lst_session.proofs.locks.end_at_last.Goals as goal

pub loop-init : goal.loop-init
loop-init g c = not_tried c.args.store.now c.args.session.now c.requires.ready c.requires.opened

pub loop-preserved : goal.loop-preserved
loop-preserved g c = let e = c.in_default.ensures in waiting_on c.args.store.now c.args.session.now c.loop.session c.try_to_end.new.session e.ready e.number c.loop.invariant e.held

pub returns-in-Some-clause-end : goal.returns-in-Some-clause-end
returns-in-Some-clause-end g c = end_after c.args.store.now c.args.session.now c.loop.session c.try_to_end.new.session c.in-Some.outcome c.loop.invariant c.in-Some.ensures.end

pub loop-2-preserved : goal.loop-2-preserved
loop-2-preserved g c = let e = c.in_default-try_to_end.ensures in waiting_on c.args.store.now c.args.session.now c.loop-2.session c.try_to_end-in-loop-2.new.session e.ready e.number c.loop-2.invariant e.held

pub returns-in-Some-try_to_end-clause-end : goal.returns-in-Some-try_to_end-clause-end
returns-in-Some-try_to_end-clause-end g c = end_after c.args.store.now c.args.session.now c.loop-2.session c.try_to_end-in-loop-2.new.session c.in-Some-try_to_end.outcome c.loop-2.invariant c.in-Some-try_to_end.ensures.end
