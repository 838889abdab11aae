use Rattle.lst_serial.proofs.Ending.{end_after, waiting_on, not_tried}
use Rattle.lst_serial.proofs.locks.end_at_last.Goals as goal

pub loop-init : goal.loop-init
loop-init g c = not_tried c.args.store.now c.args.session.now c.requires.ready c.requires.opened

pub loop-preserved : goal.loop-preserved
loop-preserved g c = let e = c.in_default.ensures in waiting_on c.args.store.now c.args.session.now c.loop.session c.try_to_end.new.session c.loop.invariant e.ready e.number e.held

pub returns-in-Some-clause-end : goal.returns-in-Some-clause-end
returns-in-Some-clause-end g c = end_after c.args.store.now c.args.session.now c.loop.session c.try_to_end.new.session c.loop.invariant c.args.keys.now c.args.all c.in-Some.end c.in-Some.ensures.end

pub loop-2-preserved : goal.loop-2-preserved
loop-2-preserved g c = let e = c.in_default-try_to_end.ensures in waiting_on c.args.store.now c.args.session.now c.loop-2.session c.try_to_end-in-loop-2.new.session c.loop-2.invariant e.ready e.number e.held

pub returns-in-Some-try_to_end-clause-end : goal.returns-in-Some-try_to_end-clause-end
returns-in-Some-try_to_end-clause-end g c = end_after c.args.store.now c.args.session.now c.loop-2.session c.try_to_end-in-loop-2.new.session c.loop-2.invariant c.args.keys.now c.args.all c.in-Some-try_to_end.end c.in-Some-try_to_end.ensures.end
