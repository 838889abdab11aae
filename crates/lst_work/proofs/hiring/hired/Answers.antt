use Rattle.std.proofs.Common.{◌<◌, length, rules, arith}
use Rattle.lst_work.proofs.Hires.{hiring_on, hired_all, first_rest}
use Rattle.lst_work.proofs.hiring.hired.Goals as goal

pub loop-alloc-preserved : goal.loop-alloc-preserved
loop-alloc-preserved c = let some : 0 < length c.loop-alloc.rest.items = (let h = c.remove.ensures.len in omega arith) in let long = c.loop-alloc.invariant.long in
    hiring_on c.args.level c.args.sessions.items c.loop-alloc.rest.items c.remove.new.self.items c.args.reads.items c.loop-alloc.kept.items c.remove-in-loop-alloc.new.self.items c.loop-alloc.workers.items c.push.new.self.items c.remove.result c.remove-in-loop-alloc.result c.new.result
    c.loop-alloc.invariant
    (first_rest c.loop-alloc.rest.items c.remove.new.self.items c.remove.result some c.remove.ensures.value c.remove.ensures.items)
    (first_rest c.loop-alloc.kept.items c.remove-in-loop-alloc.new.self.items c.remove-in-loop-alloc.result (omega arith) c.remove-in-loop-alloc.ensures.value c.remove-in-loop-alloc.ensures.items)
    c.in_ok-push.ensures.items c.new.ensures.session c.new.ensures.reads record { level_is = c.new.ensures.level; parts = c.new.ensures.none; failed = c.new.ensures.ready }

pub returns : goal.returns
returns c = hired_all c.args.level c.args.sessions.items c.loop-alloc.rest.items c.args.reads.items c.loop-alloc.kept.items c.loop-alloc.workers.items c.loop-alloc.invariant (search rules)
