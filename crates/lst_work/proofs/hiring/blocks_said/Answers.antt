use Rattle.std.proofs.Common.{◌≡◌, map, length, ap, rules, arith}
use Rattle.std.proofs.lemmas.List.{nil_from_length}
use Rattle.lst_work.proofs.Hires.{first_rest}
use Rattle.lst_work.proofs.Parting.{parting_on, parted_all}
use Rattle.lst_work.proofs.hiring.blocks_said.Goals as goal

pub loop-alloc-preserved : goal.loop-alloc-preserved
loop-alloc-preserved c =
    let rest = first_rest c.loop-alloc.rest.items c.remove.new.self.items c.remove.result (let h = c.remove.ensures.len in omega arith) c.remove.ensures.value c.remove.ensures.items in
    parting_on c.args.workers.now.items c.loop-alloc.workers.items c.next_queues.new.workers.items c.args.merges.items c.loop-alloc.rest.items
    c.remove.new.self.items c.remove.result c.loop-alloc.blocks.items c.push.new.self.items record { queues = c.in_ok-queues.queues } c.loop-alloc.invariant
    rest c.in_ok-queues.ensures c.in_ok-push.ensures.items

pub returns-clause-parts : goal.returns-clause-parts
returns-clause-parts c = let none : length c.loop-alloc.rest.items ≡ 0 = search rules in
    parted_all c.args.workers.now.items c.loop-alloc.workers.items c.args.merges.items c.loop-alloc.rest.items c.loop-alloc.blocks.items c.loop-alloc.invariant
    none
