use Rattle.std.proofs.Common.{◌<◌, ◌≤◌, List, [], ◌∷◌, length, map, refl, sym, ap, ◌∙◌, rules, arith}
use Rattle.std.proofs.lemmas.List.{map-append}
use Rattle.lst_model.specs.declared.replies.Reply.{Reply}
use Rattle.lst_work.proofs.Hires.{first_rest}
use Rattle.lst_work.proofs.Parting.{taking_on, taken_all}
use Rattle.lst_work.proofs.hiring.next_queues.Goals as goal

pub loop-i-preserved : goal.loop-i-preserved
loop-i-preserved c = let worker = c.index_mut.result.now in let x = c.loop-i.invariant in
    let low : c.loop-i.i < length c.loop-i.workers.items = search rules in
    let rest = first_rest worker.parts.items c.remove-part.new.self.items c.remove-part.result (let h = c.remove-part.ensures.len in omega arith) c.remove-part.ensures.value c.remove-part.ensures.items in
    taking_on c.args.workers.now.items c.loop-i.workers.items c.loop-i.queues.items _ c.loop-i.i worker record worker { parts = c.remove-part.new.self } c.remove-part.result x low c.index_mut.ensures.value refl refl
    rest
    c.in_ok-push.ensures.items

pub returns : goal.returns
returns c = let past : length c.loop-i.workers.items ≤ c.loop-i.i = search rules in
    taken_all c.args.workers.now.items c.loop-i.workers.items c.loop-i.queues.items _ c.args.merges c.loop-i.i c.loop-i.invariant past
    c.in_ok-push-2.ensures.items
