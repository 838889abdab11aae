use Rattle.lst_core_pages.proofs.Openings.{made_core, made_state}
use Rattle.lst_core_pages.proofs.page_core.PageCore.new.Goals as goal

pub invariant_of-result : goal.invariant_of-result
invariant_of-result c = made_core c.args.layout.now.limits c.args.layout.now.valid c.in_ok-words.words.items c.in_ok-words.ensures c.in_ok-hands.hands.items c.in_ok-tails.tails.items c.in_ok-queue.queue c.frame_count.result c.frame_count.ensures.count c.in_ok-hands.ensures c.in_ok-tails.ensures c.in_ok-queue.ensures

pub returns-clause-state : goal.returns-clause-state
returns-clause-state c = made_state c.args.layout.now.limits c.args.layout.now.valid c.in_ok-words.words.items c.in_ok-words.ensures c.in_ok-hands.hands.items c.in_ok-tails.tails.items c.in_ok-queue.queue c.frame_count.result c.frame_count.ensures.count c.in_ok-hands.ensures c.in_ok-tails.ensures c.in_ok-queue.ensures

pub returns-clause-sound : goal.returns-clause-sound
returns-clause-sound c = (made_core c.args.layout.now.limits c.args.layout.now.valid c.in_ok-words.words.items c.in_ok-words.ensures c.in_ok-hands.hands.items c.in_ok-tails.tails.items c.in_ok-queue.queue c.frame_count.result c.frame_count.ensures.count c.in_ok-hands.ensures c.in_ok-tails.ensures c.in_ok-queue.ensures).sound
