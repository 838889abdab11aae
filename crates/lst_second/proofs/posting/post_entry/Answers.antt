use Rattle.std.proofs.Common.{ap}
use Rattle.lst_layout.specs.declared.layout.Layout.{Layout}
use Rattle.lst_rule.specs.Rule.{knows}
use Rattle.lst_second.proofs.Runs.{offset_short, offsets_over}
use Rattle.lst_rule.proofs.PostingViews.{posts_none, posts_on}
use Rattle.lst_second.proofs.Passing.{taken_of}
use Rattle.lst_rule.proofs.PostingFacts.{endless}
use Rattle.lst_second.proofs.Entries.{visits_posted}
use Rattle.lst_second.proofs.posting.post_entry.Goals as goal

pub loop-offset-init : goal.loop-offset-init
loop-offset-init c = (posts_none c.args.seat.now.view c.args.s, c.requires.visits)

pub visit-requires-clause-offset : goal.visit-requires-clause-offset
visit-requires-clause-offset c = offset_short c.layout.result.now.limits c.args.store.now.layout.limits c.posting_positions-all.result c.loop-offset.offset c.loop-offset-test.true c.posting_positions-all.ensures.count (ap (λ (y : Layout). y.limits) c.layout.ensures)

pub returns-then-visit-clause-posts : goal.returns-then-visit-clause-posts
returns-then-visit-clause-posts c = posts_on _ _ _ _ c.loop-offset.invariant.0 c.visit.ensures.posts

pub returns-then-visit-clause-posted : goal.returns-then-visit-clause-posted
returns-then-visit-clause-posted c = visits_posted c.args.store.now c.loop-offset.seat c.visit.new.seat c.args.s c.args.entry c.loop-offset.offset c.loop-offset.invariant.1 c.visit.ensures.posts c.visit.ensures.seat (c.visit.ensures.shown c.if-visit.true)

pub loop-offset-preserved : goal.loop-offset-preserved
loop-offset-preserved c = (posts_on _ _ _ _ c.loop-offset.invariant.0 c.visit.ensures.posts, c.visit.ensures.next c.if-visit.false)

pub unreachable-requires : goal.unreachable-requires
unreachable-requires c = endless c.args.store.now.layout.limits c.loop-offset.seat.view c.args.s c.args.entry.column c.args.entry.value c.loop-offset.offset c.loop-offset.invariant.1.seat_of.limits c.loop-offset.invariant.1.host c.consider.ensures
    (taken_of c.args.store.now.layout.limits (knows c.loop-offset.seat.view c.args.s).facts c.args.entry.column c.args.entry.rec c.args.entry.value c.loop-offset.offset c.loop-offset.invariant.1.passed)
    (offsets_over c.layout.result.now.limits c.args.store.now.layout.limits c.posting_positions-all.result c.loop-offset.offset c.loop-offset-test.false c.posting_positions-all.ensures.count (ap (λ (y : Layout). y.limits) c.layout.ensures))
