use Rattle.lst_work.proofs.Cutting.{between_first, between_on, between_all, between_ends}
use Rattle.lst_work.proofs.Growing.{grown_alone}
use Rattle.lst_work.proofs.scripts.run_phases.Goals as goal

pub loop-end-init : goal.loop-end-init
loop-end-init g c = between_first c.args.store.now c.args.level c.args.lines.now c.args.sessions.items c.in_ok-first.first.sessions.items c.args.reads.items c.in_ok-first.first.reads.items c.args.merger.now c.run_part.new.merger c.run_part.new.replies.items c.in_ok-first.first.end c.requires.all c.run_part.ensures.merger
    c.in_ok-first.ensures.long (grown_alone _ c.new-replies.result.items c.run_part.new.replies.items c.new-replies.ensures.items c.in_ok-first.ensures.part)

pub returns-clause-run : goal.returns-clause-run
returns-clause-run g c = between_all c.args.store.now c.args.level c.args.lines.now c.args.sessions.items c.loop-end.passes.items c.args.reads.items c.loop-end.kept.items c.args.merger.now c.loop-end.merger c.loop-end.replies.items c.loop-end.end c.loop-end.invariant c.loop-end-test.false

pub returns-clause-ends : goal.returns-clause-ends
returns-clause-ends g c = between_ends c.args.store.now c.args.level c.args.lines.now c.args.sessions.items c.loop-end.passes.items c.args.reads.items c.loop-end.kept.items c.args.merger.now c.loop-end.merger c.loop-end.replies.items c.loop-end.end c.loop-end.invariant c.loop-end-test.false
    c.requires.none c.requires.long

pub loop-end-preserved : goal.loop-end-preserved
loop-end-preserved g c = let x = c.in_ok-part.ensures.part in
    between_on c.args.store.now c.args.level c.args.lines.now c.args.sessions.items c.loop-end.passes.items c.heard-told.result.items c.in_ok-part.part.sessions.items c.args.reads.items c.loop-end.kept.items c.in_ok-part.part.reads.items c.args.merger.now c.loop-end.merger c.run_part-in-loop-end.new.merger
    c.loop-end.replies.items x.added c.run_part-in-loop-end.new.replies.items c.loop-end.end c.in_ok-part.part.end c.requires.all c.loop-end.invariant c.loop-end-test.true
    c.heard-told.ensures.heard c.heard-told.ensures.all c.run_part-in-loop-end.ensures.merger c.in_ok-part.ensures.long x.so x.grows
