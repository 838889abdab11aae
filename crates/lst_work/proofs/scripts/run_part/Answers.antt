use Rattle.std.proofs.Common.{sym, subst}
use Rattle.std.specs.List.{All}
use Rattle.lst_work_laws.specs.Runs.{CanRun}
use Rattle.lst_work.proofs.Cutting.{cut_can, part_is}
use Rattle.lst_work.proofs.Growing.{grown_as}
use Rattle.lst_work.proofs.scripts.run_part.Goals as goal

pub phase_onto-requires-clause-can : goal.phase_onto-requires-clause-can
phase_onto-requires-clause-can g c κs within = let l = c.args.store.now.layout.limits in let e = c.phase_end-end.ensures in
    subst (All (CanRun l)) (sym c.lines_between-phase.ensures) (cut_can l c.args.lines.now c.args.start c.phase_end-end.result c.requires.fits e.most e.within)

pub returns-clause-part : goal.returns-clause-part
returns-clause-part g c = let e = c.phase_end-end.ensures in let x = c.in_ok-sessions.ensures.phase in
    grown_as _ c.args.replies.now.items c.phase_onto.new.replies.items _ x
    (part_is c.args.store.now c.args.level c.args.lines.now c.lines_between-phase.result.now c.args.start c.phase_end-end.result c.args.sessions.items c.in_ok-sessions.sessions.items c.args.reads.items c.in_ok-sessions.reads.items c.args.merger.now.seat.view c.phase_onto.new.merger.seat.view x.added
    c.requires.fits e.from e.most e.within e.end c.lines_between-phase.ensures c.in_ok-sessions.ensures.all x.so)
