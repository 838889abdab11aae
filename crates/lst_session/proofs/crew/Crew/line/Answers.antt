use Rattle.std.proofs.Common.{sym, subst}
use Rattle.lst_layout.specs.declared.limits.Limits.{Limits}
use Rattle.lst_model.specs.Lines.{LineFits}
use Rattle.lst_model.specs.declared.lines.Line.{Line}
use Rattle.lst_model.specs.declared.lines.Line.TheVariants.{Merge}
use Rattle.lst_session.specs.Crews.{AnswersLine}
use Rattle.lst_session.specs.Lines.{LineLeaves, MergeLeaves}
use Rattle.lst_session.proofs.Paged.{call_answers}
use Rattle.lst_session.proofs.Merging.{merge_leaves}
use Rattle.lst_session.proofs.crew.Crew.line.Goals as goal

pub returns-in-Call-clause-machine : goal.returns-in-Call-clause-machine
returns-in-Call-clause-machine c tells = let told = c.call.ensures.machine tells in (
  told.0,
  subst (λ (line : Line). AnswersLine c.args.self.now.seat.view c.call.new.self.seat.view line c.call.result) (sym c.in-Call.is)
      (call_answers c.args.self.now.seat.view c.call.new.self.seat.view c.in-Call.session c.in-Call.call c.call.result told.1),
)

pub merge-requires-clause-page : goal.merge-requires-clause-page
merge-requires-clause-page c = let l : Limits = c.args.self.now.seat.view.limits in subst (LineFits l.sessions l.ranges l.columns) c.in-Merge.is c.requires.fits

pub returns-in-Merge-clause-machine : goal.returns-in-Merge-clause-machine
returns-in-Merge-clause-machine c tells = let told = c.merge.ensures.machine tells in (
  told.0,
  subst (λ (line : Line). AnswersLine c.args.self.now.seat.view c.merge.new.self.seat.view line c.merge_reply.result) (sym c.in-Merge.is)
      (subst (AnswersLine c.args.self.now.seat.view c.merge.new.self.seat.view (Merge c.in-Merge.range c.in-Merge.column)) (sym c.merge_reply.ensures) told.1),
)

pub returns-in-Merge-clause-session : goal.returns-in-Merge-clause-session
returns-in-Merge-clause-session c = subst (λ (line : Line). LineLeaves c.args.self.now.seat.view c.merge.new.self.seat.view line c.merge_reply.result) (sym c.in-Merge.is)
    (subst (MergeLeaves c.args.self.now.seat.view c.merge.new.self.seat.view c.in-Merge.range c.in-Merge.column) (sym c.merge_reply.ensures)
    (merge_leaves c.args.self.now.seat.view c.merge.new.self.seat.view c.in-Merge.range c.in-Merge.column c.merge.result c.merge.ensures.merges))
