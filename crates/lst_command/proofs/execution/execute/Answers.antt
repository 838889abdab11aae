use Rattle.std.proofs.Common.{List, ◌+◌, drop, subst, sym, ◌∙◌, arith}
use Rattle.std.proofs.lemmas.Option.{get_or_from_slice_get}
use Rattle.lst_layout.specs.declared.limits.Limits.{Limits}
use Rattle.lst_model.specs.declared.lines.Line.{Line}
use Rattle.lst_machine.specs.State.{opening}
use Rattle.lst_machine.specs.Machine.{state_after}
use Rattle.lst_command.specs.Owed.{run_text}
use Rattle.lst_command.specs.Runs.{IsTaken, HasRun}
use Rattle.lst_command.proofs.Running.{drop-line}
use Rattle.lst_command.proofs.execution.execute.Goals as goal

pub answer-requires-clause-taken : goal.answer-requires-clause-taken
answer-requires-clause-taken c = let at = sym (get_or_from_slice_get c.args.script.now c.loop-place.place c.put_line.new.line c.put_line.new.line c.put_line.ensures) in
    subst (λ (limits : Limits). IsTaken limits c.put_line.new.line) (sym c.loop-place.invariant.limits)
    (subst (IsTaken c.args.limits.now) (sym at) (c.requires.taken c.loop-place.place c.put_line.new.line (omega arith)))

pub loop-place-preserved : goal.loop-place-preserved
loop-place-preserved c = let at = sym (get_or_from_slice_get c.args.script.now c.loop-place.place c.put_line.new.line c.put_line.new.line c.put_line.ensures) in record {
  crew = c.answer.ensures.crew;
  tells = c.in_ok-answer.ensures.tells;
  limits = c.in_ok-answer.ensures.limits ∙ c.loop-place.invariant.limits;
  run = c.in_ok-answer.ensures.run c.args.limits.now (drop (c.loop-place.place + 1) c.args.script.now) (run_text c.args.limits.now c.args.script.now) (state_after c.args.limits.now opening c.args.script.now) c.loop-place.invariant.limits
      (subst (λ (lines : List Line). HasRun c.args.limits.now c.loop-place.crew.seat.view c.loop-place.text lines (run_text c.args.limits.now c.args.script.now) (state_after c.args.limits.now opening c.args.script.now))
      (drop-line c.args.script.now c.loop-place.place c.put_line.new.line (omega arith) at) c.loop-place.invariant.run);
}
