use Rattle.std.proofs.Common.{ℕ, List, subst, sym}
use Rattle.lst_command.specs.Runs.{HasRun}
use Rattle.lst_command.proofs.Running.{one_line_run}
use Rattle.lst_command.proofs.execution.answer.Goals as goal

pub returns-clause-run : goal.returns-clause-run
returns-clause-run c limits rest whole last same so_far = subst (λ (text : List ℕ). HasRun limits c.crew_line.new.crew.seat.view text rest whole last) (sym c.in_ok-push_line.ensures)
    (one_line_run limits c.args.crew.now.seat.view c.crew_line.new.crew.seat.view c.args.text.now c.args.line.now rest whole last c.in_ok-reply.reply same so_far (c.in_ok-reply.ensures.machine c.requires.tells).1)
