use Rattle.std.proofs.Common.{◌∙◌}
use Rattle.lst_machine.specs.Machines.{state_of}
use Rattle.lst_machine.proofs.Answering.{abort_idle, abort_done}
use Rattle.lst_machine.proofs.machine.Machine.abort.Goals as goal

pub returns-in_default-clause-ok : goal.returns-in_default-clause-ok
returns-in_default-clause-ok c =
    let done = abort_idle c.args.self.now.limits (state_of c.args.self.now) c.args.session c.in_default.ensures in
    (c.refused.ensures ∙ done.0, done.1)

pub returns-clause-ok : goal.returns-clause-ok
returns-clause-ok c =
    let done = abort_done c.args.self.now.limits (state_of c.args.self.now) c.args.session (record { begin = c.in-Some._transaction.begin; read_only = c.in-Some._transaction.read_only }) c.in-Some.ensures in
    (done.0, c.in_ok-close.ensures.ok ∙ done.1)
