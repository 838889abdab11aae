use Rattle.std.proofs.Common.{ℕ, false, ap, ◌∙◌}
use Rattle.lst_model.specs.declared.replies.Reply.TheVariants.{Begun}
use Rattle.lst_machine.specs.Machines.{state_of, opens}
use Rattle.lst_machine.proofs.Answering.{begin_refused, begin_done}
use Rattle.lst_machine.proofs.machine.Machine.begin.Goals as goal

pub returns-in-Some-clause-answers : goal.returns-in-Some-clause-answers
returns-in-Some-clause-answers c =
    let done = begin_refused c.args.self.now.limits (state_of c.args.self.now) c.args.session c.in-Some.cause c.in-Some.ensures in
    (c.refused.ensures ∙ done.0, done.1)

pub returns-clause-answers : goal.returns-clause-answers
returns-clause-answers c =
    let done = begin_done c.args.self.now.limits (state_of c.args.self.now) c.args.session c.in_default.ensures in
    (ap Begun c.clock-time.ensures ∙ done.0, c.open.ensures.opens ∙ ap (λ (t : ℕ). opens (state_of c.args.self.now) c.args.session t false) c.clock-time.ensures ∙ done.1)
