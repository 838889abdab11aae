use Rattle.std.proofs.Common.{ℕ, length, sym, ap, ◌∙◌, arith}
use Rattle.std.proofs.lemmas.Bool.{lt-ltb, le-ltb}
use Rattle.lst_model.specs.declared.replies.Reply.TheVariants.{Refused}
use Rattle.lst_model.specs.declared.replies.Cause.TheVariants.{Future}
use Rattle.lst_machine.specs.Machines.{state_of}
use Rattle.lst_machine.proofs.Answering.{as_of_refused, as_of_future, as_of_done}
use Rattle.lst_machine.proofs.machine.Machine.as_of.Goals as goal

pub returns-in-Some-clause-answers : goal.returns-in-Some-clause-answers
returns-in-Some-clause-answers c =
    let done = as_of_refused c.args.self.now.limits (state_of c.args.self.now) c.args.session c.args.time c.in-Some.cause c.in-Some.ensures in
    (c.refused.ensures ∙ done.0, done.1)

pub returns-then-clock-time-clause-answers : goal.returns-then-clock-time-clause-answers
returns-then-clock-time-clause-answers c =
    let late = sym (lt-ltb (length c.args.self.now.history) c.args.time (omega (arith, c.clock-clock.ensures, c.if-clock-time.true))) in
    let done = as_of_future c.args.self.now.limits (state_of c.args.self.now) c.args.session c.args.time c.in_default.ensures late in
    (c.refused-then-clock-time.ensures ∙ ap (λ (n : ℕ). Refused (Future n)) c.clock-clock.ensures ∙ done.0, done.1)

pub returns-clause-answers : goal.returns-clause-answers
returns-clause-answers c =
    let early = sym (le-ltb (length c.args.self.now.history) c.args.time (omega (arith, c.clock-clock.ensures, c.if-clock-time.false))) in
    let done = as_of_done c.args.self.now.limits (state_of c.args.self.now) c.args.session c.args.time c.in_default.ensures early in
    (done.0, c.open.ensures.opens ∙ done.1)
