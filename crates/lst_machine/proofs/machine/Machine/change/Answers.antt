use Rattle.std.proofs.Common.{not, sym, ap, ◌∙◌}
use Rattle.std.proofs.lemmas.Result.{IfOk-weaker}
use Rattle.lst_machine.specs.Machines.{state_of, AnswersWrite, AnswersChange}
use Rattle.lst_machine.proofs.Writing.{change_idle, change_read_only, change_missing, changed_again, absent}
use Rattle.lst_machine.proofs.machine.Machine.change.Goals as goal

pub returns-in_default-clause-ok : goal.returns-in_default-clause-ok
returns-in_default-clause-ok c =
    let done = change_idle c.args.self.now.limits (state_of c.args.self.now) c.args.session c.args.key c.args.act.now c.in_default.ensures in
    (c.refused.ensures ∙ done.0, done.1)

pub returns-then-transaction-clause-ok : goal.returns-then-transaction-clause-ok
returns-then-transaction-clause-ok c =
    let done = change_read_only c.args.self.now.limits (state_of c.args.self.now) c.args.session (record { begin = c.in-Some.transaction.begin; read_only = c.in-Some.transaction.read_only }) c.in-Some.ensures c.args.key c.args.act.now (sym c.if-transaction.true) in
    (c.refused-then-transaction.ensures ∙ done.0, done.1)

pub returns-then-is_none-clause-ok : goal.returns-then-is_none-clause-ok
returns-then-is_none-clause-ok c =
    let done = change_missing c.args.self.now.limits (state_of c.args.self.now) c.args.session (record { begin = c.in-Some.transaction.begin; read_only = c.in-Some.transaction.read_only }) c.in-Some.ensures c.args.key c.args.act.now (sym c.if-transaction.false) (absent c.place.result (c.is_none.ensures ∙ ap not c.if-is_none.true) ∙ c.place.ensures) in
    (c.refused-then-is_none.ensures ∙ done.0, done.1)

pub returns-clause-ok : goal.returns-clause-ok
returns-clause-ok c = IfOk-weaker c.write.result
    (λ reply. AnswersWrite c.args.self.now c.write.new.self c.args.session c.in-Some.transaction.begin c.args.key c.args.act.now reply)
    (λ reply. AnswersChange c.args.self.now c.write.new.self c.args.session c.args.key c.args.act.now reply)
    (λ reply written. changed_again c.args.self.now.limits (state_of c.args.self.now) c.args.session (record { begin = c.in-Some.transaction.begin; read_only = c.in-Some.transaction.read_only }) c.in-Some.ensures c.args.key c.args.act.now c.requires.changes (sym c.if-transaction.false) c.place.result c.place.ensures
    (c.is_none.ensures ∙ ap not c.if-is_none.false) reply (state_of c.write.new.self) written)
    c.write.ensures.ok
