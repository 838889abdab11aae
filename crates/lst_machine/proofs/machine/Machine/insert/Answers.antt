use Rattle.std.proofs.Common.{◌*◌, ◌<◌, ◌≤◌, length, sym, ap, ◌∙◌, arith}
use Rattle.std.proofs.lemmas.Bool.{le-leb, lt-leb}
use Rattle.std.proofs.lemmas.Result.{IfOk-weaker}
use Rattle.lst_model.specs.declared.acts.Act.TheVariants.{Put}
use Rattle.lst_model.specs.declared.lines.Line.TheVariants as line
use Rattle.lst_model.specs.declared.lines.Call.TheVariants as call
use Rattle.lst_machine.specs.Machines.{state_of, AnswersLine, AnswersWrite, AnswersFirst}
use Rattle.lst_machine.proofs.Writing.{insert_idle, insert_read_only, insert_full, inserted_again, inserted_first, absent}
use Rattle.lst_machine.proofs.machine.Machine.insert.Goals as goal

pub returns-in_default-clause-ok : goal.returns-in_default-clause-ok
returns-in_default-clause-ok c =
    let done = insert_idle c.args.self.now.limits (state_of c.args.self.now) c.args.session c.args.key c.args.row.now c.in_default.ensures in
    (c.refused.ensures ∙ done.0, done.1)

pub returns-then-transaction-clause-ok : goal.returns-then-transaction-clause-ok
returns-then-transaction-clause-ok c =
    let done = insert_read_only c.args.self.now.limits (state_of c.args.self.now) c.args.session (record { begin = c.in-Some.transaction.begin; read_only = c.in-Some.transaction.read_only }) c.in-Some.ensures c.args.key c.args.row.now (sym c.if-transaction.true) in
    (c.refused-then-transaction.ensures ∙ done.0, done.1)

pub returns-then-is_some-clause-ok : goal.returns-then-is_some-clause-ok
returns-then-is_some-clause-ok c = IfOk-weaker c.write.result
    (λ reply. AnswersWrite c.args.self.now c.write.new.self c.args.session c.in-Some.transaction.begin c.args.key (Put c.copied.result) reply)
    (λ reply. AnswersLine c.args.self.now c.write.new.self (line.Call c.args.session (call.Insert c.args.key c.args.row.now)) reply)
    (λ reply written. inserted_again c.args.self.now.limits (state_of c.args.self.now) c.args.session (record { begin = c.in-Some.transaction.begin; read_only = c.in-Some.transaction.read_only }) c.in-Some.ensures c.args.key c.args.row.now (Put c.copied.result) (ap Put c.copied.ensures)
    (sym c.if-transaction.false) c.place.result c.place.ensures (sym c.is_some.ensures ∙ c.if-is_some.true) reply (state_of c.write.new.self) written)
    c.write.ensures.ok

pub returns-then-len-self-clause-ok : goal.returns-then-len-self-clause-ok
returns-then-len-self-clause-ok c =
    let full : 256 * c.args.self.now.limits.ranges ≤ length c.args.self.now.placed.items = omega (arith, c.len.ensures, c.if-len-self.true) in
    let done = insert_full c.args.self.now.limits (state_of c.args.self.now) c.args.session (record { begin = c.in-Some.transaction.begin; read_only = c.in-Some.transaction.read_only }) c.in-Some.ensures c.args.key c.args.row.now (sym c.if-transaction.false) (absent c.place.result (sym c.is_some.ensures ∙ c.if-is_some.false) ∙ c.place.ensures) (sym (le-leb _ _ full)) in
    (c.refused-then-len-self.ensures ∙ done.0, done.1)

pub returns-clause-ok : goal.returns-clause-ok
returns-clause-ok c =
    let room : length c.args.self.now.placed.items < 256 * c.args.self.now.limits.ranges = omega (arith, c.len.ensures, c.if-len-self.false) in
    IfOk-weaker c.write_first.result
    (λ reply. AnswersFirst c.args.self.now c.write_first.new.self c.args.session c.in-Some.transaction.begin c.args.key (Put c.copied.result) reply)
    (λ reply. AnswersLine c.args.self.now c.write_first.new.self (line.Call c.args.session (call.Insert c.args.key c.args.row.now)) reply)
    (λ reply written. inserted_first c.args.self.now.limits (state_of c.args.self.now) c.args.session (record { begin = c.in-Some.transaction.begin; read_only = c.in-Some.transaction.read_only }) c.in-Some.ensures c.args.key c.args.row.now (Put c.copied.result) (ap Put c.copied.ensures)
    (sym c.if-transaction.false) (absent c.place.result (sym c.is_some.ensures ∙ c.if-is_some.false) ∙ c.place.ensures) (sym (lt-leb _ _ room)) reply (state_of c.write_first.new.self) written)
    c.write_first.ensures.ok
