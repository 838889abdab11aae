use Rattle.std.proofs.Common.{◌≡◌, true, false, sym, ap, ◌∙◌}
use Rattle.std.proofs.lemmas.Result.{IfOk-weaker}
use Rattle.lst_model.specs.Tables.{Rows, scan_of}
use Rattle.lst_machine.specs.Writes.{sight_of}
use Rattle.lst_machine.specs.Calls.{call_reply}
use Rattle.lst_machine.specs.Scans.{scan_answer}
use Rattle.lst_machine.specs.Machines.{store_of}
use Rattle.lst_machine.proofs.Answering.{scan_idle, scan_done}
use Rattle.lst_machine.proofs.machine.Machine.scan.Goals as goal

pub returns-in_default : goal.returns-in_default
returns-in_default c = c.refused.ensures ∙ scan_idle c.args.self.now.limits (store_of c.args.self.now) c.args.session c.args.call.now c.requires.scan c.in_default.ensures

pub returns-then-lacks_index : goal.returns-then-lacks_index
returns-then-lacks_index c =
    c.refused-then-lacks_index.ensures
    ∙ scan_done c.args.self.now.limits (store_of c.args.self.now) c.args.session c.args.call.now c.requires.scan (record { begin = c.in-Some.transaction.begin; read_only = c.in-Some.transaction.read_only }) c.in-Some.ensures true (sym c.if-lacks_index.true ∙ c.lacks_index.ensures)

pub returns : goal.returns
returns c = IfOk-weaker c.answer_from_rows.result
    (λ reply. (table : Rows) → c.in_ok-rows.rows ≡ scan_of table → reply ≡ scan_answer table c.args.call.now)
    (λ reply. reply ≡ call_reply c.args.self.now.limits (store_of c.args.self.now) c.args.session c.args.call.now)
    (λ reply answer.
    answer (sight_of c.args.self.now.limits (store_of c.args.self.now) c.args.session c.in-Some.transaction.begin) (c.in_ok-rows.ensures ∙ ap scan_of c.in_ok-sight.ensures)
    ∙ scan_done c.args.self.now.limits (store_of c.args.self.now) c.args.session c.args.call.now c.requires.scan (record { begin = c.in-Some.transaction.begin; read_only = c.in-Some.transaction.read_only }) c.in-Some.ensures false (sym c.if-lacks_index.false ∙ c.lacks_index.ensures))
    c.answer_from_rows.ensures
