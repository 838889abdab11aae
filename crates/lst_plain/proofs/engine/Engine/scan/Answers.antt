use Rattle.std.proofs.Common.{◌≡◌, sym, ◌∙◌}
use Rattle.std.proofs.lemmas.Result.{IfOk-weaker}
use Rattle.lst_layout.specs.declared.limits.Limits.{Limits}
use Rattle.lst_model.specs.Tables.{Rows, scan_of}
use Rattle.lst_machine.specs.State.{Store}
use Rattle.lst_machine.specs.Writes.{sight_of}
use Rattle.lst_machine.specs.Calls.{call_reply}
use Rattle.lst_machine.specs.Scans.{scan_answer}
use Rattle.lst_plain.specs.Telling.{StoreTells}
use Rattle.lst_plain.specs.EngineOf.{engine_of}
use Rattle.lst_plain.proofs.Scanned.{scan_idle, scan_lacks, scan_told}
use Rattle.lst_plain.proofs.engine.Engine.scan.Goals as goal

pub returns-in_default : goal.returns-in_default
returns-in_default c = λ limits store told.
    c.refused.ensures
    ∙ scan_idle (engine_of c.args.self.now) limits store told c.args.session c.requires.within c.args.self.now.whole c.args.call.now c.requires.scan (sym c.in_default.ensures)

pub returns-then-lacks_index : goal.returns-then-lacks_index
returns-then-lacks_index c = λ limits store told.
    c.refused-then-lacks_index.ensures
    ∙ scan_lacks (engine_of c.args.self.now) limits store told c.args.session c.requires.within c.args.self.now.whole c.in-Some.transaction (sym c.in-Some.ensures) c.args.call.now c.requires.scan
    (sym c.lacks_index.ensures ∙ c.if-lacks_index.true)

pub returns : goal.returns
returns c = IfOk-weaker c.answer_from_rows.result
    (λ reply. (table : Rows) → c.in_ok-rows.rows ≡ scan_of table → reply ≡ scan_answer table c.args.call.now)
    (λ reply. (limits : Limits) (store : Store) → StoreTells (engine_of c.args.self.now) limits store → reply ≡ call_reply limits store c.args.session c.args.call.now)
    (λ reply answer limits store told.
    scan_told (engine_of c.args.self.now) limits store told c.args.session c.requires.within c.args.self.now.whole c.in-Some.transaction (sym c.in-Some.ensures) c.args.call.now c.requires.scan
    (sym c.lacks_index.ensures ∙ c.if-lacks_index.false) reply
    (answer (sight_of limits store c.args.session c.in-Some.transaction.begin) (c.in_ok-rows.ensures limits store told)))
    c.answer_from_rows.ensures
