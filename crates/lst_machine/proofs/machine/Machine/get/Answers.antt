use Rattle.std.proofs.Common.{refl, ap, ◌∙◌}
use Rattle.lst_model.specs.Tables.{Rows, row_of}
use Rattle.lst_machine.specs.Writes.{sight_of}
use Rattle.lst_machine.specs.Calls.{row_reply}
use Rattle.lst_machine.specs.Machines.{store_of}
use Rattle.lst_machine.proofs.Answering.{get_idle, get_done}
use Rattle.lst_machine.proofs.machine.Machine.get.Goals as goal

pub returns-in_default : goal.returns-in_default
returns-in_default c = c.refused.ensures ∙ get_idle c.args.self.now.limits (store_of c.args.self.now) c.args.session c.args.key c.in_default.ensures

pub returns-in-Some-row : goal.returns-in-Some-row
returns-in-Some-row c =
    ap row_reply (c.in-Some-row.ensures ∙ ap (λ (table : Rows). row_of table c.args.key) c.in_ok-sight.ensures)
    ∙ get_done c.args.self.now.limits (store_of c.args.self.now) c.args.session c.args.key (record { begin = c.in-Some.transaction.begin; read_only = c.in-Some.transaction.read_only }) c.in-Some.ensures (row_of (sight_of c.args.self.now.limits (store_of c.args.self.now) c.args.session c.in-Some.transaction.begin) c.args.key) refl

pub returns : goal.returns
returns c =
    ap row_reply (c.in-None.ensures ∙ ap (λ (table : Rows). row_of table c.args.key) c.in_ok-sight.ensures)
    ∙ get_done c.args.self.now.limits (store_of c.args.self.now) c.args.session c.args.key (record { begin = c.in-Some.transaction.begin; read_only = c.in-Some.transaction.read_only }) c.in-Some.ensures (row_of (sight_of c.args.self.now.limits (store_of c.args.self.now) c.args.session c.in-Some.transaction.begin) c.args.key) refl
