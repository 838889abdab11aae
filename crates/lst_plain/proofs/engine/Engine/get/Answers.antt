use Rattle.std.proofs.Common.{ap, sym, ◌∙◌}
use Rattle.lst_plain.specs.Rows.{Kept, row_seen}
use Rattle.lst_machine.specs.Calls.{row_reply}
use Rattle.lst_plain.specs.EngineOf.{engine_of}
use Rattle.lst_plain.proofs.Answering.{get_absent, get_row}
use Rattle.lst_plain.proofs.engine.Engine.get.Goals as goal

pub returns-in_default-place : goal.returns-in_default-place
returns-in_default-place c = λ limits store told.
    get_absent (engine_of c.args.self.now) limits store told c.args.session c.requires c.args.self.now.whole c.in-Some.transaction (sym c.in-Some.ensures) c.args.key (sym c.in_default-place.ensures)

pub returns-in-Some-row : goal.returns-in-Some-row
returns-in-Some-row c = λ limits store told.
    ap row_reply (c.in-Some-row.ensures ∙ ap (λ (kept : Kept). row_seen kept c.args.session c.in-Some.transaction.begin) c.at.ensures)
    ∙ get_row (engine_of c.args.self.now) limits store told c.args.session c.requires c.args.self.now.whole c.in-Some.transaction (sym c.in-Some.ensures) c.args.key c.in-Some-place.place c.at.result.now (sym c.in-Some-place.ensures)

pub returns-in-None : goal.returns-in-None
returns-in-None c = λ limits store told.
    ap row_reply (c.in-None.ensures ∙ ap (λ (kept : Kept). row_seen kept c.args.session c.in-Some.transaction.begin) c.at.ensures)
    ∙ get_row (engine_of c.args.self.now) limits store told c.args.session c.requires c.args.self.now.whole c.in-Some.transaction (sym c.in-Some.ensures) c.args.key c.in-Some-place.place c.at.result.now (sym c.in-Some-place.ensures)
