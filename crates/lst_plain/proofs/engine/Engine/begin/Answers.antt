use Rattle.std.proofs.Common.{sym, subst}
use Rattle.lst_model.specs.declared.lines.Call.TheVariants.{Begin}
use Rattle.lst_machine.specs.Calls.{store_after}
use Rattle.lst_plain.specs.Engines.{EngineState}
use Rattle.lst_plain.specs.Telling.{StoreTells}
use Rattle.lst_plain.specs.EngineOf.{engine_of}
use Rattle.lst_plain.proofs.Answering.{begin_done}
use Rattle.lst_plain.proofs.engine.Engine.begin.Goals as goal

pub returns-clause-answers : goal.returns-clause-answers
returns-clause-answers c = λ limits store told.
    let done = begin_done (engine_of c.args.self.now) limits store told c.args.session c.requires c.args.self.now.whole (sym c.in_default.ensures) in
    (done.0, subst (λ (engine : EngineState). StoreTells engine limits (store_after limits store c.args.session Begin)) (sym c.open.ensures) done.1)
