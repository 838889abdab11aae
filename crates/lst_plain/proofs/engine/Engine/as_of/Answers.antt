use Rattle.std.proofs.Common.{[], ◌∷◌, ap, sym, ◌∙◌, subst}
use Rattle.std.specs.Prelude.{nat_lt}
use Rattle.lst_model.specs.declared.lines.Call.TheVariants.{AsOf}
use Rattle.lst_model.specs.declared.replies.Cause.TheVariants.{Future}
use Rattle.lst_machine.specs.Calls.{store_after, first_of, where_true}
use Rattle.lst_plain.specs.Engines.{EngineState}
use Rattle.lst_plain.specs.Telling.{StoreTells}
use Rattle.lst_plain.specs.EngineOf.{engine_of}
use Rattle.lst_plain.proofs.Answering.{as_of_refused, as_of_done}
use Rattle.lst_plain.proofs.engine.Engine.as_of.Goals as goal

pub returns-in-Some-clause-answers : goal.returns-in-Some-clause-answers
returns-in-Some-clause-answers c = λ limits store told.
    let refused = as_of_refused (engine_of c.args.self.now) limits store told c.args.session c.requires c.args.self.now.whole c.args.time c.in-Some.cause
    (ap (λ r. first_of (r ∷ where_true (nat_lt c.args.self.now.clock c.args.time) (Future c.args.self.now.clock) ∷ [])) (sym c.in-Some.ensures)) in
    (c.refused.ensures ∙ refused.0, refused.1)

pub returns-clause-answers : goal.returns-clause-answers
returns-clause-answers c = λ limits store told.
    let done = as_of_done (engine_of c.args.self.now) limits store told c.args.session c.requires c.args.self.now.whole c.args.time (sym c.in_default.ensures) c.if-self-time.false in
    (done.0, subst (λ (engine : EngineState). StoreTells engine limits (store_after limits store c.args.session (AsOf c.args.time))) (sym c.open.ensures) done.1)
