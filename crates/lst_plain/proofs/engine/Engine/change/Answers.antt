use Rattle.std.proofs.Common.{◌≡◌, sym, subst, ◌∙◌}
use Rattle.std.proofs.lemmas.Result.{IfOk-weaker}
use Rattle.lst_machine.specs.Calls.{after_change}
use Rattle.lst_plain.specs.Engines.{EngineState}
use Rattle.lst_plain.specs.Steps.{reply_to_write, after_write}
use Rattle.lst_plain.specs.Telling.{StoreTells}
use Rattle.lst_plain.specs.EngineOf.{engine_of, AnswersChange}
use Rattle.lst_plain.proofs.Answering.{change_open, change_misfits}
use Rattle.lst_plain.proofs.engine.Engine.change.Goals as goal

pub returns-in-Some-place-clause-ok : goal.returns-in-Some-place-clause-ok
returns-in-Some-place-clause-ok c = IfOk-weaker c.write.result
    (λ reply. (reply ≡ reply_to_write (engine_of c.args.self.now) c.args.session c.in-Some.transaction.begin c.in-Some-place.place c.args.act.now) × (engine_of c.write.new.self ≡ after_write (engine_of c.args.self.now) c.args.session c.in-Some.transaction.begin c.in-Some-place.place c.args.act.now))
    (λ reply. AnswersChange c.args.self.now c.write.new.self c.args.session c.args.key c.args.act.now reply)
    (λ reply written limits store told.
    let done = change_open (engine_of c.args.self.now) limits store told c.args.session c.requires.within c.args.self.now.whole c.in-Some.transaction (sym c.in-Some.ensures) c.args.key c.in-Some-place.place (sym c.in-Some-place.ensures) c.if-transaction.false c.args.act.now (change_misfits c.args.act.now c.requires.changes) in
    (written.0 ∙ done.0, subst (λ (engine : EngineState). StoreTells engine limits (after_change limits store c.args.session (store.opened c.args.session) c.args.key c.args.act.now)) (sym written.1) done.1))
    c.write.ensures.ok
