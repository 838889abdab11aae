use Rattle.std.proofs.Common.{sym, subst}
use Rattle.lst_model.specs.declared.lines.Call.{Call}
use Rattle.lst_plain.specs.EngineOf.{AnswersCall}
use Rattle.lst_plain.proofs.engine.Engine.call.Goals as goal

pub returns-in-Abort-clause-ok : goal.returns-in-Abort-clause-ok
returns-in-Abort-clause-ok c = subst (λ (call : Call). AnswersCall c.args.self.now c.abort.new.self c.args.session call c.abort.result) (sym c.in-Abort.is) c.abort.ensures.answers
