use Rattle.std.proofs.Common.{sym, ◌∙◌}
use Rattle.std.proofs.lemmas.Result.{IfOk-weaker}
use Rattle.lst_serial_laws.specs.Legal.{lines_since_begin}
use Rattle.lst_legal.proofs.Rereading.{at_stale}
use Rattle.lst_legal.proofs.stales.Reads.explain.Goals as goal

pub returns-clause-explained : goal.returns-clause-explained
returns-clause-explained c = IfOk-weaker c.may_be_stale.result _ _
    (λ b decides before session state are current.
    at_stale b c.args.snapshots.now before session state.current c.in-Some.current c.args.reply.now c.in-Some-stale_time.time (sym c.in-Some.is ∙ current) (sym c.stale_time.ensures ∙ c.in-Some-stale_time.is)
    (decides (lines_since_begin session before) are))
    c.may_be_stale.ensures.explained
