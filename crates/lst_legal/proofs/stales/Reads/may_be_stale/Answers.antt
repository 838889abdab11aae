use Rattle.std.proofs.Common.{◌||◌, true, sym, ap, ◌∙◌, arith}
use Rattle.std.specs.List.{list_any}
use Rattle.std.proofs.lemmas.Result.{IfOk-weaker}
use Rattle.lst_replies.specs.Explained.{commit_at}
use Rattle.lst_legal.specs.Serials.{has_written}
use Rattle.lst_legal.proofs.Rereading.{may_be_stale}
use Rattle.lst_legal.proofs.stales.Reads.may_be_stale.Goals as goal

pub returns-then-self-clause-explained : goal.returns-then-self-clause-explained
returns-then-self-clause-explained c = λ front are.
    may_be_stale c.args.snapshots.now c.args.begin c.args.time front c.args.self.now are true (omega arith) (omega arith)
    (ap (λ b. b || list_any (has_written (commit_at c.args.snapshots.now c.args.time)) c.args.self.now.keys.items) (sym c.if-self.true))

pub returns-clause-explained : goal.returns-clause-explained
returns-clause-explained c = IfOk-weaker c.is_told.result _ _
    (λ b wrote front are. may_be_stale c.args.snapshots.now c.args.begin c.args.time front c.args.self.now are b (omega arith) (omega arith)
    (wrote front are ∙ ap (λ w. w || list_any (has_written (commit_at c.args.snapshots.now c.args.time)) c.args.self.now.keys.items) (sym c.if-self.false)))
    c.is_told.ensures.wrote
