use Rattle.lst_embedded.specs.Doing.{HaveAudited}
use Rattle.lst_embedded.proofs.audits.audit_all.Given as goal

abbrev pub invariant-loop-round : goal.invariant-loop-round
invariant-loop-round g l = HaveAudited l.store l.fn.auditors l.auditors l.merger l.audits.items l.round
