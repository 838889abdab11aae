use Rattle.std.proofs.Common.{rules}
use Rattle.std.proofs.Common.{subst, arith}
use Rattle.std.specs.Prelude.{ℕ, Option}
use Rattle.lst_changes.specs.Changes.{LastWrite}
use Rattle.lst_session.proofs.Taking.{unchanged_none, unchanged_old}
use Rattle.lst_session.proofs.turns.above.Goals as goal

pub returns-else-time-begin : goal.returns-else-time-begin
returns-else-time-begin c history key last = let h = c.if-time-begin.false in unchanged_old history key c.args.begin c.in-Some.time (subst (λ (o : Option ℕ). LastWrite history key o) c.in-Some.is last) (omega arith)

pub returns-in-None : goal.returns-in-None
returns-in-None c history key last = unchanged_none history key c.args.begin (subst (λ (o : Option ℕ). LastWrite history key o) c.in-None.is last)

pub returns-then-time-begin : goal.returns-then-time-begin
returns-then-time-begin c = search rules
