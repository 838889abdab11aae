use Rattle.std.proofs.Common.{◌↔◌, IsTrue, IfOk, sym, subst}
use Rattle.lst_legal_runs.specs.declared.levels.Level.{Level}
use Rattle.lst_legal_runs.specs.Places.{run_at}
use Rattle.lst_legal.specs.Judged.{FollowsLevel}
use Rattle.lst_legal.proofs.judging.follows_level.Goals as goal

pub returns-in-Serializable : goal.returns-in-Serializable
returns-in-Serializable c = subst (λ (level : Level). IfOk c.follows_serial.result (λ b. IsTrue b ↔ FollowsLevel level c.args.swept.now (run_at c.args.places.now))) (sym c.in-Serializable.is) c.follows_serial.ensures
