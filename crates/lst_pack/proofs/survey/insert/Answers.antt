use Rattle.std.proofs.Common.{◌≢◌, arith, get_or-set_other}
use Rattle.lst_pack.proofs.survey.insert.Goals as goal

pub returns-clause-below : goal.returns-clause-below
returns-clause-below c = λ code low. let ne : code ≢ c.args.at = omega arith in rw get_or-set_other (c.loop-code.invariant.same code (omega arith))
