use Rattle.lst_rule.proofs.Watching.{watched_same}
use Rattle.std.proofs.Common.{◌≡◌, refl}
use Rattle.lst_rule.proofs.Finds.{loads_none}
use Rattle.lst_walk.proofs.rows.cell_under.Goals as goal

pub returns-in-Some-clause-watched : goal.returns-in-Some-clause-watched
returns-in-Some-clause-watched c = watched_same c.args.seat.now.view c.args.s

pub returns-in-Some-clause-loads : goal.returns-in-Some-clause-loads
returns-in-Some-clause-loads c = loads_none (λ t. t ≡ c.args.tail) c.args.seat.now.view c.args.seat.now.view c.args.s refl
