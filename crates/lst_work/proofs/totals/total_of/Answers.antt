use Rattle.std.proofs.Common.{refl, sym, ◌∙◌}
use Rattle.lst_work.specs.Totals.{MayAllBegin, IsHeldUp}
use Rattle.lst_work.proofs.Totalling.{found, not_found}
use Rattle.lst_work.proofs.totals.total_of.Goals as goal

pub summed-requires-clause-may : goal.summed-requires-clause-may
summed-requires-clause-may g c κs within = not_found c.first_held_up.result (MayAllBegin c.args.crew.seat.view) (IsHeldUp c.args.crew.seat.view) (sym c.is_some.ensures ∙ c.if-is_some.false) c.first_held_up.ensures

pub returns-then-is_some : goal.returns-then-is_some
returns-then-is_some g c = (refl, found c.first_held_up.result (MayAllBegin c.args.crew.seat.view) (IsHeldUp c.args.crew.seat.view) (sym c.is_some.ensures ∙ c.if-is_some.true) c.first_held_up.ensures)

pub returns : goal.returns
returns g c = (not_found c.first_held_up.result (MayAllBegin c.args.crew.seat.view) (IsHeldUp c.args.crew.seat.view) (sym c.is_some.ensures ∙ c.if-is_some.false) c.first_held_up.ensures, c.in_ok-total.ensures)
