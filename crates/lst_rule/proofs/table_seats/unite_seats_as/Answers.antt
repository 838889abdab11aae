use Rattle.std.proofs.Common.{subst, sym}
use Rattle.atomic_table.specs.Table.{Joins}
use Rattle.lst_layout.specs.declared.limits.Limits.{Limits}
use Rattle.lst_rule.specs.Rule.{Ruled}
use Rattle.lst_rule.specs.Joins.{united, spent}
use Rattle.lst_rule.proofs.Joining.{unites_rule}
use Rattle.lst_rule.proofs.table_seats.unite_seats_as.Goals as goal

pub join_seat-requires : goal.join_seat-requires
join_seat-requires g c = (
  c.requires.table.0,
  c.requires.table.1,
  c.requires.table.3,
  c.requires.table.2,
  subst (λ (l : Limits). Joins (Ruled l) c.args.seat.now.id c.args.seat.now.me.0 c.args.other.id c.args.other.me.0 (united c.args.seat.now.me.0 c.args.other.me.0) (spent g.E.Binds.limits)) (sym c.requires.limits) (unites_rule g.E.Binds.limits _ _ _ _),
)
