use Rattle.std.proofs.Common.{ℕ, ◌+◌, ◌<◌, sym, subst}
use Rattle.lst_rule.proofs.Wholes.{cell_low, cell_seen}
use Rattle.lst_rule.proofs.loads.load_cell_from.Goals as goal

pub later-address-requires : goal.later-address-requires
later-address-requires c = subst (λ (k : ℕ). c.args.first + c.args.place < k) (sym c.args.store.now.layout.counted) (cell_low c.args.store.now c.args.seat.now c.requires.seat c.args.tail c.args.place c.requires.place c.args.first c.requires.first)

pub load_quietly-requires-clause-address : goal.load_quietly-requires-clause-address
load_quietly-requires-clause-address c = cell_seen c.args.store.now c.args.seat.now c.requires.seat c.args.tail c.args.place c.requires.place c.args.first c.requires.first _ c.later-address.ensures
