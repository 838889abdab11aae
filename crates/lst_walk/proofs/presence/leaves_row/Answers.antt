use Rattle.std.proofs.Common.{ap, ◌∙◌, arith, sym}
use Rattle.lst_layout.specs.declared.layout.Layout.{Layout}
use Rattle.lst_layout.specs.declared.place.Place.TheVariants.{CellWord}
use Rattle.lst_layout.specs.Addresses.{address}
use Rattle.lst_walk.proofs.Newest.{version_within}
use Rattle.lst_walk.proofs.presence.leaves_row.Goals as goal

pub cell_address-first-requires : goal.cell_address-first-requires
cell_address-first-requires c = version_within c.args.seat.now.view c.layout.result.now.limits c.args.s c.args.tail 0 (c.requires.reader.seat_of.limits ∙ ap (λ (y : Layout). y.limits) (sym c.layout.ensures)) (omega arith) c.requires.version

pub encoding_from-requires-clause-first : goal.encoding_from-requires-clause-first
encoding_from-requires-clause-first c = c.cell_address-first.ensures.address ∙ ap (λ (y : Layout). address y.limits (CellWord c.args.tail 0)) c.layout.ensures
