use Rattle.std.proofs.Common.{refl, slice_index_or}
use Rattle.lst_layout.specs.declared.place.Place.TheVariants.{CellWord}
use Rattle.lst_core.proofs.Found.{read_at}
use Rattle.lst_core.proofs.reads.cell.Goals as goal

pub returns : goal.returns
returns c = read_at c.args.layout.now.limits c.args.words.now c.requires.wide (CellWord c.args.tail c.args.place) c.requires.place c.cell_address.result (slice_index_or c.args.words.now c.cell_address.result 0) c.cell_address.ensures.address refl
