use Rattle.std.proofs.Common.{refl, slice_index_or}
use Rattle.lst_layout.specs.declared.place.Place.TheVariants.{StateWord}
use Rattle.lst_core.proofs.Found.{read_at}
use Rattle.lst_core.proofs.reads.state.Goals as goal

pub returns : goal.returns
returns c = read_at c.args.layout.now.limits c.args.words.now c.requires.wide (StateWord c.args.session c.args.number) c.requires.place c.transactions.result (slice_index_or c.args.words.now c.transactions.result 0) c.transactions.ensures.address refl
