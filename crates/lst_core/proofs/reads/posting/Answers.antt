use Rattle.std.proofs.Common.{refl, slice_index_or}
use Rattle.lst_layout.specs.declared.place.Place.TheVariants.{PostingWord}
use Rattle.lst_core.proofs.Found.{read_at}
use Rattle.lst_core.proofs.reads.posting.Goals as goal

pub returns : goal.returns
returns c = read_at c.args.layout.now.limits c.args.words.now c.requires.wide (PostingWord c.args.column c.args.position) c.requires.place c.postings.result (slice_index_or c.args.words.now c.postings.result 0) c.postings.ensures.address refl
