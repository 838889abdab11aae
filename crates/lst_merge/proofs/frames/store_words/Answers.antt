use Rattle.std.proofs.Common.{slice_index}
use Rattle.lst_merge.proofs.Storing.{stores_frame}
use Rattle.lst_merge.proofs.frames.store_words.Goals as goal

pub store_frame_words-requires-clause-enabled : goal.store_frame_words-requires-clause-enabled
store_frame_words-requires-clause-enabled c = λ place value. c.requires.free

pub returns-clause-stores : goal.returns-clause-stores
returns-clause-stores c = stores_frame _ _ c.args.frame (slice_index c.args.words.now) c.store_frame_words.ensures.stores
