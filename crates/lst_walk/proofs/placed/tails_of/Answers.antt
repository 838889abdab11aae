use Rattle.std.proofs.Common.{arith}
use Rattle.lst_walk.proofs.placed.tails_of.Goals as goal

pub first_word-requires-clause-number : goal.first_word-requires-clause-number
first_word-requires-clause-number c = (omega arith, c.args.store.now.layout.valid.tails.0)
