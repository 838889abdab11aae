use Rattle.std.proofs.Common.{rules}
use Rattle.lst_bits.proofs.states.unpack_state.Goals as goal

pub returns-in-1-clause-state : goal.returns-in-1-clause-state
returns-in-1-clause-state c = search rules

pub returns-in-1-clause-word : goal.returns-in-1-clause-word
returns-in-1-clause-word c = search rules
