use Rattle.lst_core_state.proofs.Statements.{visible_is_seen}
use Rattle.lst_core_state.proofs.laws.visible_is_seen.Goals as goal

pub returns : goal.returns
returns c = visible_is_seen
