use Rattle.lst_command.proofs.Others.{merges_lose_their_texts}
use Rattle.lst_command.proofs.laws.merges_change_no_other_text.Goals as goal

pub returns : goal.returns
returns c = merges_lose_their_texts
