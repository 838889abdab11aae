use Rattle.lst_replay_laws.proofs.Puts.{puts_are_committed}
use Rattle.lst_replay_laws.proofs.laws.puts_are_committed.Goals as goal

pub returns : goal.returns
returns c = puts_are_committed c.replayed_commit_may_follow.ensures
