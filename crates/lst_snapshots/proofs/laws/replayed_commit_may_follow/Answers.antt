use Rattle.lst_snapshots.proofs.Later.{follows_later}
use Rattle.lst_snapshots.proofs.laws.replayed_commit_may_follow.Goals as goal

pub returns : goal.returns
returns c = follows_later
