use Rattle.lst_snapshots.proofs.SameWrites.{follows_over}
use Rattle.lst_snapshots.proofs.laws.same_writes_may_be_followed.Goals as goal

pub returns : goal.returns
returns c = follows_over
