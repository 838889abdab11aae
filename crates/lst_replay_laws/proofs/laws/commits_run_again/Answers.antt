use Rattle.std.proofs.Common.{[]}
use Rattle.lst_replay_laws.proofs.Lists.{again_same}
use Rattle.lst_replay_laws.proofs.Steps.{opening_rests, begins_again, writes_again, commits_again}
use Rattle.lst_replay_laws.proofs.Rooms.{rests_again}
use Rattle.lst_replay_laws.proofs.laws.commits_run_again.Goals as goal

pub returns-clause-opening : goal.returns-clause-opening
returns-clause-opening c = opening_rests

pub returns-clause-begins : goal.returns-clause-begins
returns-clause-begins c = begins_again

pub returns-clause-writes : goal.returns-clause-writes
returns-clause-writes c = writes_again c.replayed_commit_may_follow.ensures

pub returns-clause-commits : goal.returns-clause-commits
returns-clause-commits c = commits_again

pub returns-clause-rests : goal.returns-clause-rests
returns-clause-rests c = rests_again c.replayed_commit_may_follow.ensures

pub returns-clause-same : goal.returns-clause-same
returns-clause-same c = again_same []
