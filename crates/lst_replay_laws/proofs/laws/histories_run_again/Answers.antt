use Rattle.lst_replay_laws.proofs.Runs.{recovered_rests, room_runs_again, full_is_one, full_is_not_run, room_grows, again_is_counted}
use Rattle.lst_replay_laws.proofs.laws.histories_run_again.Goals as goal

pub returns-clause-rests : goal.returns-clause-rests
returns-clause-rests c = recovered_rests c.replayed_commit_may_follow.ensures

pub returns-clause-room : goal.returns-clause-room
returns-clause-room c = room_runs_again c.replayed_commit_may_follow.ensures

pub returns-clause-one : goal.returns-clause-one
returns-clause-one c = full_is_one

pub returns-clause-none : goal.returns-clause-none
returns-clause-none c = full_is_not_run

pub returns-clause-larger : goal.returns-clause-larger
returns-clause-larger c = room_grows

pub returns-clause-counted : goal.returns-clause-counted
returns-clause-counted c = again_is_counted
