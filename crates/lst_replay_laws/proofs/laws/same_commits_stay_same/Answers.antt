use Rattle.lst_replay_laws.proofs.Runs.{again_are_same, numbered_are_same, same_have_room, same_have_writes, same_grows, same_tables}
use Rattle.lst_replay_laws.proofs.laws.same_commits_stay_same.Goals as goal

pub returns-clause-again : goal.returns-clause-again
returns-clause-again c = again_are_same

pub returns-clause-writes : goal.returns-clause-writes
returns-clause-writes c = same_have_writes

pub returns-clause-grows : goal.returns-clause-grows
returns-clause-grows c = same_grows

pub returns-clause-tables : goal.returns-clause-tables
returns-clause-tables c = same_tables

pub returns-clause-numbered : goal.returns-clause-numbered
returns-clause-numbered c = numbered_are_same

pub returns-clause-room : goal.returns-clause-room
returns-clause-room c = same_have_room
