use Rattle.lst_replay_laws.proofs.Rooms.{room_meets_none, rested_has_room}
use Rattle.lst_replay_laws.proofs.laws.room_meets_no_limit.Goals as goal

pub returns-clause-never : goal.returns-clause-never
returns-clause-never c = room_meets_none c.replayed_commit_may_follow.ensures

pub returns-clause-rested : goal.returns-clause-rested
returns-clause-rested c = rested_has_room
