use Rattle.lst_session.proofs.locks.try_to_end.Goals as goal

pub try_commit-requires : goal.try_commit-requires
try_commit-requires c = record { ready = c.requires.ready }

pub returns-in-Ok-clause-ready : goal.returns-in-Ok-clause-ready
returns-in-Ok-clause-ready c = c.try_commit.ensures.ready

pub returns-in-Ok-clause-number : goal.returns-in-Ok-clause-number
returns-in-Ok-clause-number c = c.try_commit.ensures.number

pub returns-in-Err-Busy-clause-ready : goal.returns-in-Err-Busy-clause-ready
returns-in-Err-Busy-clause-ready c = c.try_commit.ensures.ready

pub returns-in-Err-Busy-clause-number : goal.returns-in-Err-Busy-clause-number
returns-in-Err-Busy-clause-number c = c.try_commit.ensures.number
