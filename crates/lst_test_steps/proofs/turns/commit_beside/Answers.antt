use Rattle.lst_test_steps.proofs.Stepping.{crew_on}
use Rattle.lst_test_steps.proofs.turns.commit_beside.Goals as goal

pub try_turn-fault-requires-clause-crew : goal.try_turn-fault-requires-clause-crew
try_turn-fault-requires-clause-crew c = crew_on c.args.store.now c.args.seat.now c.take_turn.new.seat 0 _ c.requires.crew c.in-Ok.ensures.seat c.in-Ok.ensures.ok.1

pub returns-clause-crew : goal.returns-clause-crew
returns-clause-crew c =
    let taken = crew_on c.args.store.now c.args.seat.now c.take_turn.new.seat 0 _ c.requires.crew c.in-Ok.ensures.seat c.in-Ok.ensures.ok.1 in
    let tried = crew_on c.args.store.now c.take_turn.new.seat c.try_turn-fault.new.seat 1 _ taken c.try_turn-fault.ensures.seat c.try_turn-fault.ensures.out.view in
    crew_on c.args.store.now c.try_turn-fault.new.seat c.commit.new.seat _ _ tried c.commit.ensures.seat c.commit.ensures.commits.view
