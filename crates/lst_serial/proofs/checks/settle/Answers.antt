use Rattle.lst_serial.proofs.Ending.{gives_back, spends}
use Rattle.lst_serial.proofs.checks.settle.Goals as goal

pub returns-in-Some-clause-stale : goal.returns-in-Some-clause-stale
returns-in-Some-clause-stale c = gives_back c.args.session.now.seat.view c.stale_time.new.session.seat.view c.give_back_turn.new.self.seat.view c.args.session.now.number c.stale_time.new.session.number c.args.keys.now c.args.all c.in-Some.time
    c.stale_time.ensures.number c.stale_time.ensures.looks c.give_back_turn.ensures.looks c.give_back_turn.ensures.gives c.in-Some.ensures.stale

pub returns-in-None-clause-ok : goal.returns-in-None-clause-ok
returns-in-None-clause-ok c = spends c.args.session.now.seat.view c.stale_time.new.session.seat.view c.commit_turn.new.self.seat.view c.args.session.now.number c.stale_time.new.session.number c.args.keys.now c.args.all c.commit_turn.result
    c.stale_time.ensures.number c.stale_time.ensures.looks c.in-None.ensures.stale c.commit_turn.ensures.commits
