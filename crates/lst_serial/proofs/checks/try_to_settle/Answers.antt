use Rattle.std.proofs.Common.{◌≡◌, ℕ, subst}
use Rattle.lst_serial.proofs.Ending.{settled_commit, settled_stale}
use Rattle.lst_serial.specs.Serials.{CommitsInPlace, FindsStale}
use Rattle.lst_serial.proofs.checks.try_to_settle.Goals as goal

pub returns-in-Ok-settle-clause-committed : goal.returns-in-Ok-settle-clause-committed
returns-in-Ok-settle-clause-committed c time is = let e : c.in-Ok-settle.time ≡ time = cc in
    subst (λ (t : ℕ). CommitsInPlace c.args.session.now.seat.view c.settle.new.session.seat.view c.args.session.now.number c.args.keys.now c.args.all t) e
    (settled_commit c.args.session.now.seat.view c.take_turn.new.self.seat.view c.settle.new.session.seat.view c.args.session.now.number c.take_turn.new.self.number c.args.keys.now c.args.all c.take_turn.ensures.number
    c.in-Ok.ensures.ok.2 c.in-Ok.ensures.history c.in-Ok-settle.time c.in-Ok-settle.ensures.ok)

pub returns-in-Err-clause-stale : goal.returns-in-Err-clause-stale
returns-in-Err-clause-stale c time is = let e : c.in-Err.time ≡ time = cc in
    subst (λ (t : ℕ). FindsStale c.args.session.now.seat.view c.settle.new.session.seat.view c.args.session.now.number c.args.keys.now c.args.all t) e
    (settled_stale c.args.session.now.seat.view c.take_turn.new.self.seat.view c.settle.new.session.seat.view c.args.session.now.number c.take_turn.new.self.number c.args.keys.now c.args.all c.take_turn.ensures.number
    c.in-Ok.ensures.ok.2 c.in-Ok.ensures.history c.requires.writes c.in-Err.time c.in-Err.ensures.stale)
