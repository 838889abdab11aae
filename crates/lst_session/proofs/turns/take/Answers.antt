use Rattle.std.proofs.Common.{Err, refl, ap}
use Rattle.lst_txn.specs.declared.ends.TurnFault.{TurnFault}
use Rattle.lst_txn.proofs.Refusing.{neither, ok_err, hosts_on}
use Rattle.lst_session.proofs.Refusals.{busy_idle, held_idle, opened_by}
use Rattle.lst_session.proofs.Taking.{takes_turn, took_it}
use Rattle.lst_session.proofs.turns.take.Goals as goal

pub take_turn-requires-clause-seat : goal.take_turn-requires-clause-seat
take_turn-requires-clause-seat c = c.requires.seat

pub take_turn-requires-clause-host : goal.take_turn-requires-clause-host
take_turn-requires-clause-host c = c.requires.host

pub take_turn-requires-clause-own : goal.take_turn-requires-clause-own
take_turn-requires-clause-own c = c.requires.own

pub take_turn-requires-clause-writes : goal.take_turn-requires-clause-writes
take_turn-requires-clause-writes c = c.requires.writes

pub take_turn-requires-clause-free : goal.take_turn-requires-clause-free
take_turn-requires-clause-free c = c.requires.free

pub load_clock-requires-clause-seat : goal.load_clock-requires-clause-seat
load_clock-requires-clause-seat c = c.take_turn.ensures.seat

pub load_clock-requires-clause-host : goal.load_clock-requires-clause-host
load_clock-requires-clause-host c = hosts_on _ _ _ _ _ c.in-Ok.ensures.ok.1 c.requires.host

pub returns-in-Ok-clause-seat : goal.returns-in-Ok-clause-seat
returns-in-Ok-clause-seat c = c.load_clock.ensures.seat

pub returns-in-Ok-clause-ok : goal.returns-in-Ok-clause-ok
returns-in-Ok-clause-ok c = (c.in-Ok.ensures.ok.0, takes_turn c.args.store.now c.args.seat.now c.load_clock.new.seat c.take_turn.new.seat.view c.args.s c.load_clock.result c.requires.host c.requires.own (opened_by _ (λ f. ok_err _ _ _ _ (c.in-Ok.ensures.idle.1 f))) c.in-Ok.ensures.ok.1 c.load_clock.ensures.seat c.load_clock.ensures.clocked, took_it c.args.store.now c.args.seat.now c.load_clock.new.seat c.take_turn.new.seat.view c.args.s c.load_clock.result c.requires.host c.requires.own (opened_by _ (λ f. ok_err _ _ _ _ (c.in-Ok.ensures.idle.1 f))) c.in-Ok.ensures.ok.1 c.load_clock.ensures.seat c.load_clock.ensures.clocked c.in-Ok.ensures.made)

pub returns-in-Ok-clause-idle : goal.returns-in-Ok-clause-idle
returns-in-Ok-clause-idle c = neither _ _ (ok_err _ _ _ _) (λ f. ok_err _ _ _ _ (c.in-Ok.ensures.idle.1 f))

pub returns-in-Ok-clause-still : goal.returns-in-Ok-clause-still
returns-in-Ok-clause-still c = λ same. absurd (ok_err _ _ _ _ same)

pub returns-in-Ok-clause-busy : goal.returns-in-Ok-clause-busy
returns-in-Ok-clause-busy c = λ same. absurd (ok_err _ _ _ _ same)

pub returns-in-Err-Idle-clause-seat : goal.returns-in-Err-Idle-clause-seat
returns-in-Err-Idle-clause-seat c = c.take_turn.ensures.seat

pub returns-in-Err-Idle-clause-ok : goal.returns-in-Err-Idle-clause-ok
returns-in-Err-Idle-clause-ok c = tt

pub returns-in-Err-Idle-clause-idle : goal.returns-in-Err-Idle-clause-idle
returns-in-Err-Idle-clause-idle c = (λ _. c.in-Err-Idle.ensures.idle.0 (ap (λ (f : TurnFault). Err f) c.in-Err-Idle.field-0-is), λ _. refl)

pub returns-in-Err-Idle-clause-still : goal.returns-in-Err-Idle-clause-still
returns-in-Err-Idle-clause-still c = λ _. c.in-Err-Idle.ensures.still (ap (λ (f : TurnFault). Err f) c.in-Err-Idle.field-0-is)

pub returns-in-Err-Idle-clause-busy : goal.returns-in-Err-Idle-clause-busy
returns-in-Err-Idle-clause-busy c = λ same. absurd (busy_idle _ _ same refl)

pub returns-in-Err-Busy-clause-seat : goal.returns-in-Err-Busy-clause-seat
returns-in-Err-Busy-clause-seat c = c.take_turn.ensures.seat

pub returns-in-Err-Busy-clause-ok : goal.returns-in-Err-Busy-clause-ok
returns-in-Err-Busy-clause-ok c = tt

pub returns-in-Err-Busy-clause-idle : goal.returns-in-Err-Busy-clause-idle
returns-in-Err-Busy-clause-idle c = neither _ _ (busy_idle _ _ refl) (λ f. held_idle _ _ (ap (λ (f : TurnFault). Err f) c.in-Err-Busy.field-0-is) (c.in-Err-Busy.ensures.idle.1 f))

pub returns-in-Err-Busy-clause-still : goal.returns-in-Err-Busy-clause-still
returns-in-Err-Busy-clause-still c = λ same. absurd (busy_idle _ _ refl same)

pub returns-in-Err-Busy-clause-busy : goal.returns-in-Err-Busy-clause-busy
returns-in-Err-Busy-clause-busy c = λ _. let h = c.in-Err-Busy.ensures.busy (ap (λ (f : TurnFault). Err f) c.in-Err-Busy.field-0-is) in record { writes = c.requires.writes (opened_by _ (λ f. held_idle _ _ (ap (λ (f : TurnFault). Err f) c.in-Err-Busy.field-0-is) (c.in-Err-Busy.ensures.idle.1 f))); view = h.0; kept = h.1; other = λ crew. c.in-Err-Busy.ensures.crew crew (ap (λ (f : TurnFault). Err f) c.in-Err-Busy.field-0-is) }
