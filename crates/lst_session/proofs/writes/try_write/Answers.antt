use Rattle.lst_txn.proofs.Refusing.{hosts_on, own_on}
use Rattle.lst_session.proofs.Tried.{released_tries}
use Rattle.lst_session.proofs.writes.try_write.Goals as goal

pub returns-in-Err-clause-tries : goal.returns-in-Err-clause-tries
returns-in-Err-clause-tries c = released_tries c.args.seat.now.view c.release.new.seat.view c.args.s c.args.rec.number c.args.key c.args.act.now c.in-Err.refusal record {
  between = c.prepare.new.seat.view;
  holding = record { head = c.in-Ok.head; between = c.latch.new.seat.view; latches = c.in-Ok.ensures.ok; word = c.in-Ok.ensures.word; prepares = c.in-Err.ensures.prepares };
  view = c.release.ensures.view;
  word = c.release.ensures.word;
}

pub latch-requires-clause-seat : goal.latch-requires-clause-seat
latch-requires-clause-seat c = c.requires.seat

pub latch-requires-clause-host : goal.latch-requires-clause-host
latch-requires-clause-host c = c.requires.host

pub latch-requires-clause-own : goal.latch-requires-clause-own
latch-requires-clause-own c = c.requires.own

pub returns-in_default-clause-seat : goal.returns-in_default-clause-seat
returns-in_default-clause-seat c = c.latch.ensures.seat

pub prepare-requires-clause-seat : goal.prepare-requires-clause-seat
prepare-requires-clause-seat c = c.latch.ensures.seat

pub prepare-requires-clause-host : goal.prepare-requires-clause-host
prepare-requires-clause-host c = hosts_on _ _ _ _ _ c.in-Ok.ensures.ok.view c.requires.host

pub prepare-requires-clause-own : goal.prepare-requires-clause-own
prepare-requires-clause-own c = own_on _ _ _ _ _ c.in-Ok.ensures.ok.view c.requires.own

pub install-requires-clause-seat : goal.install-requires-clause-seat
install-requires-clause-seat c = c.prepare.ensures.seat

pub release-requires-clause-seat : goal.release-requires-clause-seat
release-requires-clause-seat c = c.prepare.ensures.seat

pub returns-in-Ok-prepare-clause-seat : goal.returns-in-Ok-prepare-clause-seat
returns-in-Ok-prepare-clause-seat c = c.install.ensures.seat

pub returns-in-Err-clause-seat : goal.returns-in-Err-clause-seat
returns-in-Err-clause-seat c = c.release.ensures.seat

pub prepare-requires-clause-chain : goal.prepare-requires-clause-chain
prepare-requires-clause-chain c = c.in-Ok.ensures.ok.chain
