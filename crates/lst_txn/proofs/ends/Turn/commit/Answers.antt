use Rattle.std.proofs.Common.{◌≡◌, ap, ◌∙◌, arith}
use Rattle.lst_core_state.specs.declared.known.Known.{Known}
use Rattle.lst_core_state.specs.State.{rank}
use Rattle.lst_rule.specs.Rule.{knows}
use Rattle.lst_txn.proofs.Refusing.{hosts_on, own_on}
use Rattle.lst_txn.proofs.Transacting.{is_fresh, commits}
use Rattle.lst_txn.proofs.ends.Turn.commit.Goals as goal

pub load_clock-clock-requires-clause-seat : goal.load_clock-clock-requires-clause-seat
load_clock-clock-requires-clause-seat c = c.requires.seat

pub load_clock-clock-requires-clause-host : goal.load_clock-clock-requires-clause-host
load_clock-clock-requires-clause-host c = c.requires.host

pub step_log-requires-clause-seat : goal.step_log-requires-clause-seat
step_log-requires-clause-seat c = c.load_clock-clock.ensures.seat

pub step_log-requires-clause-host : goal.step_log-requires-clause-host
step_log-requires-clause-host c = hosts_on _ _ _ _ _ c.load_clock-clock.ensures.clocked.view c.requires.host

pub step_log-requires-clause-own : goal.step_log-requires-clause-own
step_log-requires-clause-own c = own_on _ _ _ _ _ c.load_clock-clock.ensures.clocked.view c.requires.own

pub step_state-requires-clause-seat : goal.step_state-requires-clause-seat
step_state-requires-clause-seat c = c.step_log.ensures.seat

pub step_state-requires-clause-host : goal.step_state-requires-clause-host
step_state-requires-clause-host c = hosts_on _ _ _ _ _ c.step_log.ensures.view (hosts_on _ _ _ _ _ c.load_clock-clock.ensures.clocked.view c.requires.host)

pub step_state-requires-clause-own : goal.step_state-requires-clause-own
step_state-requires-clause-own c = own_on _ _ _ _ _ c.step_log.ensures.view (own_on _ _ _ _ _ c.load_clock-clock.ensures.clocked.view c.requires.own)

pub step_state-requires-clause-enabled : goal.step_state-requires-clause-enabled
step_state-requires-clause-enabled c = ap (λ (k : Known). rank k.turn) c.step_log.ensures.view.now

pub step_clock-requires-clause-seat : goal.step_clock-requires-clause-seat
step_clock-requires-clause-seat c = c.step_state.ensures.seat

pub step_clock-requires-clause-host : goal.step_clock-requires-clause-host
step_clock-requires-clause-host c = hosts_on _ _ _ _ _ c.step_state.ensures.view (hosts_on _ _ _ _ _ c.step_log.ensures.view (hosts_on _ _ _ _ _ c.load_clock-clock.ensures.clocked.view c.requires.host))

pub step_clock-requires-clause-own : goal.step_clock-requires-clause-own
step_clock-requires-clause-own c = own_on _ _ _ _ _ c.step_state.ensures.view (own_on _ _ _ _ _ c.step_log.ensures.view (own_on _ _ _ _ _ c.load_clock-clock.ensures.clocked.view c.requires.own))

pub step_clock-requires-clause-enabled : goal.step_clock-requires-clause-enabled
step_clock-requires-clause-enabled c = ap (λ (k : Known). rank k.turn) c.step_state.ensures.view.now

pub step_give-requires-clause-seat : goal.step_give-requires-clause-seat
step_give-requires-clause-seat c = c.step_clock.ensures.seat

pub step_give-requires-clause-host : goal.step_give-requires-clause-host
step_give-requires-clause-host c = hosts_on _ _ _ _ _ c.step_clock.ensures.view (hosts_on _ _ _ _ _ c.step_state.ensures.view (hosts_on _ _ _ _ _ c.step_log.ensures.view (hosts_on _ _ _ _ _ c.load_clock-clock.ensures.clocked.view c.requires.host)))

pub step_give-requires-clause-own : goal.step_give-requires-clause-own
step_give-requires-clause-own c = own_on _ _ _ _ _ c.step_clock.ensures.view (own_on _ _ _ _ _ c.step_state.ensures.view (own_on _ _ _ _ _ c.step_log.ensures.view (own_on _ _ _ _ _ c.load_clock-clock.ensures.clocked.view c.requires.own)))

pub step_give-requires-clause-enabled : goal.step_give-requires-clause-enabled
step_give-requires-clause-enabled c = let e : rank (knows c.step_clock.new.seat.view c.args.self.session).turn ≡ 5 = ap (λ (k : Known). rank k.turn) c.step_clock.ensures.view.now in (omega arith, λ f. omega arith, λ f. omega arith)

pub returns-clause-seat : goal.returns-clause-seat
returns-clause-seat c = c.step_give.ensures.seat

pub step_log-requires-clause-enabled : goal.step_log-requires-clause-enabled
step_log-requires-clause-enabled c = is_fresh _ _ _ _ c.load_clock-clock.ensures.clocked c.requires.turn

pub returns-clause-commits : goal.returns-clause-commits
returns-clause-commits c = commits _ _ _ _ _ _ _ _ c.load_clock-clock.ensures.clocked c.requires.own record {
  logs = c.step_log.ensures.view;
  logged = c.step_log.ensures.made;
  states = c.step_state.ensures.view;
  stated = c.step_state.ensures.made;
  clocks = c.step_clock.ensures.view;
  clocked = c.step_clock.ensures.made;
  gives = c.step_give.ensures.view;
  given = c.step_give.ensures.made;
}
