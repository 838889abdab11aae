use Rattle.std.proofs.Common.{ℕ, ◌<◌, ⊎_elim, refl, subst, ◌∙◌, arith}
use Rattle.lst_txn.specs.Transactions.{Sees}
use Rattle.lst_txn.specs.declared.begins.BeginFault.TheVariants.{Active, Spent, Future}
use Rattle.lst_txn.proofs.Refusing.{neither, not_true, ok_err, active_future, spent_future, future_is, hosts_on, own_on, seen_until, closed_on, more_on, refused_there, refused_as}
use Rattle.lst_txn.proofs.Transacting.{sees}
use Rattle.lst_txn.proofs.begins.as_of.Goals as goal

pub may_begin-requires : goal.may_begin-requires
may_begin-requires c = c.requires.host

pub returns-in-Err-clause-seat : goal.returns-in-Err-clause-seat
returns-in-Err-clause-seat c = c.requires.seat

pub returns-in-Err-clause-hosted : goal.returns-in-Err-clause-hosted
returns-in-Err-clause-hosted c = refl

pub returns-in-Err-clause-ok : goal.returns-in-Err-clause-ok
returns-in-Err-clause-ok c = tt

pub returns-in-Err-clause-active : goal.returns-in-Err-clause-active
returns-in-Err-clause-active c = refused_as c.in-Err.fault Active _ c.in-Err.ensures.active

pub returns-in-Err-clause-spent : goal.returns-in-Err-clause-spent
returns-in-Err-clause-spent c = refused_as c.in-Err.fault Spent _ c.in-Err.ensures.spent

pub returns-in-Err-clause-future : goal.returns-in-Err-clause-future
returns-in-Err-clause-future c = λ clock same. absurd (c.in-Err.ensures.future clock (refused_there c.in-Err.fault (Future clock) same))

pub returns-in-Err-clause-never : goal.returns-in-Err-clause-never
returns-in-Err-clause-never c = λ _ clock same. c.in-Err.ensures.future clock (refused_there c.in-Err.fault (Future clock) same)

pub returns-in-Err-clause-still : goal.returns-in-Err-clause-still
returns-in-Err-clause-still c = λ _. refl

pub load_clock-clock-requires-clause-seat : goal.load_clock-clock-requires-clause-seat
load_clock-clock-requires-clause-seat c = c.requires.seat

pub load_clock-clock-requires-clause-host : goal.load_clock-clock-requires-clause-host
load_clock-clock-requires-clause-host c = c.requires.host

pub returns-then-clock-time-clause-seat : goal.returns-then-clock-time-clause-seat
returns-then-clock-time-clause-seat c = c.load_clock-clock.ensures.seat

pub returns-then-clock-time-clause-hosted : goal.returns-then-clock-time-clause-hosted
returns-then-clock-time-clause-hosted c = c.load_clock-clock.ensures.clocked.view.hosted

pub returns-then-clock-time-clause-ok : goal.returns-then-clock-time-clause-ok
returns-then-clock-time-clause-ok c = tt

pub returns-then-clock-time-clause-active : goal.returns-then-clock-time-clause-active
returns-then-clock-time-clause-active c = neither _ _ (λ same. active_future _ _ same refl) (not_true _ c.in_default.ensures.ok.0)

pub returns-then-clock-time-clause-spent : goal.returns-then-clock-time-clause-spent
returns-then-clock-time-clause-spent c = neither _ _ (λ same. spent_future _ _ same refl) (λ h. c.in_default.ensures.ok.1 h.1)

pub returns-then-clock-time-clause-future : goal.returns-then-clock-time-clause-future
returns-then-clock-time-clause-future c = λ x same. subst (λ (y : ℕ). (y < c.args.time) × Sees c.args.seat.now.view c.load_clock-clock.new.seat.view c.args.s y) (future_is _ _ _ refl same) (c.if-clock-time.true, sees _ _ _ _ c.load_clock-clock.ensures.clocked c.requires.own)

pub returns-then-clock-time-clause-never : goal.returns-then-clock-time-clause-never
returns-then-clock-time-clause-never c = λ early clock same. let h = c.if-clock-time.true in let e = c.load_clock-clock.ensures.clocked.least in omega arith

pub returns-then-clock-time-clause-still : goal.returns-then-clock-time-clause-still
returns-then-clock-time-clause-still c = λ h. ⊎_elim (λ same. absurd (active_future _ _ same refl)) (λ same. absurd (spent_future _ _ same refl)) h

pub open-requires-clause-seat : goal.open-requires-clause-seat
open-requires-clause-seat c = c.load_clock-clock.ensures.seat

pub open-requires-clause-host : goal.open-requires-clause-host
open-requires-clause-host c = hosts_on _ _ _ _ _ c.load_clock-clock.ensures.clocked.view c.requires.host

pub open-requires-clause-own : goal.open-requires-clause-own
open-requires-clause-own c = own_on _ _ _ _ _ c.load_clock-clock.ensures.clocked.view c.requires.own

pub open-requires-clause-closed : goal.open-requires-clause-closed
open-requires-clause-closed c = closed_on _ _ _ _ c.load_clock-clock.ensures.clocked c.in_default.ensures.ok.0

pub open-requires-clause-more : goal.open-requires-clause-more
open-requires-clause-more c = more_on _ _ _ _ c.load_clock-clock.ensures.clocked c.in_default.ensures.ok.1

pub open-requires-clause-early : goal.open-requires-clause-early
open-requires-clause-early c = let all = seen_until _ _ _ _ c.load_clock-clock.ensures.clocked in let late = c.if-clock-time.false in omega arith

pub returns-clause-seat : goal.returns-clause-seat
returns-clause-seat c = c.open.ensures.seat

pub returns-clause-hosted : goal.returns-clause-hosted
returns-clause-hosted c = c.open.ensures.hosted ∙ c.load_clock-clock.ensures.clocked.view.hosted

pub returns-clause-ok : goal.returns-clause-ok
returns-clause-ok c = (refl, (c.load_clock-clock.result, c.open.ensures.opens c.args.seat.now.view c.load_clock-clock.result c.load_clock-clock.ensures.clocked (let late = c.if-clock-time.false in omega arith)))

pub returns-clause-active : goal.returns-clause-active
returns-clause-active c = neither _ _ (ok_err _ _ _ _) (not_true _ c.in_default.ensures.ok.0)

pub returns-clause-spent : goal.returns-clause-spent
returns-clause-spent c = neither _ _ (ok_err _ _ _ _) (λ h. c.in_default.ensures.ok.1 h.1)

pub returns-clause-future : goal.returns-clause-future
returns-clause-future c = λ clock same. absurd (ok_err _ _ _ _ same)

pub returns-clause-never : goal.returns-clause-never
returns-clause-never c = λ _ clock. ok_err _ _ _ _

pub returns-clause-still : goal.returns-clause-still
returns-clause-still c = λ h. ⊎_elim (λ same. absurd (ok_err _ _ _ _ same)) (λ same. absurd (ok_err _ _ _ _ same)) h
