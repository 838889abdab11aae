use Rattle.std.proofs.Common.{refl, ◌∙◌, arith}
use Rattle.lst_txn.specs.declared.begins.BeginFault.TheVariants.{Active, Spent, Future}
use Rattle.lst_txn.proofs.Refusing.{neither, not_true, ok_err, hosts_on, own_on, seen_until, closed_on, more_on, refused_there, refused_as}
use Rattle.lst_txn.proofs.begins.begin.Goals as goal

pub may_begin-requires : goal.may_begin-requires
may_begin-requires c = c.requires.host

pub returns-in-Err-clause-seat : goal.returns-in-Err-clause-seat
returns-in-Err-clause-seat c = c.requires.seat

pub returns-in-Err-clause-hosted : goal.returns-in-Err-clause-hosted
returns-in-Err-clause-hosted c = refl

pub returns-in-Err-clause-ok : goal.returns-in-Err-clause-ok
returns-in-Err-clause-ok c = tt

pub returns-in-Err-clause-active : goal.returns-in-Err-clause-active
returns-in-Err-clause-active c = refused_as c.in-Err.fault Active _ c.in-Err.ensures.active

pub returns-in-Err-clause-spent : goal.returns-in-Err-clause-spent
returns-in-Err-clause-spent c = refused_as c.in-Err.fault Spent _ c.in-Err.ensures.spent

pub returns-in-Err-clause-future : goal.returns-in-Err-clause-future
returns-in-Err-clause-future c = λ clock same. c.in-Err.ensures.future clock (refused_there c.in-Err.fault (Future clock) same)

pub returns-in-Err-clause-err : goal.returns-in-Err-clause-err
returns-in-Err-clause-err c = refl

pub load_clock-begin-requires-clause-seat : goal.load_clock-begin-requires-clause-seat
load_clock-begin-requires-clause-seat c = c.requires.seat

pub load_clock-begin-requires-clause-host : goal.load_clock-begin-requires-clause-host
load_clock-begin-requires-clause-host c = c.requires.host

pub open-requires-clause-seat : goal.open-requires-clause-seat
open-requires-clause-seat c = c.load_clock-begin.ensures.seat

pub open-requires-clause-host : goal.open-requires-clause-host
open-requires-clause-host c = hosts_on _ _ _ _ _ c.load_clock-begin.ensures.clocked.view c.requires.host

pub open-requires-clause-own : goal.open-requires-clause-own
open-requires-clause-own c = own_on _ _ _ _ _ c.load_clock-begin.ensures.clocked.view c.requires.own

pub open-requires-clause-closed : goal.open-requires-clause-closed
open-requires-clause-closed c = closed_on _ _ _ _ c.load_clock-begin.ensures.clocked c.in_default.ensures.ok.0

pub open-requires-clause-more : goal.open-requires-clause-more
open-requires-clause-more c = more_on _ _ _ _ c.load_clock-begin.ensures.clocked c.in_default.ensures.ok.1

pub open-requires-clause-early : goal.open-requires-clause-early
open-requires-clause-early c = let all = seen_until _ _ _ _ c.load_clock-begin.ensures.clocked in omega arith

pub returns-clause-seat : goal.returns-clause-seat
returns-clause-seat c = c.open.ensures.seat

pub returns-clause-hosted : goal.returns-clause-hosted
returns-clause-hosted c = c.open.ensures.hosted ∙ c.load_clock-begin.ensures.clocked.view.hosted

pub returns-clause-ok : goal.returns-clause-ok
returns-clause-ok c = c.open.ensures.opens c.args.seat.now.view c.load_clock-begin.result c.load_clock-begin.ensures.clocked (omega arith)

pub returns-clause-active : goal.returns-clause-active
returns-clause-active c = neither _ _ (ok_err _ _ _ _) (not_true _ c.in_default.ensures.ok.0)

pub returns-clause-spent : goal.returns-clause-spent
returns-clause-spent c = neither _ _ (ok_err _ _ _ _) (λ h. c.in_default.ensures.ok.1 h.1)

pub returns-clause-future : goal.returns-clause-future
returns-clause-future c = λ clock. ok_err _ _ _ _

pub returns-clause-err : goal.returns-clause-err
returns-clause-err c = tt
