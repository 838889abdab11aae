use Rattle.std.proofs.Common.{◌≤◌, ◌+◌, length, arith}
use Rattle.std.proofs.lemmas.Result.{on_ok_weaker}
use Rattle.lst_log.proofs.Crashes.{one_written}
use Rattle.lst_log.proofs.log.Log.append.Goals as goal

pub append_within-requires-clause-open : goal.append_within-requires-clause-open
append_within-requires-clause-open g c = c.requires.open

pub append_within-requires-clause-columns : goal.append_within-requires-clause-columns
append_within-requires-clause-columns g c = c.requires.columns

pub append_within-requires-clause-record : goal.append_within-requires-clause-record
append_within-requires-clause-record g c = c.requires.record

pub returns-clause-kept : goal.returns-clause-kept
returns-clause-kept g c = λ commits keeps follows. c.append_within.ensures.kept commits keeps (follows, tt)

pub returns-clause-any_moment : goal.returns-clause-any_moment
returns-clause-any_moment g c = λ commits keeps follows. c.append_within.ensures.any_moment commits keeps (follows, tt)

pub returns-clause-written : goal.returns-clause-written
returns-clause-written g c =
    let log = c.args.self.now in
    let commits = c.requires.open.0 in
    let keeps = c.requires.open.1 in
    let content = g.D.Disk.content log.disk in
    let long : log.end + 1 ≤ length content = omega (arith, c.if-whole-self.false, c.if-whole-self-2.false, c.size-whole.ensures) in
    on_ok_weaker c.append_within.result (one_written log.columns c.args.commit.now (g.D.Disk.content c.append_within.new.self.disk) content commits keeps.stands log.end keeps.end long) c.append_within.ensures.written

pub returns-clause-memory : goal.returns-clause-memory
returns-clause-memory g c = c.append_within.ensures.memory

pub returns-clause-unspent : goal.returns-clause-unspent
returns-clause-unspent g c = c.append_within.ensures.unspent

pub returns-clause-faults : goal.returns-clause-faults
returns-clause-faults g c = c.append_within.ensures.rises

pub returns-clause-fault : goal.returns-clause-fault
returns-clause-fault g c = c.append_within.ensures.fault

pub returns-clause-left : goal.returns-clause-left
returns-clause-left g c = λ no_memory no_full. c.append_within.ensures.left no_memory

pub returns-clause-columns : goal.returns-clause-columns
returns-clause-columns g c = c.append_within.ensures.columns

pub returns-clause-stopped : goal.returns-clause-stopped
returns-clause-stopped g c = λ failed commits keeps follows. c.append_within.ensures.stopped failed commits keeps (follows, tt)

pub returns-clause-torn : goal.returns-clause-torn
returns-clause-torn g c = c.append_within.ensures.torn
