use Rattle.lst_serial.specs.Waits.{IsWaiting}
use Rattle.lst_serial.proofs.locks.end_at_last.Given as goal

abbrev pub invariant-loop : goal.invariant-loop
invariant-loop g l = IsWaiting l.store l.fn.session l.session

abbrev pub invariant-loop-2 : goal.invariant-loop-2
invariant-loop-2 g l = IsWaiting l.store l.fn.session l.session
