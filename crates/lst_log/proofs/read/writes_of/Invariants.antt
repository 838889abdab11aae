use Rattle.std.proofs.Common.{◌≡◌, ◌-◌}
use Rattle.lst_log.specs.Reading.{write_at, many_at}
use Rattle.lst_log.proofs.Loops.{with_front}
use Rattle.lst_log.proofs.read.writes_of.Given as goal

abbrev pub invariant-loop : goal.invariant-loop
invariant-loop l = with_front l.writes.items (many_at (write_at l.columns) (l.count - l.counter) l.rest) ≡ many_at (write_at l.columns) l.count l.bytes
