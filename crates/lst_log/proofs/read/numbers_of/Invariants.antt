use Rattle.std.proofs.Common.{◌≡◌, ◌-◌, length}
use Rattle.std.specs.Int.{w64}
use Rattle.lst_log.specs.Reading.{number_at, many_at}
use Rattle.lst_log.proofs.Loops.{with_front}
use Rattle.lst_log.proofs.read.numbers_of.Given as goal

abbrev pub invariant-loop : goal.invariant-loop
invariant-loop l = record {
  read : with_front l.numbers.items (many_at (number_at w64) (l.count - l.counter) l.rest) ≡ many_at (number_at w64) l.count l.bytes;
  size : length l.numbers.items ≡ l.counter;
}
