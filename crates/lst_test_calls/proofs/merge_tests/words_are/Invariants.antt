use Rattle.std.proofs.Common.{◌≡◌, ◌-◌, true, length}
use Rattle.lst_rule.specs.Rule.{hosts}
use Rattle.lst_rule.specs.Stores.{IsSeatOf}
use Rattle.lst_test_calls.proofs.merge_tests.words_are.Given as goal

abbrev pub invariant-loop-i : goal.invariant-loop-i
invariant-loop-i l = IsSeatOf l.store l.seat × (hosts l.seat.view 0 ≡ true)

abbrev pub decreases-loop-i : goal.decreases-loop-i
decreases-loop-i l = length l.wanted - l.i
