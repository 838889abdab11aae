use Rattle.std.proofs.Common.{◌≡◌, true}
use Rattle.lst_rule.specs.Rule.{hosts}
use Rattle.lst_rule.specs.Stores.{IsSeatOf}
use Rattle.lst_test_calls.proofs.merge_tests.words_at.Given as goal

abbrev pub invariant-loop-distance : goal.invariant-loop-distance
invariant-loop-distance g l = IsSeatOf l.store l.seat × (hosts l.seat.view 0 ≡ true)
