use Rattle.std.proofs.Common.{refl}
use Rattle.lst_test_parts.proofs.probe_tests.a_probe_wraps_round_to_an_equal_value_or_an_empty_position.Goals as goal

pub find-requires-clause-power : goal.find-requires-clause-power
find-requires-clause-power g c = (3, refl)
