use Rattle.std.proofs.Common.{refl}
use Rattle.lst_test_parts.proofs.probe_tests.equality_may_be_told_by_what_a_word_points_to.Goals as goal

pub find-found-requires-clause-power : goal.find-found-requires-clause-power
find-found-requires-clause-power g c = (2, refl)
