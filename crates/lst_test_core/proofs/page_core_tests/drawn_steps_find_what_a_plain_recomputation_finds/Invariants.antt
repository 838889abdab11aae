use Rattle.std.proofs.Common.{◌≡◌}
use Rattle.lst_test_core.proofs.page_core_tests.drawn_steps_find_what_a_plain_recomputation_finds.Given as goal

abbrev pub invariant-loop : goal.invariant-loop
invariant-loop g l = l.core.limits ≡ l.initial.core.limits
