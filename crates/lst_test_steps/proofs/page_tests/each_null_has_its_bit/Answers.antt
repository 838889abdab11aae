use Rattle.std.proofs.Common.{replicate}
use Rattle.lst_pages.proofs.Functions.{get-replicate}
use Rattle.lst_merge.proofs.Wording.{zeros_are_numbers}
use Rattle.lst_test_steps.proofs.page_tests.each_null_has_its_bit.Goals as goal

pub put_entry-requires-clause-numbers : goal.put_entry-requires-clause-numbers
put_entry-requires-clause-numbers g c = zeros_are_numbers (replicate 518 0) (replicate 256 0) (λ i. get-replicate 518 i 0) (λ i. get-replicate 256 i 0)
