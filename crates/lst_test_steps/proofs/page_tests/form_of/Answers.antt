use Rattle.std.proofs.Common.{arith, replicate}
use Rattle.lst_pages.proofs.Functions.{get-replicate}
use Rattle.lst_merge.proofs.Wording.{zeros_are_numbers}
use Rattle.lst_test_steps.proofs.page_tests.form_of.Goals as goal

pub loop-slot-init : goal.loop-slot-init
loop-slot-init g c = record { words = omega arith; values = omega arith; numbers = zeros_are_numbers (replicate 518 0) (replicate 256 0) (λ i. get-replicate 518 i 0) (λ i. get-replicate 256 i 0) }

pub read_values-requires : goal.read_values-requires
read_values-requires g c = (c.write_page.ensures.entries.values, c.write_page.ensures.entries.packed)
