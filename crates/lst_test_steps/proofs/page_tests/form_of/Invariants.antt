use Rattle.std.proofs.Common.{◌≡◌, length, slice_index}
use Rattle.lst_merge.specs.Pages.{AreNumbers}
use Rattle.lst_test_steps.proofs.page_tests.form_of.Given as goal

abbrev pub invariant-loop-slot : goal.invariant-loop-slot
invariant-loop-slot g l = record {
  words : length l.words ≡ 518;
  values : length l.values ≡ 256;
  numbers : AreNumbers (slice_index l.words) l.values;
}
