use Rattle.std.proofs.Common.{◌≡◌, ℕ, ◌+◌, ◌<◌, ◌≤◌, slice_index}
use Rattle.lst_pack.proofs.survey.insert.Given as goal

abbrev pub invariant-loop-code : goal.invariant-loop-code
invariant-loop-code l = record {
  from : l.at ≤ l.code;
  within : l.code ≤ l.count;
  same : (k : ℕ) → k ≤ l.code → slice_index l.known k ≡ slice_index l.fn.known k;
  moved : (k : ℕ) → l.code ≤ k → k < l.count → slice_index l.known (k + 1) ≡ slice_index l.fn.known k;
}
