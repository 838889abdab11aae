use Rattle.std.proofs.Common.{◌≡◌, ◌-◌, ◌*◌, ◌<◌, ◌≤◌, slice_index}
use Rattle.lst_pack.specs.Forms.{run_end}
use Rattle.lst_pack.proofs.single.run_value.Given as goal

abbrev pub invariant-loop-low : goal.invariant-loop-low
invariant-loop-low g l = record {
  order : (l.low ≤ l.high) × (l.high < l.runs);
  same : g.W.Words.words l.words ≡ g.W.Words.words l.initial.words;
  later : g.W.Words.later l.initial.words l.words;
  from : 0 < l.low → slice_index (g.W.Words.words l.words) (2 * l.low) ≤ l.i;
  below : l.i < run_end (g.W.Words.words l.words) l.high;
}

abbrev pub decreases-loop-low : goal.decreases-loop-low
decreases-loop-low g l = l.high - l.low
