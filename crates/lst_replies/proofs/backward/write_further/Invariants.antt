use Rattle.std.proofs.Common.{◌≡◌, ◌++◌, ◌∷◌, ◌+◌, ◌*◌, ◌≤◌, flat_map, drop, length}
use Rattle.lst_replies.specs.Texts.{cell_text}
use Rattle.lst_replies.proofs.backward.write_further.Given as goal

abbrev pub invariant-loop-column : goal.invariant-loop-column
invariant-loop-column l = record {
  above : 1 ≤ l.column;
  within : l.column ≤ length l.row;
  before : l.at ≤ l.end;
  room : l.end + 21 * l.column ≤ l.at + 21 * length l.row;
  written : drop l.at l.buffer ≡ flat_map (λ cell. l.between ∷ cell_text cell) (drop l.column l.row) ++ drop l.end l.fn.buffer;
}

abbrev pub decreases-loop-column : goal.decreases-loop-column
decreases-loop-column l = l.column
