use Rattle.std.proofs.Common.{◌≡◌, take}
use Rattle.lst_line_list.proofs.parts.LineSlice.unpacked.Given as goal

abbrev pub invariant-loop-place : goal.invariant-loop-place
invariant-loop-place l = l.lines.items ≡ take l.place l.self
