use Rattle.std.proofs.Common.{ℕ, List}
use Rattle.lst_csv.specs.Reading.{IsReading}
use Rattle.lst_csv.proofs.Rows.{IsSoFar}
use Rattle.lst_csv.proofs.importing.push_lines.Given as goal

abbrev pub invariant-loop-place : goal.invariant-loop-place
invariant-loop-place l = (records : List (List (List ℕ))) → IsReading l.fn.reader records → IsSoFar l.heads records l.reader l.place l.fn.bytes.items l.bytes.items l.keys
