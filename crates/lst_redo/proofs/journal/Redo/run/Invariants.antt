use Rattle.std.proofs.Common.{◌≡◌, ◌≤◌, ◌+◌, ℕ, List, [], ◌++◌, length, drop}
use Rattle.std.specs.List.{AllByRecursion}
use Rattle.std.specs.Prelude.{vec_capacity}
use Rattle.lst_model.specs.declared.commits.Commit.{Commit}
use Rattle.lst_model.specs.Lines.{LineFits}
use Rattle.lst_redo.specs.Journals.{view_of}
use Rattle.lst_redo.specs.Ahead.{IsAhead}
use Rattle.lst_redo.proofs.Ahead.{RunSoFar}
use Rattle.lst_redo.proofs.journal.Redo.run.Given as goal

abbrev pub invariant-loop-line : goal.invariant-loop-line
invariant-loop-line g l = record {
  made : List Commit;
  runs : RunSoFar g.D.Disk.content g.D.Disk.images g.D.Disk.clock g.D.Disk.images_since g.D.Disk.room_calls g.D.Disk.room_bytes g.D.Disk.calls_left g.D.Disk.faults l.fn.self l.self made l.lines (drop l.line-index l.lines) l.answers.items;
  ahead : IsAhead g.D.Disk.content g.D.Disk.images g.D.Disk.clock g.D.Disk.images_since g.D.Disk.room_calls g.D.Disk.room_bytes g.D.Disk.calls_left g.D.Disk.faults l.fn.self l.self made l.batch.items;
  fits : AllByRecursion (LineFits (view_of l.fn.self).limits.sessions (view_of l.fn.self).limits.ranges (view_of l.fn.self).limits.columns) (drop l.line-index l.lines);
  count : length l.answers.items ≡ l.line-index;
  capacity : length l.lines ≤ vec_capacity l.answers;
}
