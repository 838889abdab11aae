use Rattle.std.proofs.Common.{◌≡◌, ◌++◌, drop}
use Rattle.std.specs.List.{AllByRecursion}
use Rattle.lst_historic.specs.Blocks.{CellFits, differences}
use Rattle.lst_historic.proofs.writing.push_differences.Given as goal

abbrev pub invariant-loop-column : goal.invariant-loop-column
invariant-loop-column l = record {
  text : l.out.items ++ differences (drop l.column l.old.items) (drop l.column l.new.items) ≡ l.fn.out.items ++ differences l.old.items l.new.items;
  numbers : AllByRecursion CellFits (drop l.column l.new.items) → AllByRecursion CellFits l.new.items;
}
