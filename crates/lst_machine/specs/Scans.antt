-- The calls that ask about all rows, and what a table answers them.
use Rattle.std.specs.Prelude.{Bool, false, not}
use Rattle.lst_layout.specs.declared.limits.Limits.{Limits}
use Rattle.lst_model.specs.declared.lines.Call.{Call}
use Rattle.lst_model.specs.declared.lines.Call.TheVariants.{Sum, Count, Scan, Find}
use Rattle.lst_model.specs.declared.replies.Reply.{Reply}
use Rattle.lst_model.specs.declared.replies.Reply.TheVariants.{Silent, Sum as SumReply, Count as CountReply, Rows as RowsReply, Keys}
use Rattle.lst_model.specs.Tables.{Rows, sum_of, count_of, scan_of, find_of}
use Rattle.lst_machine.specs.Calls.{is_indexed}

-- a sum, a count, a scan or a find
abbrev pub IsScan : Call → Type 0
IsScan (Sum column) = Unit {0}
IsScan Count = Unit {0}
IsScan Scan = Unit {0}
IsScan (Find column number) = Unit {0}
IsScan call = ⊥

-- the answer of a table to such a call
abbrev pub scan_answer : Rows → Call → Reply
scan_answer table (Sum column) = SumReply (sum_of table column)
scan_answer table Count = CountReply (count_of table)
scan_answer table Scan = RowsReply (scan_of table)
scan_answer table (Find column number) = Keys (find_of table column number)
scan_answer table call = Silent

-- whether a call is a find on a column without an index
abbrev pub lacks_index : Limits → Call → Bool
lacks_index limits (Find column number) = not (is_indexed limits column)
lacks_index limits call = false
