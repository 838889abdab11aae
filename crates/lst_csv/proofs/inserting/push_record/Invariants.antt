use Rattle.std.proofs.Common.{drop}
use Rattle.csv.specs.Records.{fields_of}
use Rattle.lst_csv.proofs.ReadFields.{AreWritten}
use Rattle.lst_csv.proofs.inserting.push_record.Given as goal

abbrev pub invariant-loop-column : goal.invariant-loop-column
invariant-loop-column l = AreWritten l.heads (drop 1 (fields_of l.fields)) l.initial.bytes.items l.column l.bytes.items
