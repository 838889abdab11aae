use Rattle.std.proofs.Common.{◌≡◌, ◌++◌, map}
use Rattle.lst_csv.specs.Records.{text_of_records}
use Rattle.lst_csv.specs.Writing.{record_of_row}
use Rattle.lst_csv.proofs.Written.{text_from}
use Rattle.lst_csv.proofs.writing.push_rows.Given as goal

abbrev pub invariant-loop-key : goal.invariant-loop-key
invariant-loop-key l = l.bytes.items ++ text_from l.rows l.key-index ≡ l.initial.bytes.items ++ text_of_records (map record_of_row l.rows)
