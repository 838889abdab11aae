use Rattle.std.proofs.Common.{◌++◌, map}
use Rattle.lst_csv.specs.Records.{text_of_records}
use Rattle.lst_csv.specs.Writing.{record_of_row}
use Rattle.lst_csv.proofs.Written.{one_more_row, all_rows}
use Rattle.lst_csv.proofs.writing.push_rows.Goals as goal

pub loop-key-preserved : goal.loop-key-preserved
loop-key-preserved c = one_more_row c.args.rows.now c.loop-key.key-index c.loop-key-item.result c.loop-key.bytes.items c.push_row.new.bytes.items
    (c.args.bytes.now.items ++ text_of_records (map record_of_row c.args.rows.now)) c.loop-key-test.true c.loop-key-item.is c.in_ok-push_row.ensures c.loop-key.invariant

pub returns : goal.returns
returns c = all_rows c.args.rows.now c.loop-key.key-index c.loop-key.bytes.items (c.args.bytes.now.items ++ text_of_records (map record_of_row c.args.rows.now)) c.loop-key-test.false c.loop-key.invariant
