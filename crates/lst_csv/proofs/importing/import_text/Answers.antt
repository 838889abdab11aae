use Rattle.std.proofs.Common.{map, ap, ◌∙◌}
use Rattle.lst_csv.specs.Importing.{head_of}
use Rattle.lst_csv.specs.Records.{records_of}
use Rattle.lst_csv.proofs.Tabled.{table_written, table_misread}
use Rattle.lst_csv.proofs.importing.import_text.Goals as goal

pub returns-in-Err-clause-bad : goal.returns-in-Err-clause-bad
returns-in-Err-clause-bad c = c.in-Err.ensures.bad (records_of c.args.bytes.now) c.reader_over-reader.ensures

pub returns-in-Err-push_lines-clause-bad : goal.returns-in-Err-push_lines-clause-bad
returns-in-Err-push_lines-clause-bad c =
    let head = c.in-Ok.ensures.ok (records_of c.args.bytes.now) c.reader_over-reader.ensures in
    table_misread c.args.columns (records_of c.args.bytes.now) c.in-Ok.names c.items-2.result.now c.read_header.new.reader head (c.items-2.ensures ∙ (c.in_ok-heads.ensures ∙ ap (map head_of) c.items.ensures)) c.in-Err-push_lines.refusal (c.in-Err-push_lines.ensures.bad head.later head.reading)

pub returns-clause-ok : goal.returns-clause-ok
returns-clause-ok c =
    let head = c.in-Ok.ensures.ok (records_of c.args.bytes.now) c.reader_over-reader.ensures in
    table_written c.args.columns (records_of c.args.bytes.now) c.in-Ok.names c.items-2.result.now c.read_header.new.reader head (c.items-2.ensures ∙ (c.in_ok-heads.ensures ∙ ap (map head_of) c.items.ensures))
    c.in_ok-script.script.items c.push_lines.new.bytes.items c.extend_from_slice.new.self.items c.from_bytes.result c.in_ok-script.ensures (c.in-Ok-push_lines.ensures.ok head.later head.reading) c.in_ok-extend_from_slice.ensures.items c.from_bytes.ensures
