use Rattle.std.proofs.Common.{[], ap, ◌∙◌}
use Rattle.std.proofs.lemmas.Result.{IfOk-weaker}
use Rattle.csv.specs.Writing.{default_writer, row_text}
use Rattle.lst_csv.proofs.writing.header_bytes.Goals as goal

pub returns : goal.returns
returns c = IfOk-weaker c.bytes_in.result _ _ (λ bytes is. is _ (c.in_ok-write.ensures [] c.writer_of-writer.ensures) ∙ ap (row_text default_writer) c.in_ok-set_header.ensures) c.bytes_in.ensures
