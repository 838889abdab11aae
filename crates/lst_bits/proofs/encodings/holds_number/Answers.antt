use Rattle.lst_bits.proofs.Columns.{number_if_set, no_number_if_clear}
use Rattle.lst_bits.proofs.encodings.holds_number.Goals as goal

pub returns-then-word-column-eq1 : goal.returns-then-word-column-eq1
returns-then-word-column-eq1 c = number_if_set c.args.word c.args.column c.if-word-column-eq1.true

pub returns-else-word-column-eq1 : goal.returns-else-word-column-eq1
returns-else-word-column-eq1 c = no_number_if_clear c.args.word c.args.column c.if-word-column-eq1.false
