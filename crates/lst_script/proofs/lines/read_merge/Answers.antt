use Rattle.std.proofs.Common.{Some, sym, ap, ◌∙◌, arith}
use Rattle.lst_script.specs.Texts.{texts}
use Rattle.lst_script.specs.Heads.{columns_of}
use Rattle.lst_script.proofs.TwoWords.{word_in, two_texts, not_two, merge_count, merge_no_range, merge_no_column, merge_far_range, merge_far_column}
use Rattle.lst_script.proofs.lines.read_merge.Goals as goal

pub returns-in_default : goal.returns-in_default
returns-in_default c = merge_count c.args.limits.now (columns_of c.args.heads) (texts c.args.arguments.now) (not_two c.args.arguments.now (λ two. omega (arith, two)))

pub returns-in_default-2 : goal.returns-in_default-2
returns-in_default-2 c = merge_count c.args.limits.now (columns_of c.args.heads) (texts c.args.arguments.now) (not_two c.args.arguments.now (λ two. omega (arith, two)))

pub returns-in_default-number : goal.returns-in_default-number
returns-in_default-number c = rw (two_texts c.args.arguments.now c.in-len2.len_at_least c.in-len2.len_below) (merge_no_range c.args.limits.now (columns_of c.args.heads) (word_in c.args.arguments.now 0) (word_in c.args.arguments.now 1) (sym c.number.ensures ∙ c.in_default-number.is))

pub returns-in_default-read_column : goal.returns-in_default-read_column
returns-in_default-read_column c = rw (two_texts c.args.arguments.now c.in-len2.len_at_least c.in-len2.len_below) (merge_no_column c.args.limits.now (columns_of c.args.heads) (word_in c.args.arguments.now 0) (word_in c.args.arguments.now 1) _ (sym c.number.ensures ∙ c.in-Some.is) (sym c.read_column.ensures ∙ c.in_default-read_column.is))

pub returns-then-range-from : goal.returns-then-range-from
returns-then-range-from c = rw (two_texts c.args.arguments.now c.in-len2.len_at_least c.in-len2.len_below) (merge_far_range c.args.limits.now (columns_of c.args.heads) (word_in c.args.arguments.now 0) (word_in c.args.arguments.now 1) _ (sym c.number.ensures ∙ c.in-Some.is) _ (sym c.read_column.ensures ∙ c.in-Some-read_column.is) (omega arith))

pub returns-in_default-column : goal.returns-in_default-column
returns-in_default-column c = rw (two_texts c.args.arguments.now c.in-len2.len_at_least c.in-len2.len_below) (merge_far_column c.args.limits.now (columns_of c.args.heads) (word_in c.args.arguments.now 0) (word_in c.args.arguments.now 1) _ (sym c.number.ensures ∙ c.in-Some.is) (sym c.read_column.ensures ∙ (c.in-Some-read_column.is ∙ ap (λ column. Some column) c.in_default-column.is)) (omega arith))

pub returns : goal.returns
returns c = (_, _, two_texts c.args.arguments.now c.in-len2.len_at_least c.in-len2.len_below, sym c.number.ensures ∙ c.in-Some.is, omega arith, sym c.read_column.ensures ∙ (c.in-Some-read_column.is ∙ ap (λ column. Some column) c.in-Some-column.is))
