use Rattle.std.proofs.Common.{Some, refl, sym, ap, ◌∙◌}
use Rattle.lst_script.specs.Heads.{columns_of}
use Rattle.lst_script.proofs.TwoWords.{word_in, two_texts, find_no_column, find_no_value, find_far_column}
use Rattle.lst_script.proofs.lines.read_find.Goals as goal

pub returns-in_default-read_column : goal.returns-in_default-read_column
returns-in_default-read_column c = λ limits. rw (two_texts c.args.arguments.now c.in-len2.len_at_least c.in-len2.len_below) (find_no_column limits (columns_of c.args.heads) (word_in c.args.arguments.now 0) (word_in c.args.arguments.now 1) (sym c.read_column.ensures ∙ c.in_default-read_column.is))

pub returns-in_default-number : goal.returns-in_default-number
returns-in_default-number c = λ limits. rw (two_texts c.args.arguments.now c.in-len2.len_at_least c.in-len2.len_below) (find_no_value limits (columns_of c.args.heads) (word_in c.args.arguments.now 0) (word_in c.args.arguments.now 1) _ (sym c.read_column.ensures ∙ c.in-Some.is) (sym c.number.ensures ∙ c.in_default-number.is))

pub returns-in_default-column : goal.returns-in_default-column
returns-in_default-column c = λ limits. rw (two_texts c.args.arguments.now c.in-len2.len_at_least c.in-len2.len_below) (find_far_column limits (columns_of c.args.heads) (word_in c.args.arguments.now 0) (word_in c.args.arguments.now 1) _ (sym c.read_column.ensures ∙ (c.in-Some.is ∙ ap (λ column. Some column) c.in_default-column.is)) (sym c.number.ensures ∙ c.in-Some-number.is))

pub returns : goal.returns
returns c = λ limits. (refl, (_, _, two_texts c.args.arguments.now c.in-len2.len_at_least c.in-len2.len_below, sym c.read_column.ensures ∙ (c.in-Some.is ∙ ap (λ column. Some column) c.in-Some-column.is), sym c.number.ensures ∙ c.in-Some-number.is))
