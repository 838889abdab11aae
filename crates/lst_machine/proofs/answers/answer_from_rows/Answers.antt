use Rattle.std.proofs.Common.{length, sym, ap, ◌∙◌}
use Rattle.std.specs.FinMap.{len-entries}
use Rattle.lst_model.specs.declared.replies.Reply.TheVariants.{Count}
use Rattle.lst_machine.specs.Scans.{scan_answer}
use Rattle.lst_machine.proofs.answers.answer_from_rows.Goals as goal

pub returns-in-Count : goal.returns-in-Count
returns-in-Count c = λ table same. ap Count (ap length (c.items-in-Count.ensures ∙ same) ∙ sym (len-entries table)) ∙ ap (scan_answer table) (sym c.in-Count.is)
