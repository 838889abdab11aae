use Rattle.lst_command.proofs.Answers.{due, usage, complete}
use Rattle.lst_command.proofs.shell.lstore.Goals as goal

pub returns-clause-usage : goal.returns-clause-usage
returns-clause-usage g c = usage c.by_words-status.result _ _ _ _ _ c.by_words-status.ensures.says

pub returns-clause-due : goal.returns-clause-due
returns-clause-due g c = due c.by_words-status.result _ _ _ _ _ c.by_words-status.ensures.says

pub returns-clause-complete : goal.returns-clause-complete
returns-clause-complete g c = complete c.by_words-status.result _ _ _ _ _ c.by_words-status.ensures.says
