use Rattle.lst_pages.proofs.Chains.{entry_is_seen, entry_is_answer}
use Rattle.lst_pages.proofs.laws.entries_are_answers.Goals as goal

pub returns-clause-seen : goal.returns-clause-seen
returns-clause-seen c = entry_is_seen

pub returns-clause-answer : goal.returns-clause-answer
returns-clause-answer c = entry_is_answer
