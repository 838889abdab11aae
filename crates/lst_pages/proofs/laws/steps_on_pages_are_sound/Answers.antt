use Rattle.lst_pages.proofs.Splitting.{enabled_is_split}
use Rattle.lst_pages.proofs.MergerSteps.{page_steps_are_sound}
use Rattle.lst_pages.proofs.ByWords.{page_steps_are_by_words}
use Rattle.lst_pages.proofs.laws.steps_on_pages_are_sound.Goals as goal

pub returns-clause-enabled : goal.returns-clause-enabled
returns-clause-enabled c = enabled_is_split

pub returns-clause-steps : goal.returns-clause-steps
returns-clause-steps c = page_steps_are_sound

pub returns-clause-words : goal.returns-clause-words
returns-clause-words c = page_steps_are_by_words
