use Rattle.lst_pages.proofs.Pages.{right_more, right_same}
use Rattle.lst_pages.proofs.laws.pages_stay_right.Goals as goal

pub returns-clause-settle : goal.returns-clause-settle
returns-clause-settle c = right_more

pub returns-clause-words : goal.returns-clause-words
returns-clause-words c = right_same
