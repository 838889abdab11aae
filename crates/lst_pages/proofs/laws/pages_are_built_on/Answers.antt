use Rattle.lst_pages.proofs.Folds.{folded-take}
use Rattle.lst_pages.proofs.Pages.{build_right}
use Rattle.lst_pages.proofs.laws.pages_are_built_on.Goals as goal

pub returns-clause-fold : goal.returns-clause-fold
returns-clause-fold c = folded-take

pub returns-clause-built : goal.returns-clause-built
returns-clause-built c = build_right
