use Rattle.lst_walk.proofs.Telling.{empty_is_untold, unseen_is_untold, seen_is_told}
use Rattle.lst_walk.proofs.laws.looks_tell_folds.Goals as goal

pub returns-clause-empty : goal.returns-clause-empty
returns-clause-empty c = empty_is_untold

pub returns-clause-unseen : goal.returns-clause-unseen
returns-clause-unseen c = unseen_is_untold

pub returns-clause-seen : goal.returns-clause-seen
returns-clause-seen c = seen_is_told
