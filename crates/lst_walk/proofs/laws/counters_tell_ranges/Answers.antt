use Rattle.lst_walk.proofs.Counting.{counters_tell_ranges, ranges_are_folded}
use Rattle.lst_walk.proofs.laws.counters_tell_ranges.Goals as goal

pub returns-clause-found : goal.returns-clause-found
returns-clause-found c = counters_tell_ranges

pub returns-clause-folded : goal.returns-clause-folded
returns-clause-folded c = ranges_are_folded
