use Rattle.lst_rule.proofs.Finding.{starts_are_found, tails_are_found, words_are_found, states_are_found, unfinished_is_about}
use Rattle.lst_rule.proofs.laws.words_are_found.Goals as goal

pub returns-clause-starts : goal.returns-clause-starts
returns-clause-starts c = starts_are_found

pub returns-clause-words : goal.returns-clause-words
returns-clause-words c = words_are_found

pub returns-clause-states : goal.returns-clause-states
returns-clause-states c = states_are_found

pub returns-clause-about : goal.returns-clause-about
returns-clause-about c = unfinished_is_about

pub returns-clause-tails : goal.returns-clause-tails
returns-clause-tails c = tails_are_found
