use Rattle.lst_core_state.proofs.Reading.{runs_go_on, seen_is_on_chain, seen_means_known, known_stays_on, tails_tell_chains, drawn_are_chained}
use Rattle.lst_core_state.proofs.laws.seen_means_known.Goals as goal

pub returns-clause-runs : goal.returns-clause-runs
returns-clause-runs c = runs_go_on

pub returns-clause-chained : goal.returns-clause-chained
returns-clause-chained c = seen_is_on_chain

pub returns-clause-known : goal.returns-clause-known
returns-clause-known c = seen_means_known

pub returns-clause-stays : goal.returns-clause-stays
returns-clause-stays c = known_stays_on

pub returns-clause-tails : goal.returns-clause-tails
returns-clause-tails c = tails_tell_chains

pub returns-clause-drawn : goal.returns-clause-drawn
returns-clause-drawn c = drawn_are_chained
