use Rattle.lst_pages.proofs.Numbering.{settled_are_numbered, facts_settle, commits_settle}
use Rattle.lst_pages.proofs.OnChains.{settled_are_on_chains}
use Rattle.lst_pages.proofs.laws.settled_tails_are_found.Goals as goal

pub returns-clause-numbered : goal.returns-clause-numbered
returns-clause-numbered c = settled_are_numbered

pub returns-clause-facts : goal.returns-clause-facts
returns-clause-facts c = facts_settle

pub returns-clause-commits : goal.returns-clause-commits
returns-clause-commits c = commits_settle

pub returns-clause-chains : goal.returns-clause-chains
returns-clause-chains c = settled_are_on_chains
