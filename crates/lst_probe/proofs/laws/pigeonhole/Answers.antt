use Rattle.lst_probe.proofs.Counting as proved
use Rattle.lst_probe.proofs.laws.pigeonhole.Goals as goal

pub returns-clause-function : goal.returns-clause-function
returns-clause-function c = proved.pigeonhole

pub returns-clause-distinct : goal.returns-clause-distinct
returns-clause-distinct c = proved.distinct_are_few

pub returns-clause-covering : goal.returns-clause-covering
returns-clause-covering c = proved.covering_is_long

pub returns-clause-owners : goal.returns-clause-owners
returns-clause-owners c = proved.owners_are_many
