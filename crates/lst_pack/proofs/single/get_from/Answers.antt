use Rattle.std.proofs.Common.{sym, subst, ◌∙◌}
use Rattle.lst_pack.specs.Forms.{IsPacked}
use Rattle.lst_pack.proofs.single.get_from.Goals as goal

pub other_value-requires-clause-packed : goal.other_value-requires-clause-packed
other_value-requires-clause-packed g c = subst IsPacked (sym c.word-first.ensures.same) c.requires.packed

pub returns-then-first-eq1-clause-same : goal.returns-then-first-eq1-clause-same
returns-then-first-eq1-clause-same g c = c.referred_value.ensures.same ∙ c.word-first.ensures.same

pub returns-then-first-eq2-clause-same : goal.returns-then-first-eq2-clause-same
returns-then-first-eq2-clause-same g c = c.named_value.ensures.same ∙ c.word-first.ensures.same

pub returns-then-first-eq1-2-clause-same : goal.returns-then-first-eq1-2-clause-same
returns-then-first-eq1-2-clause-same g c = c.word.ensures.same ∙ c.word-first.ensures.same

pub returns-else-first-eq1-2-clause-same : goal.returns-else-first-eq1-2-clause-same
returns-else-first-eq1-2-clause-same g c = c.other_value.ensures.same ∙ c.word-first.ensures.same
