use Rattle.std.proofs.Common.{ℕ, take, drop, ap, ◌∙◌}
use Rattle.std.proofs.lemmas.List.{take_min, drop_min}
use Rattle.lst_work.proofs.blocks.first_block.Goals as goal

pub returns-clause-first : goal.returns-clause-first
returns-clause-first c = c.split_at.ensures.front ∙ (ap (λ (n : ℕ). take n c.args.lines.now) c.min.ensures ∙ take_min 32768 c.args.lines.now)

pub returns-clause-rest : goal.returns-clause-rest
returns-clause-rest c = c.split_at.ensures.back ∙ (ap (λ (n : ℕ). drop n c.args.lines.now) c.min.ensures ∙ drop_min 32768 c.args.lines.now)
