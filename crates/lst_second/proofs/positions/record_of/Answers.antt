use Rattle.std.proofs.Common.{ℕ, ◌+◌, ◌-◌, ◌*◌, ◌/◌, ap, ◌∙◌}
use Rattle.lst_rule.proofs.PostingBits.{record_is}
use Rattle.lst_second.proofs.positions.record_of.Goals as goal

pub returns : goal.returns
returns c = ap (λ (n : ℕ). (c.args.tail - 1) / c.args.layout.now.limits.tails * 256 + n) c.slot.ensures ∙ record_is c.args.layout.now.limits.tails c.args.tail c.args.encoding
