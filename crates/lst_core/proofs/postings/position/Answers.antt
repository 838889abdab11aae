use Rattle.std.proofs.Common.{◌≤◌, ℕ, subst, sym, ap, ◌∙◌}
use Rattle.lst_probe.specs.Run.{start_of}
use Rattle.lst_core.proofs.ValueRuns.{posting_bits_some, value_position_is}
use Rattle.lst_core.proofs.postings.position.Goals as goal

pub start-first-requires-clause-some : goal.start-first-requires-clause-some
start-first-requires-clause-some c = subst (λ (b : ℕ). 1 ≤ b) (sym c.posting_bits.ensures.bits) (posting_bits_some c.args.layout.now.limits c.args.layout.now.valid)

pub returns-clause-position : goal.returns-clause-position
returns-clause-position c = value_position_is c.args.layout.now.limits c.args.layout.now.valid c.args.value c.args.offset c.start-first.result (c.start-first.ensures.start ∙ ap (start_of c.args.value) c.posting_bits.ensures.bits) c.posting_positions.result c.posting_positions.ensures.count
