use Rattle.std.proofs.Common.{◌≤◌, ◌<◌, ℕ, subst, sym, ap, ◌∙◌}
use Rattle.lst_probe.specs.Run.{start_of}
use Rattle.lst_core_state.specs.Index.{size}
use Rattle.lst_core_state.proofs.Positions.{position_low}
use Rattle.lst_index.proofs.Hashing.{bits_some, position_is, position_below, start_is}
use Rattle.lst_index.proofs.positions.position.Goals as goal

pub start-first-requires-clause-some : goal.start-first-requires-clause-some
start-first-requires-clause-some c = subst (λ (b : ℕ). 1 ≤ b) (sym c.index_bits.ensures.bits) (bits_some c.args.layout.now.limits c.args.layout.now.valid)

pub returns-clause-position : goal.returns-clause-position
returns-clause-position c = position_is c.args.layout.now.limits c.args.layout.now.valid c.args.key c.args.offset c.start-first.result (c.start-first.ensures.start ∙ ap (start_of c.args.key) c.index_bits.ensures.bits) c.index_positions.result c.index_positions.ensures.count

pub returns-clause-below : goal.returns-clause-below
returns-clause-below c = position_below c.args.layout.now.limits c.args.layout.now.valid c.args.key c.args.offset c.start-first.result (c.start-first.ensures.start ∙ ap (start_of c.args.key) c.index_bits.ensures.bits) c.index_positions.result c.index_positions.ensures.count

pub returns-then-offset-eq0-clause-position : goal.returns-then-offset-eq0-clause-position
returns-then-offset-eq0-clause-position c = start_is c.args.layout.now.limits c.args.layout.now.valid c.args.key c.args.offset c.start-first.result c.index_bits.result c.if-offset-eq0.true c.index_bits.ensures.bits c.start-first.ensures.start c.start-first.ensures.below

pub returns-then-offset-eq0-clause-below : goal.returns-then-offset-eq0-clause-below
returns-then-offset-eq0-clause-below c = subst (λ (q : ℕ). q < size c.args.layout.now.limits) (sym (start_is c.args.layout.now.limits c.args.layout.now.valid c.args.key c.args.offset c.start-first.result c.index_bits.result c.if-offset-eq0.true c.index_bits.ensures.bits c.start-first.ensures.start c.start-first.ensures.below))
    (position_low c.args.layout.now.limits c.args.layout.now.valid c.args.key c.args.offset)
