use Rattle.std.proofs.Common.{◌≡◌, ℕ, ◌*◌, ◌+◌, ◌<◌, length, sym, ap, ◌∙◌, subst, arith}
use Rattle.lst_model.specs.declared.lines.Line.TheVariants as line
use Rattle.lst_model.specs.declared.replies.Reply.TheVariants.{Merged, NothingNew}
use Rattle.lst_machine.specs.Machine.{next}
use Rattle.lst_plain.specs.Engines.{IsWhole}
use Rattle.lst_plain.specs.EngineOf.{engine_of}
use Rattle.lst_plain.specs.Lineages.{LineageState, with_swap, least_first, tails_before, IsWide}
use Rattle.lst_plain.specs.LineageOf.{lineage_of}
use Rattle.lst_plain.specs.Plains.{StateTells}
use Rattle.lst_machine.proofs.Viewing.{element}
use Rattle.lst_plain.proofs.Joined.{wide_swapped, merge_nothing, merge_no_frame, merge_done}
use Rattle.lst_plain.proofs.plain.Plain.merge.Goals as goal

pub returns-then-old-tps-clause-answers : goal.returns-then-old-tps-clause-answers
returns-then-old-tps-clause-answers c = λ limits state told.
    let whole : IsWhole (engine_of c.args.self.now.engine) = c.args.self.now.engine.whole in
    let inside : c.args.range < length c.args.self.now.engine.accepted.items = omega (arith, whole.ranges, c.requires.range) in
    let count = element c.args.self.now.engine.accepted.items c.args.range c.index-accepted.result.now 0 inside c.index-accepted.ensures in
    let settled = c.settled-tps.ensures ∙ ap (tails_before (least_first 0 c.args.self.now.lineage.holders.items c.args.range)) count in
    let same : c.tps-old.result ≡ c.settled-tps.result = omega (arith, c.if-old-tps.true) in
    let done = merge_nothing (engine_of c.args.self.now.engine) (lineage_of c.args.self.now.lineage) whole c.args.self.now.wide limits state told c.args.range c.args.column c.requires.range c.requires.column
    (sym c.tps-old.ensures ∙ same ∙ settled) in
    (ap NothingNew settled ∙ done.0, done.1)

pub returns-in-Some-clause-answers : goal.returns-in-Some-clause-answers
returns-in-Some-clause-answers c = λ limits state told.
    let whole : IsWhole (engine_of c.args.self.now.engine) = c.args.self.now.engine.whole in
    let inside : c.args.range < length c.args.self.now.engine.accepted.items = omega (arith, whole.ranges, c.requires.range) in
    let count = element c.args.self.now.engine.accepted.items c.args.range c.index-accepted.result.now 0 inside c.index-accepted.ensures in
    let settled = c.settled-tps.ensures ∙ ap (tails_before (least_first 0 c.args.self.now.lineage.holders.items c.args.range)) count in
    merge_no_frame (engine_of c.args.self.now.engine) (lineage_of c.args.self.now.lineage) whole c.args.self.now.wide limits state told c.args.range c.args.column c.requires.range c.requires.column
    (λ e. let same : c.tps-old.result ≡ c.settled-tps.result = c.tps-old.ensures ∙ e ∙ sym settled in absurd (omega (arith, c.if-old-tps.false, same))) c.in-Some.session (sym c.in-Some.ensures)

pub invariant_of-self : goal.invariant_of-self
invariant_of-self c = record {
  wide = subst (λ (l : LineageState). IsWide c.args.self.now.engine.limits l) (sym c.swap.ensures)
      (wide_swapped c.args.self.now.engine.limits (lineage_of c.args.self.now.lineage) c.args.self.now.wide (c.args.range * c.args.self.now.engine.limits.columns + c.args.column) c.settled-tps.result c.args.self.now.engine.limits.spare);
}

pub returns-clause-answers : goal.returns-clause-answers
returns-clause-answers c = λ limits state told.
    let whole : IsWhole (engine_of c.args.self.now.engine) = c.args.self.now.engine.whole in
    let inside : c.args.range < length c.args.self.now.engine.accepted.items = omega (arith, whole.ranges, c.requires.range) in
    let count = element c.args.self.now.engine.accepted.items c.args.range c.index-accepted.result.now 0 inside c.index-accepted.ensures in
    let settled = c.settled-tps.ensures ∙ ap (tails_before (least_first 0 c.args.self.now.lineage.holders.items c.args.range)) count in
    let done = merge_done (engine_of c.args.self.now.engine) (lineage_of c.args.self.now.lineage) whole c.args.self.now.wide limits state told c.args.range c.args.column c.requires.range c.requires.column
    (λ e. let same : c.tps-old.result ≡ c.settled-tps.result = c.tps-old.ensures ∙ e ∙ sym settled in absurd (omega (arith, c.if-old-tps.false, same))) (sym c.in_default.ensures) in (
      ap Merged settled ∙ done.0,
      subst (λ (l : LineageState). StateTells (engine_of c.args.self.now.engine) l limits (next limits state (line.Merge c.args.range c.args.column)))
          (sym (c.swap.ensures ∙ ap (λ (t : ℕ). with_swap (lineage_of c.args.self.now.lineage) (c.args.range * c.args.self.now.engine.limits.columns + c.args.column) t c.args.self.now.engine.limits.spare) settled)) done.1,
    )
