use Rattle.std.proofs.Common.{◌≡◌, ℕ, ◌+◌, ◌*◌, refl, subst, arith}
use Rattle.lst_model.specs.Cells.{number_at}
use Rattle.lst_model.specs.Tables.{sum_of}
use Rattle.lst_rule.specs.Rule.{knows}
use Rattle.lst_scan.specs.Scans.{table_seen, between}
use Rattle.lst_scan.specs.Savings.{SavesPart}
use Rattle.lst_scan.proofs.Folded.{none_saves, saves_join}
use Rattle.lst_scan.proofs.Loops.{adds_start, adds_part}
use Rattle.lst_scan.proofs.sums.sum_part.Goals as goal

pub loop-range-init : goal.loop-range-init
loop-range-init c = (adds_start c.args.store.now c.args.seat.now c.args.s (number_at c.args.c) (256 * c.args.from) c.consider.ensures c.requires.reader, c.requires.rises, omega arith, none_saves c.args.seat.now.view c.args.seat.now.view c.args.s c.args.c (256 * c.args.from) refl)

pub loop-range-preserved : goal.loop-range-preserved
loop-range-preserved c = let invariant = c.loop-range.invariant in (
  adds_part c.args.store.now c.args.seat.now.view c.loop-range.seat c.sum_range-total.new.seat c.args.s (number_at c.args.c) (256 * c.args.from) (256 * c.loop-range.range) (256 * (c.loop-range.range + 1)) c.loop-range.total c.sum_range-total.result invariant.0
      c.sum_range-total.ensures.reader c.sum_range-total.ensures.watched (omega arith) c.sum_range-total.ensures.sum,
  (let t = c.loop-range-test.true in omega arith),
  (let few = invariant.2 in let rises = invariant.0.rises in let more = c.sum_range-total.ensures.few in omega arith),
  saves_join c.args.seat.now.view c.loop-range.seat.view c.sum_range-total.new.seat.view c.args.s c.args.c (256 * c.args.from) (256 * c.loop-range.range) (256 * (c.loop-range.range + 1)) invariant.0.scans.watched c.sum_range-total.ensures.watched invariant.0.rises (omega arith) invariant.3 c.sum_range-total.ensures.saves,
)

pub returns-clause-sum : goal.returns-clause-sum
returns-clause-sum c = λ place places. let invariant = c.loop-range.invariant in
    subst (λ (n : ℕ). c.loop-range.total ≡ sum_of (between place (256 * c.args.from) (256 * n) (table_seen (knows c.args.seat.now.view c.args.s))) c.args.c)
    (let t = c.loop-range-test.false in let few = invariant.1 in omega arith) (invariant.0.is place places)

pub returns-clause-saves : goal.returns-clause-saves
returns-clause-saves c = let invariant = c.loop-range.invariant in
    subst (λ (n : ℕ). SavesPart c.args.seat.now.view c.loop-range.seat.view c.args.s c.args.c (256 * c.args.from) (256 * n)) (let t = c.loop-range-test.false in let few = invariant.1 in omega arith) invariant.3

pub returns-clause-few : goal.returns-clause-few
returns-clause-few c = let t = c.loop-range-test.false in let invariant = c.loop-range.invariant in let few = invariant.1 in let most = invariant.2 in omega arith
