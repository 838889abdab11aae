use Rattle.std.proofs.Common.{◌≡◌, ℕ, ◌+◌, ◌*◌, ◌/◌, refl, sym, subst, ap, ◌∙◌, arith}
use Rattle.lst_model.specs.Cells.{number_at}
use Rattle.lst_model.specs.Tables.{sum_of}
use Rattle.lst_core_state.specs.declared.known.Known.{Known}
use Rattle.lst_rule.specs.Rule.{knows}
use Rattle.lst_walk.specs.Chains.{AreTailsOf}
use Rattle.lst_scan.specs.Scans.{table_seen, between}
use Rattle.lst_scan.proofs.Seeing.{weight_of, number_weight}
use Rattle.lst_scan.specs.Savings.{SavesPart, TellsNone}
use Rattle.lst_scan.proofs.Folded.{none_saves, none_still, saves_join}
use Rattle.lst_scan.proofs.Loops.{Adds, adds_start, adds_next}
use Rattle.lst_scan.proofs.sums.sum_by_records.Goals as goal

pub loop-number-init : goal.loop-number-init
loop-number-init c = (
  adds_start c.args.store.now c.args.seat.now c.args.s (number_at c.args.c) (256 * c.args.range) c.consider.ensures c.requires.reader,
  (omega arith),
  omega arith,
  none_saves c.args.seat.now.view c.args.seat.now.view c.args.s c.args.c (256 * c.args.range) refl,
)

pub loop-number-preserved : goal.loop-number-preserved
loop-number-preserved c = let on = c.cell_by_chain-found.ensures.cell in let invariant = c.loop-number.invariant in
    let in_range : c.args.range ≡ c.loop-number.number / 256 = (let low = invariant.0.rises in let t = c.loop-number-test.true in let e = c.loop-number.auto.number-end in omega arith) in
    let added : c.loop-number.total + weight_of (number_at c.args.c) on.0 ≡ c.loop-number.total + c.from-total.result =
    ap (λ (x : ℕ). c.loop-number.total + x) (sym (number_weight c.args.c on.0 c.cell_by_chain-found.result on.2) ∙ (sym c.unwrap_or.ensures ∙ sym c.from-total.ensures)) in (
      subst (λ (x : ℕ). Adds c.args.store.now c.args.seat.now.view c.cell_by_chain-found.new.seat c.args.s (number_at c.args.c) (256 * c.args.range) (c.loop-number.number + 1) x) added
          (adds_next c.args.store.now c.args.seat.now.view c.loop-number.seat c.cell_by_chain-found.new.seat c.args.s (number_at c.args.c) (256 * c.args.range) c.loop-number.number c.loop-number.total invariant.0 c.consider-in-loop-number.ensures
          c.cell_by_chain-found.ensures.reader c.cell_by_chain-found.ensures.watched on.0 on.1),
      (let t = c.loop-number-test.true in let e = c.loop-number.auto.number-end in omega arith),
      (let few = invariant.2 in let rises = invariant.0.rises in let fits = c.unwrap_or.type_inv in let same = c.from-total.ensures in omega arith),
      saves_join c.args.seat.now.view c.loop-number.seat.view c.cell_by_chain-found.new.seat.view c.args.s c.args.c (256 * c.args.range) c.loop-number.number (c.loop-number.number + 1) invariant.0.scans.watched c.cell_by_chain-found.ensures.watched invariant.0.rises (omega arith) invariant.3 (c.cell_by_chain-found.ensures.saves (subst (λ (r : ℕ). TellsNone c.loop-number.seat.view c.args.s r c.args.c) in_range
          (none_still c.args.seat.now.view c.loop-number.seat.view c.args.s c.args.range c.args.c invariant.0.scans.watched c.requires.none))),
    )

pub returns-clause-sum : goal.returns-clause-sum
returns-clause-sum c = λ place places. let invariant = c.loop-number.invariant in
    subst (λ (n : ℕ). c.loop-number.total ≡ sum_of (between place (256 * c.args.range) n (table_seen (knows c.args.seat.now.view c.args.s))) c.args.c)
    (let t = c.loop-number-test.false in let e = c.loop-number.auto.number-end in let few = invariant.1 in omega arith) (invariant.0.is place places)

pub returns-clause-few : goal.returns-clause-few
returns-clause-few c = let few = c.loop-number.invariant.2 in let end = c.loop-number.invariant.1 in omega arith

pub returns-clause-saves : goal.returns-clause-saves
returns-clause-saves c = let invariant = c.loop-number.invariant in
    subst (λ (n : ℕ). SavesPart c.args.seat.now.view c.loop-number.seat.view c.args.s c.args.c (256 * c.args.range) n) (let t = c.loop-number-test.false in let e = c.loop-number.auto.number-end in let few = invariant.1 in omega arith) invariant.3

pub cell_by_chain-found-requires-clause-tails : goal.cell_by_chain-found-requires-clause-tails
cell_by_chain-found-requires-clause-tails c = let in_range : c.args.range ≡ c.loop-number.number / 256 = (let low = c.loop-number.invariant.0.rises in let t = c.loop-number-test.true in let e = c.loop-number.auto.number-end in omega arith) in
    subst (λ (r : ℕ). AreTailsOf c.args.store.now.layout.limits r c.tails_apart-tails.result) in_range c.tails_apart-tails.ensures

pub cell_by_chain-found-requires-clause-begin : goal.cell_by_chain-found-requires-clause-begin
cell_by_chain-found-requires-clause-begin c = c.begin-begin.ensures ∙ sym (ap (λ (k : Known). k.begin) c.loop-number.invariant.0.scans.watched.watches.is)
