use Rattle.std.proofs.Common.{◌≡◌, ℕ, ◌+◌, ◌*◌, ◌/◌, ◌≤◌, refl, sym, subst, ap, ◌∙◌, arith, true≢false}
use Rattle.lst_model.specs.Tables.{count_of}
use Rattle.lst_core_state.specs.declared.known.Known.{Known}
use Rattle.lst_rule.specs.Rule.{knows}
use Rattle.lst_walk.specs.Chains.{AreTailsOf}
use Rattle.lst_scan.specs.Scans.{table_seen, between}
use Rattle.lst_scan.specs.Savings.{SavesPart, TellsNone}
use Rattle.lst_scan.proofs.Folded.{none_saves, none_still, saves_join}
use Rattle.lst_scan.proofs.Parts.{count_is}
use Rattle.lst_scan.proofs.Seeing.{one_weight, no_weight}
use Rattle.lst_scan.proofs.Loops.{Adds, adds_start, adds_next}
use Rattle.lst_scan.proofs.sums.count_by_records.Goals.{then-is_some, else-is_some}
use Rattle.lst_scan.proofs.sums.count_by_records.Goals as goal

pub loop-number-init : goal.loop-number-init
loop-number-init c = (
  adds_start c.args.store.now c.args.seat.now c.args.s (λ _. 1) (256 * c.args.range) c.consider.ensures c.requires.reader,
  omega arith,
  omega arith,
  none_saves c.args.seat.now.view c.args.seat.now.view c.args.s 0 (256 * c.args.range) refl,
)

pub cell_by_chain-requires-clause-column : goal.cell_by_chain-requires-clause-column
cell_by_chain-requires-clause-column c = c.args.store.now.layout.valid.columns.0

pub loop-number-preserved : goal.loop-number-preserved
loop-number-preserved c = let on = c.cell_by_chain.ensures.cell in let invariant = c.loop-number.invariant in
    let next = adds_next c.args.store.now c.args.seat.now.view c.loop-number.seat c.cell_by_chain.new.seat c.args.s (λ _. 1) (256 * c.args.range) c.loop-number.number c.loop-number.rows invariant.0 c.consider-in-loop-number.ensures
    c.cell_by_chain.ensures.reader c.cell_by_chain.ensures.watched on.0 on.1 in
    let few = invariant.2 in let rises = invariant.0.rises in let low : c.loop-number.number + 1 ≤ 256 * (c.args.range + 1) = (let t = c.loop-number-test.true in omega arith) in
    let in_range : c.args.range ≡ c.loop-number.number / 256 = (let t = c.loop-number-test.true in omega arith) in
    let saves : SavesPart c.args.seat.now.view c.cell_by_chain.new.seat.view c.args.s 0 (256 * c.args.range) (c.loop-number.number + 1) =
    saves_join c.args.seat.now.view c.loop-number.seat.view c.cell_by_chain.new.seat.view c.args.s 0 (256 * c.args.range) c.loop-number.number (c.loop-number.number + 1) invariant.0.scans.watched c.cell_by_chain.ensures.watched rises (omega arith) invariant.3
    (c.cell_by_chain.ensures.saves (subst (λ (r : ℕ). TellsNone c.loop-number.seat.view c.args.s r 0) in_range (none_still c.args.seat.now.view c.loop-number.seat.view c.args.s c.args.range 0 invariant.0.scans.watched c.requires.none))) in
    elim c.if-is_some.branch [
      | then-is_some w ↦
          let one = one_weight 0 on.0 c.cell_by_chain.result on.2 (sym c.is_some.ensures ∙ w.if-is_some.true) in let is = w.rows-is in
          (subst (λ (x : ℕ). Adds c.args.store.now c.args.seat.now.view c.cell_by_chain.new.seat c.args.s (λ _. 1) (256 * c.args.range) (c.loop-number.number + 1) x) (omega arith) next, low, (omega arith), saves)
      | else-is_some w ↦
          let none = no_weight 0 on.0 c.cell_by_chain.result on.2 (λ there. true≢false (sym there ∙ (sym c.is_some.ensures ∙ w.if-is_some.false))) in let is = w.rows-is in
          (subst (λ (x : ℕ). Adds c.args.store.now c.args.seat.now.view c.cell_by_chain.new.seat c.args.s (λ _. 1) (256 * c.args.range) (c.loop-number.number + 1) x) (omega arith) next, low, (omega arith), saves)
    ]

pub returns-clause-count : goal.returns-clause-count
returns-clause-count c = λ place places. let invariant = c.loop-number.invariant in
    subst (λ (n : ℕ). c.loop-number.rows ≡ count_of (between place (256 * c.args.range) n (table_seen (knows c.args.seat.now.view c.args.s))))
    (let t = c.loop-number-test.false in let few = invariant.1 in omega arith)
    (invariant.0.is place places ∙ sym (count_is (between place (256 * c.args.range) c.loop-number.number (table_seen (knows c.args.seat.now.view c.args.s)))))

pub returns-clause-few : goal.returns-clause-few
returns-clause-few c = let few = c.loop-number.invariant.2 in let end = c.loop-number.invariant.1 in omega arith

pub returns-clause-saves : goal.returns-clause-saves
returns-clause-saves c = let invariant = c.loop-number.invariant in
    subst (λ (n : ℕ). SavesPart c.args.seat.now.view c.loop-number.seat.view c.args.s 0 (256 * c.args.range) n) (let t = c.loop-number-test.false in let few = invariant.1 in omega arith) invariant.3

pub cell_by_chain-requires-clause-tails : goal.cell_by_chain-requires-clause-tails
cell_by_chain-requires-clause-tails c = let in_range : c.args.range ≡ c.loop-number.number / 256 = (let low = c.loop-number.invariant.0.rises in let t = c.loop-number-test.true in omega arith) in
    subst (λ (r : ℕ). AreTailsOf c.args.store.now.layout.limits r c.tails_apart-tails.result) in_range c.tails_apart-tails.ensures

pub cell_by_chain-requires-clause-begin : goal.cell_by_chain-requires-clause-begin
cell_by_chain-requires-clause-begin c = c.begin-begin.ensures ∙ sym (ap (λ (k : Known). k.begin) c.loop-number.invariant.0.scans.watched.watches.is)
