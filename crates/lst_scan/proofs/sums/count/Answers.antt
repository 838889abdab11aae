use Rattle.std.proofs.Common.{◌≡◌, ℕ, ◌+◌, ◌*◌, refl, sym, subst, ap, ◌∙◌, arith}
use Rattle.lst_layout.specs.declared.layout.Layout.{Layout}
use Rattle.lst_core_state.specs.Cells.{record_count}
use Rattle.lst_rule.specs.Rule.{knows}
use Rattle.lst_scan.specs.Scans.{table_seen, between}
use Rattle.lst_scan.proofs.Parts.{total, count_is}
use Rattle.lst_scan.proofs.Seeing.{place_of, places_of, all_rows}
use Rattle.lst_scan.specs.Savings.{SavesPart}
use Rattle.lst_scan.proofs.Folded.{none_saves, saves_join}
use Rattle.lst_scan.proofs.Loops.{adds_start, adds_part}
use Rattle.lst_scan.proofs.sums.count.Goals as goal

pub loop-range-init : goal.loop-range-init
loop-range-init c = (adds_start c.args.store.now c.args.seat.now c.args.s (λ _. 1) 0 c.consider.ensures c.requires.reader, omega arith, omega arith, none_saves c.args.seat.now.view c.args.seat.now.view c.args.s 0 0 refl)

pub loop-range-preserved : goal.loop-range-preserved
loop-range-preserved c = let invariant = c.loop-range.invariant in (
  adds_part c.args.store.now c.args.seat.now.view c.loop-range.seat c.count_range-rows.new.seat c.args.s (λ _. 1) 0 (256 * c.loop-range.range) (256 * (c.loop-range.range + 1)) c.loop-range.rows c.count_range-rows.result invariant.0
      c.count_range-rows.ensures.reader c.count_range-rows.ensures.watched (omega arith)
      (λ place places. c.count_range-rows.ensures.count place places ∙ count_is (between place (256 * c.loop-range.range) (256 * (c.loop-range.range + 1)) (table_seen (knows c.loop-range.seat.view c.args.s)))),
  (let t = c.loop-range-test.true in let l = ap (λ (y : Layout). y.limits.ranges) c.layout.ensures in omega arith),
  (let few = invariant.2 in let more = c.count_range-rows.ensures.few in omega arith),
  saves_join c.args.seat.now.view c.loop-range.seat.view c.count_range-rows.new.seat.view c.args.s 0 0 (256 * c.loop-range.range) (256 * (c.loop-range.range + 1)) invariant.0.scans.watched c.count_range-rows.ensures.watched (omega arith) (omega arith) invariant.3 c.count_range-rows.ensures.saves,
)

pub returns-clause-count : goal.returns-clause-count
returns-clause-count c = let v = c.args.seat.now.view in let r = c.requires.reader in let invariant = c.loop-range.invariant in
    let place = place_of v c.args.s c.consider.ensures r.host r.opened in let places = places_of v c.args.s c.consider.ensures r.host r.opened in
    let end : 256 * c.loop-range.range ≡ record_count v.limits = (let t = c.loop-range-test.false in let few = invariant.1 in let l = ap (λ (y : Layout). y.limits.ranges) c.layout.ensures in omega arith) ∙ ap record_count (sym r.seat_of.limits) in
    invariant.0.is place places
    ∙ (ap (λ (n : ℕ). total (λ _. 1) (between place 0 n (table_seen (knows v c.args.s)))) end
    ∙ (ap (total (λ _. 1)) (all_rows v c.args.s c.consider.ensures r.host place places) ∙ sym (count_is (table_seen (knows v c.args.s)))))

pub returns-clause-saves : goal.returns-clause-saves
returns-clause-saves c = let invariant = c.loop-range.invariant in
    let end : 256 * c.loop-range.range ≡ record_count c.args.store.now.layout.limits = let t = c.loop-range-test.false in let few = invariant.1 in let l = ap (λ (y : Layout). y.limits.ranges) c.layout.ensures in omega arith in
    subst (λ (n : ℕ). SavesPart c.args.seat.now.view c.loop-range.seat.view c.args.s 0 0 n) end invariant.3
