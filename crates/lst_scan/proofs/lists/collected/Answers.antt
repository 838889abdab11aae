use Rattle.std.proofs.Common.{◌≡◌, ℕ, ◌+◌, ◌*◌, ◌≤◌, sym, ap, ◌∙◌, arith}
use Rattle.std.specs.Prelude.{Some, None}
use Rattle.std.specs.FinMap.{entries}
use Rattle.lst_layout.specs.declared.layout.Layout.{Layout}
use Rattle.lst_core_state.specs.Cells.{record_count}
use Rattle.lst_rule.specs.Rule.{knows}
use Rattle.lst_rule.proofs.Watching.{watches_join}
use Rattle.lst_scan.specs.Scans.{table_seen, between}
use Rattle.lst_scan.proofs.Seeing.{place_of, places_of, all_rows}
use Rattle.lst_scan.proofs.Loops.{collects_start, collects_next}
use Rattle.lst_scan.proofs.lists.collected.Goals.{in-Some+in_ok-insert, in_default}
use Rattle.lst_scan.proofs.lists.collected.Goals as goal

pub loop-number-init : goal.loop-number-init
loop-number-init c = (collects_start c.args.store.now c.args.seat.now c.args.s c.new-found.result.entries c.consider.ensures c.requires.reader c.requires.free c.new-found.ensures.empty, omega arith)

pub returns-in_err-insert-clause-watched : goal.returns-in_err-insert-clause-watched
returns-in_err-insert-clause-watched c = watches_join c.args.seat.now.view c.loop-number.seat.view c.entry.new.seat.view c.args.s c.loop-number.invariant.0.scans.watched c.entry.ensures.watched

pub loop-number-preserved : goal.loop-number-preserved
loop-number-preserved c = let invariant = c.loop-number.invariant in
    let low : c.loop-number.number + 1 ≤ 256 * c.args.store.now.layout.limits.ranges = (let t = c.loop-number-test.true in let e = c.loop-number.auto.number-end in let l = ap (λ (y : Layout). y.limits.ranges) c.layout.ensures in omega arith) in
    elim c.match-entry.branch [
      | in-Some+in_ok-insert w ↦ (
        collects_next c.args.store.now c.args.seat.now.view c.loop-number.seat c.entry.new.seat c.args.s c.loop-number.number c.loop-number.found.entries c.match-entry.found.entries invariant.0 c.consider-in-loop-number.ensures
            c.entry.ensures.reader c.entry.ensures.watched (Some (w.in-Some.key, w.in-Some.row)) w.in-Some.ensures.entry ((λ i. (w.found-is i).entries) ∙ w.in_ok-insert.ensures.entries),
        low,
      )
      | in_default w ↦ (
        collects_next c.args.store.now c.args.seat.now.view c.loop-number.seat c.entry.new.seat c.args.s c.loop-number.number c.loop-number.found.entries c.match-entry.found.entries invariant.0 c.consider-in-loop-number.ensures
            c.entry.ensures.reader c.entry.ensures.watched None w.in_default.ensures.entry (λ i. (w.found-is i).entries),
        low,
      )
    ]

pub returns-clause-rows : goal.returns-clause-rows
returns-clause-rows c = let v = c.args.seat.now.view in let r = c.requires.reader in let invariant = c.loop-number.invariant in
    let place = place_of v c.args.s c.consider.ensures r.host r.opened in let places = places_of v c.args.s c.consider.ensures r.host r.opened in
    let end : c.loop-number.number ≡ record_count v.limits = (let t = c.loop-number-test.false in let e = c.loop-number.auto.number-end in let few = invariant.1 in let l = ap (λ (y : Layout). y.limits.ranges) c.layout.ensures in omega arith) ∙ ap record_count (sym r.seat_of.limits) in
    invariant.0.is place places
    ∙ (ap (λ (n : ℕ). entries (between place 0 n (table_seen (knows v c.args.s)))) end
    ∙ ap entries (all_rows v c.args.s c.consider.ensures r.host place places))
