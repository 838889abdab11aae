use Rattle.std.proofs.Common.{◌≡◌, ℕ, ◌+◌, ◌*◌, ◌≤◌, inl, sym, subst, ap, ◌∙◌, arith}
use Rattle.std.specs.Prelude.{Some, None, IfOk}
use Rattle.lst_layout.specs.declared.layout.Layout.{Layout}
use Rattle.lst_model.specs.Tables.{Rows, scan_of}
use Rattle.lst_core_state.specs.Cells.{record_count}
use Rattle.lst_rule.proofs.Watching.{watches_join}
use Rattle.lst_scan.proofs.Loops.{AreUpTo, scans_next, collects_start, collects_next, comes_below, next_last, collects_whole, scan_later}
use Rattle.lst_scan.proofs.lists.rows.Goals.{in-Some+then-comes_next+in_ok-push, in_default}
use Rattle.lst_scan.proofs.lists.rows.Goals as goal

pub loop-number-init : goal.loop-number-init
loop-number-init c = (collects_start c.args.store.now c.args.seat.now c.args.s c.new-found.result.items c.consider.ensures c.requires.reader c.requires.free c.new-found.ensures.items, (omega arith), inl c.new-found.ensures.items)

pub returns-else-comes_next-clause-watched : goal.returns-else-comes_next-clause-watched
returns-else-comes_next-clause-watched c = watches_join c.args.seat.now.view c.put_entry.new.seat.view c.rows_by_key.new.seat.view c.args.s (watches_join c.args.seat.now.view c.loop-number.seat.view c.put_entry.new.seat.view c.args.s c.loop-number.invariant.0.scans.watched c.put_entry.ensures.watched) c.rows_by_key.ensures.watched

pub returns-else-comes_next-clause-rows : goal.returns-else-comes_next-clause-rows
returns-else-comes_next-clause-rows c = subst (λ (t : Rows). IfOk c.rows_by_key.result (λ list. list ≡ scan_of t))
    (scan_later c.args.store.now c.args.seat.now.view c.put_entry.new.seat c.args.s (scans_next c.args.store.now c.args.seat.now.view c.loop-number.seat c.put_entry.new.seat c.args.s c.loop-number.invariant.0.scans c.put_entry.ensures.reader c.put_entry.ensures.watched))
    c.rows_by_key.ensures.rows

pub returns-in_err-push-clause-watched : goal.returns-in_err-push-clause-watched
returns-in_err-push-clause-watched c = watches_join c.args.seat.now.view c.loop-number.seat.view c.put_entry.new.seat.view c.args.s c.loop-number.invariant.0.scans.watched c.put_entry.ensures.watched

pub loop-number-preserved : goal.loop-number-preserved
loop-number-preserved c = let invariant = c.loop-number.invariant in
    let low : c.loop-number.number + 1 ≤ 256 * c.args.store.now.layout.limits.ranges = (let t = c.loop-number-test.true in let e = c.loop-number.auto.number-end in let l = ap (λ (y : Layout). y.limits.ranges) c.layout.ensures in omega arith) in
    elim c.match-put_entry.branch [
      | in-Some+then-comes_next+in_ok-push w ↦
          let next = next_last w.in-Some.key c.put_entry.new.row c.loop-number.found.items c.match-put_entry.found.items (comes_below c.loop-number.last w.in-Some.key c.loop-number.found.items invariant.2 (w.comes_next.ensures w.if-comes_next.true)) ((λ i. (w.found-is i).items) ∙ w.in_ok-push.ensures.items) in (
            collects_next c.args.store.now c.args.seat.now.view c.loop-number.seat c.put_entry.new.seat c.args.s c.loop-number.number c.loop-number.found.items c.match-put_entry.found.items invariant.0 c.consider-in-loop-number.ensures
                c.put_entry.ensures.reader c.put_entry.ensures.watched (Some (w.in-Some.key, c.put_entry.new.row)) w.in-Some.ensures.entry next.0,
            low,
            subst (λ (n : ℕ). AreUpTo n c.match-put_entry.found.items) (sym w.last-is) next.1,
          )
      | in_default w ↦ (
        collects_next c.args.store.now c.args.seat.now.view c.loop-number.seat c.put_entry.new.seat c.args.s c.loop-number.number c.loop-number.found.items c.match-put_entry.found.items invariant.0 c.consider-in-loop-number.ensures
            c.put_entry.ensures.reader c.put_entry.ensures.watched None w.in_default.ensures.entry (λ i. (w.found-is i).items),
        low,
        subst (λ (n : ℕ). AreUpTo n c.match-put_entry.found.items) (sym w.last-is) (subst (λ es. AreUpTo c.loop-number.last es) (sym (λ i. (w.found-is i).items)) invariant.2),
      )
    ]

pub returns-clause-rows : goal.returns-clause-rows
returns-clause-rows c = let r = c.requires.reader in let invariant = c.loop-number.invariant in
    let end : c.loop-number.number ≡ record_count c.args.seat.now.view.limits = (let t = c.loop-number-test.false in let e = c.loop-number.auto.number-end in let few = invariant.1 in let l = ap (λ (y : Layout). y.limits.ranges) c.layout.ensures in omega arith) ∙ ap record_count (sym r.seat_of.limits) in
    c.from_items.ensures ∙ collects_whole c.args.store.now c.args.seat.now.view c.loop-number.seat c.args.s c.loop-number.number c.loop-number.found.items end invariant.0
