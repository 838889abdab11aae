use Rattle.std.proofs.Common.{◌≡◌, get_or, ◌∙◌, arith}
use Rattle.std.specs.Prelude.{Some, None, slice_index_or}
use Rattle.std.proofs.lemmas.List.{get_or_default}
use Rattle.lst_rule.specs.declared.records.RecordId.{RecordId}
use Rattle.lst_rule.proofs.Watching.{watches_join}
use Rattle.lst_scan.proofs.Finding.{finds_start, finds_next, finds_done}
use Rattle.lst_scan.proofs.finds.entries_with.Goals.{in-Some+in_ok-insert, in_default}
use Rattle.lst_scan.proofs.finds.entries_with.Goals as goal

pub loop-rec-init : goal.loop-rec-init
loop-rec-init c = finds_start c.args.store.now c.args.seat.now c.args.s c.args.column c.args.number c.args.records.now c.new-found.result.entries c.consider.ensures c.requires.reader c.requires.free c.new-found.ensures.empty

pub returns-in_err-insert-clause-watched : goal.returns-in_err-insert-clause-watched
returns-in_err-insert-clause-watched c = watches_join c.args.seat.now.view c.loop-rec.seat.view c.entry_with.new.seat.view c.args.s c.loop-rec.invariant.scans.watched c.entry_with.ensures.watched

pub loop-rec-preserved : goal.loop-rec-preserved
loop-rec-preserved c = let item : RecordId = get_or c.args.records.now c.loop-rec.rec-index record { number = 0 } in
    let here : (other : RecordId) → slice_index_or c.args.records.now c.loop-rec.rec-index other ≡ item = λ other. get_or_default c.args.records.now c.loop-rec.rec-index other record { number = 0 } c.loop-rec-test.true in
    let next = finds_next c.args.store.now c.args.seat.now.view c.loop-rec.seat c.entry_with.new.seat c.args.s c.args.column c.args.number c.args.records.now c.loop-rec.rec-index c.loop-rec.found.entries c.match-entry_with.found.entries
    c.loop-rec.invariant c.consider-in-loop-rec.ensures c.entry_with.ensures.reader c.entry_with.ensures.watched item here in
    elim c.match-entry_with.branch [
      | in-Some+in_ok-insert w ↦ next (Some (w.in-Some.key, w.in-Some.row)) w.in-Some.ensures.entry ((λ i. (w.found-is i).entries) ∙ w.in_ok-insert.ensures.entries)
      | in_default w ↦ next None w.in_default.ensures.entry (λ i. (w.found-is i).entries)
    ]

pub returns-clause-keys : goal.returns-clause-keys
returns-clause-keys c = finds_done c.args.store.now c.args.seat.now.view c.loop-rec.seat c.args.s c.args.column c.args.number c.args.records.now c.loop-rec.rec-index c.loop-rec.found.entries c.loop-rec.invariant
    (let t = c.loop-rec-test.false in omega arith) c.requires.candidates
