use Rattle.std.proofs.Common.{sym, ap, ◌∙◌, eqb-true, eq-eqb, true≢false}
use Rattle.lst_layout.specs.declared.layout.Layout.{Layout}
use Rattle.lst_core_state.specs.Cells.{record_of}
use Rattle.lst_second.proofs.Entries.{value_posts, value_next, both_posts, both_shown, both_next}
use Rattle.lst_second.proofs.visits.compare.Goals as goal

pub returns-then-load_cell-entry-clause-posts : goal.returns-then-load_cell-entry-clause-posts
returns-then-load_cell-entry-clause-posts c = value_posts _ _ c.load_cell.new.seat _ c.args.entry _ _ _ c.requires.visits c.requires.stands c.load_cell.ensures.looked

pub returns-then-load_cell-entry-clause-next : goal.returns-then-load_cell-entry-clause-next
returns-then-load_cell-entry-clause-next c _ = value_next _ _ c.load_cell.new.seat _ c.args.entry _ _ _ c.requires.visits c.requires.stands c.load_cell.ensures.looked c.if-load_cell-entry.true c.load_cell.ensures.seat

pub returns-clause-posts : goal.returns-clause-posts
returns-clause-posts c = both_posts _ _ c.load_cell.new.seat _ c.args.entry _ _ _ c.requires.visits c.requires.stands c.load_cell.ensures.looked c.if-load_cell-entry.false c.load_cell-encoding.new.seat _ c.record_of.result c.load_cell-encoding.ensures.looked
    (c.record_of.ensures ∙ ap (λ (y : Layout). record_of y.limits.tails c.args.tail c.load_cell-encoding.result) c.layout.ensures)

pub returns-clause-shown : goal.returns-clause-shown
returns-clause-shown c is = both_shown _ _ c.load_cell.new.seat _ c.args.entry _ _ _ c.requires.visits c.requires.stands c.load_cell.ensures.looked c.if-load_cell-entry.false c.load_cell-encoding.new.seat _ c.record_of.result c.load_cell-encoding.ensures.looked
    (c.record_of.ensures ∙ ap (λ (y : Layout). record_of y.limits.tails c.args.tail c.load_cell-encoding.result) c.layout.ensures) c.requires.offset (eqb-true c.record_of.result c.args.entry.rec is)

pub returns-clause-next : goal.returns-clause-next
returns-clause-next c is = both_next _ _ c.load_cell.new.seat _ c.args.entry _ _ _ c.requires.visits c.requires.stands c.load_cell.ensures.looked c.if-load_cell-entry.false c.load_cell-encoding.new.seat _ c.record_of.result c.load_cell-encoding.ensures.looked
    (c.record_of.ensures ∙ ap (λ (y : Layout). record_of y.limits.tails c.args.tail c.load_cell-encoding.result) c.layout.ensures) (λ e. true≢false (sym (eq-eqb c.record_of.result c.args.entry.rec e) ∙ is)) c.load_cell-encoding.ensures.seat
