use Rattle.std.proofs.Common.{◌≡◌, true, List, ap, sym, subst, ◌∙◌}
use Rattle.lst_core_state.specs.declared.numbers.Numbers.{Numbers}
use Rattle.lst_rule.specs.declared.view.View.{View}
use Rattle.lst_rule.specs.Joins.{noted}
use Rattle.lst_rule.specs.Rule.{hosts}
use Rattle.lst_rule.specs.Seats.{Tells}
use Rattle.lst_rule.proofs.Seating.{has_words, noted_tells}
use Rattle.lst_rule.proofs.splits.note_of.Goals as goal

pub note_seat-place-requires-clause-table : goal.note_seat-place-requires-clause-table
note_seat-place-requires-clause-table c = (ap (λ z. z.table) c.seat.view_is ∙ c.requires.seat.table, has_words c.args.store.now)

pub invariant_of-result : goal.invariant_of-result
invariant_of-result c = let v : View = c.seat.inside.place.me.0 in let on : hosts v c.args.s ≡ true = subst (λ (u : View). hosts u c.args.s ≡ true) (sym (ap (λ z. z.view) c.seat.view_is)) c.requires.host in
    let now : c.note_seat-place.result.me.0 ≡ noted c.args.s v = ap (λ m. m.0) c.note_seat-place.ensures.new.1 in (
      ap (λ m. m.1) c.note_seat-place.ensures.new.1,
      c.seat.invariant.1 ∙ sym (ap (λ (u : View). u.limits) now),
      c.new-hosted.ensures.items ∙ sym (ap (λ (u : View). u.hosts) now),
      subst (λ (u : View). Tells u c.new-numbers.result.items) (sym now) (subst (λ (ns : List Numbers). Tells (noted c.args.s v) ns) (sym c.new-numbers.ensures.items) (noted_tells v c.args.s on c.seat.invariant.3.possible)),
    )
