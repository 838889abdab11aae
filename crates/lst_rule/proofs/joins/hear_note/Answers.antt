use Rattle.std.proofs.Common.{◌≡◌, [], List, map, ap, sym, subst, ◌∙◌, length}
use Rattle.lst_core_state.specs.declared.numbers.Numbers.{Numbers}
use Rattle.lst_rule.specs.declared.view.View.{View}
use Rattle.lst_rule.specs.Joins.{united, hears_numbers, Heard}
use Rattle.lst_rule.specs.Learned.{Possible}
use Rattle.lst_rule.specs.Seats.{Tells}
use Rattle.lst_rule.proofs.Seating.{has_words, possible_seat, noted_hosts, joined_tells, hearing_tells}
use Rattle.lst_rule.proofs.joins.hear_note.Goals as goal

pub unite_seats-requires-clause-table : goal.unite_seats-requires-clause-table
unite_seats-requires-clause-table c = (ap (λ z. z.table) c.seat.view_is ∙ c.requires.seat.table, ap (λ z. z.table) c.note.view_is ∙ c.requires.note.table, has_words c.args.store.now, c.note.invariant.0)

pub hear_told-requires : goal.hear_told-requires
hear_told-requires c = record { table = (c.unite_seats.ensures.0 ∙ (ap (λ z. z.table) c.seat.view_is ∙ c.requires.seat.table), has_words c.args.store.now) }

pub invariant_of-seat : goal.invariant_of-seat
invariant_of-seat c = let v : View = c.seat.inside.place.me.0 in let n : View = c.note.inside.place.me.0 in let w : View = c.hear_told.new.seat.me.0 in
    let heard : Heard (united v n) w = subst (λ (u : View). Heard u w) (ap (λ m. m.0) c.unite_seats.ensures.2) c.hear_told.ensures.heard in
    let bare : n.hosts ≡ [] = subst (λ (u : View). u.hosts ≡ []) (sym (ap (λ z. z.view) c.note.view_is)) c.requires.bare in
    let time : c.note.inside.note_time ≡ length n.note = ap (λ z. z.note_time) c.note.view_is ∙ (c.requires.time ∙ sym (ap (λ z. length z.view.note) c.note.view_is)) in (
      c.hear_told.ensures.table.2 ∙ (ap (λ m. m.1) c.unite_seats.ensures.2 ∙ c.seat.invariant.0),
      c.seat.invariant.1 ∙ sym (ap (λ (u : View). u.limits) heard.now),
      c.seat.invariant.2 ∙ sym (ap (λ (u : View). u.hosts) heard.now ∙ noted_hosts v n bare),
      subst (λ (ns : List Numbers). Tells w ns) (sym c.lengthen.ensures) (subst (λ (u : View). Tells u (map (hears_numbers c.note.inside.note_time) c.seat.inside.numbers.items)) (sym heard.now)
          (hearing_tells (united v n) c.seat.inside.numbers.items c.note.inside.note_time (joined_tells v n c.seat.inside.numbers.items c.seat.invariant.3 bare heard.before) time (subst Possible heard.now heard.after))),
    )

pub returns-clause-seat : goal.returns-clause-seat
returns-clause-seat c = possible_seat c.args.store.now _ (c.hear_told.ensures.table.0 ∙ (c.unite_seats.ensures.0 ∙ (ap (λ z. z.table) c.seat.view_is ∙ c.requires.seat.table)))
    (ap (λ (u : View). u.limits) c.hear_told.ensures.heard.now ∙ (ap (λ m. m.0.limits) c.unite_seats.ensures.2 ∙ (ap (λ z. z.view.limits) c.seat.view_is ∙ c.requires.seat.limits))) c.hear_told.ensures.heard.after

pub returns-clause-heard : goal.returns-clause-heard
returns-clause-heard c = subst (λ (u : View). Heard u c.hear_told.new.seat.me.0) (ap (λ m. m.0) c.unite_seats.ensures.2 ∙ (λ i. united (c.seat.view_is i).view (c.note.view_is i).view)) c.hear_told.ensures.heard
