use Rattle.std.proofs.Common.{◌≡◌, true, List, ap, sym, subst, ◌∙◌}
use Rattle.lst_core_state.specs.declared.numbers.Numbers.{Numbers}
use Rattle.lst_rule.specs.declared.view.View.{View}
use Rattle.lst_rule.specs.Joins.{united, united_lists}
use Rattle.lst_rule.specs.Learned.{Possible}
use Rattle.lst_rule.specs.Rule.{hosts}
use Rattle.lst_rule.specs.Seats.{Tells}
use Rattle.lst_rule.proofs.Seating.{has_words, possible_seat, possible_apart, united_tells}
use Rattle.lst_rule.proofs.joins.join_seat.Goals as goal

pub unite_seats-requires-clause-table : goal.unite_seats-requires-clause-table
unite_seats-requires-clause-table c = (ap (λ z. z.table) c.seat.view_is ∙ c.requires.seat.table, ap (λ z. z.table) c.other.view_is ∙ c.requires.other.table, has_words c.args.store.now, c.other.invariant.0)

pub confirm-requires : goal.confirm-requires
confirm-requires c = record { table = (c.unite_seats.ensures.0 ∙ (ap (λ z. z.table) c.seat.view_is ∙ c.requires.seat.table), has_words c.args.store.now) }

pub invariant_of-seat : goal.invariant_of-seat
invariant_of-seat c = let v : View = c.seat.inside.place.me.0 in let n : View = c.other.inside.place.me.0 in let w : View = c.confirm.new.seat.me.0 in
    let both = c.confirm.ensures.table.2 ∙ c.unite_seats.ensures.2 in let now : w ≡ united v n = ap (λ m. m.0) both in let possible : Possible (united v n) = subst Possible now c.confirm.ensures.possible in
    let limits : v.limits ≡ n.limits = ap (λ z. z.view.limits) c.seat.view_is ∙ (c.requires.seat.limits ∙ sym (ap (λ z. z.view.limits) c.other.view_is ∙ c.requires.other.limits)) in
    let merger : hosts v v.limits.sessions ≡ true = subst (λ (u : View). hosts u u.limits.sessions ≡ true) (sym (ap (λ z. z.view) c.seat.view_is)) c.requires.merger in
    let hosted : c.as_slice-others.result.now ≡ n.hosts = c.as_slice-others.ensures.value ∙ c.other.invariant.2 in (
      ap (λ m. m.1) both ∙ c.seat.invariant.0,
      c.seat.invariant.1 ∙ sym (ap (λ (u : View). u.limits) now),
      c.unite_hosts.ensures ∙ ((λ i. united_lists (hosted i) (c.seat.invariant.2 i) (hosted i)) ∙ sym (ap (λ (u : View). u.hosts) now)),
      subst (λ (ns : List Numbers). Tells w ns) (sym (c.unite_numbers.ensures ∙ (λ i. united_lists (hosted i) c.seat.inside.numbers.items (c.as_slice-theirs.ensures.value i))))
          (subst (λ (u : View). Tells u (united_lists n.hosts c.seat.inside.numbers.items c.other.inside.numbers.items)) (sym now) (united_tells v n c.seat.inside.numbers.items c.other.inside.numbers.items c.seat.invariant.3 c.other.invariant.3 limits merger possible)),
    )

pub returns-clause-seat : goal.returns-clause-seat
returns-clause-seat c = possible_seat c.args.store.now _ (c.confirm.ensures.table.0 ∙ (c.unite_seats.ensures.0 ∙ (ap (λ z. z.table) c.seat.view_is ∙ c.requires.seat.table)))
    (ap (λ m. m.0.limits) (c.confirm.ensures.table.2 ∙ c.unite_seats.ensures.2) ∙ (ap (λ z. z.view.limits) c.seat.view_is ∙ c.requires.seat.limits)) c.confirm.ensures.possible

pub returns-clause-united : goal.returns-clause-united
returns-clause-united c = ap (λ m. m.0) (c.confirm.ensures.table.2 ∙ c.unite_seats.ensures.2) ∙ (λ i. united (c.seat.view_is i).view (c.other.view_is i).view)

pub returns-clause-apart : goal.returns-clause-apart
returns-clause-apart c = possible_apart c.args.seat.now.view c.args.other.view (subst Possible (ap (λ m. m.0) (c.confirm.ensures.table.2 ∙ c.unite_seats.ensures.2) ∙ (λ i. united (c.seat.view_is i).view (c.other.view_is i).view)) c.confirm.ensures.possible)
