use Rattle.std.proofs.Common.{◌≡◌, length, true, false, set, ap, sym, subst, ◌∙◌}
use Rattle.lst_rule.specs.declared.view.View.{View}
use Rattle.lst_rule.specs.Joins.{without, alone, Serves}
use Rattle.lst_rule.specs.Rule.{hosts}
use Rattle.lst_rule.specs.Seats.{Tells}
use Rattle.lst_rule.proofs.Parting.{without_part}
use Rattle.lst_rule.proofs.Seating.{has_words, tells_part, alone_tells}
use Rattle.lst_rule.proofs.splits.split_off.Goals as goal

pub split_seat-place-requires-clause-table : goal.split_seat-place-requires-clause-table
split_seat-place-requires-clause-table c = (ap (λ z. z.table) c.seat.view_is ∙ c.requires.seat.table, has_words c.args.store.now)

pub invariant_of-seat : goal.invariant_of-seat
invariant_of-seat c = let v : View = c.seat.inside.place.me.0 in let on : hosts v c.args.s ≡ true = subst (λ (u : View). hosts u c.args.s ≡ true) (sym (ap (λ z. z.view) c.seat.view_is)) c.requires.host in
    let now : c.split_seat-place.new.seat.me.0 ≡ without c.args.s v = ap (λ m. m.0) c.split_seat-place.ensures.old.2 in (
      ap (λ m. m.1) c.split_seat-place.ensures.old.2 ∙ c.seat.invariant.0,
      c.seat.invariant.1 ∙ sym (ap (λ (u : View). u.limits) now),
      ap (λ bs. set bs c.args.s false) c.seat.invariant.2 ∙ sym (ap (λ (u : View). u.hosts) now),
      subst (λ (u : View). Tells u c.seat.inside.numbers.items) (sym now) (tells_part v (without c.args.s v) c.seat.inside.numbers.items (without_part v c.args.s on) c.seat.invariant.3),
    )

pub invariant_of-result : goal.invariant_of-result
invariant_of-result c = let v : View = c.seat.inside.place.me.0 in let back = sym (ap (λ z. z.view) c.seat.view_is) in let on : hosts v c.args.s ≡ true = subst (λ (u : View). hosts u c.args.s ≡ true) back c.requires.host in
    let serves : Serves c.args.room v c.args.s = subst (λ (u : View). Serves c.args.room u c.args.s) back c.requires.room in
    let now : c.split_seat-place.result.me.0 ≡ alone c.args.s v = ap (λ m. m.0) c.split_seat-place.ensures.new.1 in (
      ap (λ m. m.1) c.split_seat-place.ensures.new.1,
      c.seat.invariant.1 ∙ sym (ap (λ (u : View). u.limits) now),
      serves.hosted ∙ sym (ap (λ (u : View). u.hosts) now),
      subst (λ (u : View). Tells u c.args.room.numbers.items) (sym now) (alone_tells v c.args.s c.args.room.numbers.items on c.seat.invariant.3.possible serves.wide serves.is),
    )

pub returns-clause-old : goal.returns-clause-old
returns-clause-old c = let v : View = c.seat.inside.place.me.0 in let on : hosts v c.args.s ≡ true = subst (λ (u : View). hosts u c.args.s ≡ true) (sym (ap (λ z. z.view) c.seat.view_is)) c.requires.host in
    let now : c.split_seat-place.new.seat.me.0 ≡ without c.args.s v = ap (λ m. m.0) c.split_seat-place.ensures.old.2 in
    let seen : v ≡ c.args.seat.now.view = ap (λ z. z.view) c.seat.view_is in record {
      table = c.split_seat-place.ensures.old.0 ∙ (ap (λ z. z.table) c.seat.view_is ∙ c.requires.seat.table);
      limits = ap (λ (u : View). u.limits) now ∙ (ap (λ (u : View). u.limits) seen ∙ c.requires.seat.limits);
      sized = ap (λ (u : View). length u.known) now ∙ (ap (λ (u : View). length u.known) seen ∙ c.requires.seat.sized);
      low = λ t here. c.requires.seat.low t (subst (λ (u : View). hosts u t ≡ true) seen ((without_part v c.args.s on).hosted t (subst (λ (u : View). hosts u t ≡ true) now here)));
    }
