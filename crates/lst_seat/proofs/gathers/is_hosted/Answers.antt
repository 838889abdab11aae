use Rattle.std.proofs.Common.{◌≡◌, ◌≤◌, List, Bool, true, false, ◌||◌, take, get_or, refl, sym, subst, ap, ◌∙◌}
use Rattle.std.proofs.lemmas.Bool.{or_from, or_right}
use Rattle.std.proofs.lemmas.List.{take_all}
use Rattle.std.proofs.lemmas.List.Folds.{list_any_at, list_any_more}
use Rattle.std.specs.List.{list_any}
use Rattle.lst_layout.specs.declared.limits.Limits.{Limits}
use Rattle.lst_rule.specs.Rule.{hosts}
use Rattle.lst_rule.specs.Seats.{Sitting}
use Rattle.lst_seat.proofs.gathers.is_hosted.Goals as goal

or_none : (a b : Bool) → b ≡ false → a ≡ (a || b)
or_none true b none = refl
or_none false b none = sym none

pub hosts-requires : goal.hosts-requires
hosts-requires c = subst (λ (l : Limits). c.args.s ≤ l.sessions) (sym (ap (λ (seat : Sitting). seat.view.limits) c.seat-item.is ∙ c.requires.limits c.loop-seat.seat-index c.seat-item.result c.loop-seat-test.true)) c.requires.low

pub returns-then-hosts : goal.returns-then-hosts
returns-then-hosts c = sym (or_right (hosts c.args.merger.now.view c.args.s) (list_any (λ (seat : Sitting). hosts seat.view c.args.s) c.args.seats.now)
    (list_any_at (λ (seat : Sitting). hosts seat.view c.args.s) c.args.seats.now c.loop-seat.seat-index c.seat-item.result c.loop-seat-test.true
    (ap (λ (seat : Sitting). hosts seat.view c.args.s) (sym c.seat-item.is) ∙ (sym c.hosts.ensures ∙ c.if-hosts.true))))

pub loop-seat-preserved : goal.loop-seat-preserved
loop-seat-preserved c = list_any_more (λ (seat : Sitting). hosts seat.view c.args.s) c.args.seats.now c.loop-seat.seat-index c.seat-item.result c.loop-seat-test.true
    ∙ or_from (list_any (λ (seat : Sitting). hosts seat.view c.args.s) (take c.loop-seat.seat-index c.args.seats.now)) (hosts (get_or c.args.seats.now c.loop-seat.seat-index c.seat-item.result).view c.args.s) c.loop-seat.invariant
    (ap (λ (seat : Sitting). hosts seat.view c.args.s) (sym c.seat-item.is) ∙ (sym c.hosts.ensures ∙ c.if-hosts.false))

pub hosts-requires-2 : goal.hosts-requires-2
hosts-requires-2 c = c.requires.low

pub returns : goal.returns
returns c = c.hosts-2.ensures ∙ or_none (hosts c.args.merger.now.view c.args.s) (list_any (λ (seat : Sitting). hosts seat.view c.args.s) c.args.seats.now)
    (subst (λ (seats : List Sitting). list_any (λ (seat : Sitting). hosts seat.view c.args.s) seats ≡ false) (take_all c.loop-seat.seat-index c.args.seats.now c.loop-seat-test.false) c.loop-seat.invariant)
