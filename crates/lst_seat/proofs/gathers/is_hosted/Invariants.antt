use Rattle.std.proofs.Common.{◌≡◌, false, take}
use Rattle.std.specs.List.{list_any}
use Rattle.lst_rule.specs.Rule.{hosts}
use Rattle.lst_rule.specs.Seats.{Sitting}
use Rattle.lst_seat.proofs.gathers.is_hosted.Given as goal

abbrev pub invariant-loop-seat : goal.invariant-loop-seat
invariant-loop-seat l = list_any (λ (seat : Sitting). hosts seat.view l.s) (take l.seat-index l.seats) ≡ false
