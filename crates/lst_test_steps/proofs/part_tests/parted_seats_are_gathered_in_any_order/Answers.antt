use Rattle.std.proofs.Common.{◌≡◌, ◌∙◌, length, sym, subst, ap, arith}
use Rattle.std.specs.List.{All}
use Rattle.lst_rule.specs.Stores.{IsSeatOf}
use Rattle.lst_seat.proofs.Gathering.{all_swapped}
use Rattle.lst_test_steps.proofs.part_tests.parted_seats_are_gathered_in_any_order.Goals as goal

pub gather-requires-clause-seats : goal.gather-requires-clause-seats
gather-requires-clause-seats g c = let three : length c.into_vec-items.result.items ≡ 3 = ap length c.into_vec-items.ensures ∙ c.in_ok-store.ensures.count in let P = IsSeatOf c.in_ok-store.store in
    subst (All P) (sym c.from_vec.ensures) (all_swapped P c.into_vec-items.result.items c.swap.new.self.items 0 2 c.swap.ensures.by_index (omega arith) (omega arith) (subst (All P) (sym c.into_vec-items.ensures) c.in_ok-store.ensures.seats))
