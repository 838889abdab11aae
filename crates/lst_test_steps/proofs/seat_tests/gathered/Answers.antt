use Rattle.std.proofs.Common.{sym, subst, ◌∙◌}
use Rattle.std.specs.List.{All}
use Rattle.lst_rule.specs.Stores.{IsSeatOf}
use Rattle.lst_seat.proofs.Gathering.{all_none, all_with}
use Rattle.lst_test_steps.proofs.seat_tests.gathered.Goals as goal

pub gather-requires-clause-seats : goal.gather-requires-clause-seats
gather-requires-clause-seats c = let P = IsSeatOf c.args.store.now in let none = subst (All P) (sym c.new-items.ensures.items) (all_none P) in
    let one = subst (All P) (sym c.in_ok-push.ensures.items) (all_with P c.new-items.result.items c.args.second none c.requires.second) in
    subst (All P) (sym (c.from_vec.ensures ∙ c.in_ok-push-2.ensures.items)) (all_with P c.push.new.self.items c.args.first one c.requires.first)
