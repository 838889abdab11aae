use Rattle.std.proofs.Common.{◌∙◌, sym, subst}
use Rattle.std.specs.List.{All}
use Rattle.lst_rule.specs.Stores.{IsSeatOf}
use Rattle.lst_seat.proofs.Gathering.{all_with, next_of, rest_of}
use Rattle.lst_test_steps.proofs.part_tests.the_least_session_that_is_missing_is_named.Goals as goal

pub gather-requires-clause-seats : goal.gather-requires-clause-seats
gather-requires-clause-seats g c = let store = c.in_ok-store.store in let all = subst (All (IsSeatOf store)) (sym c.into_vec-items.ensures) c.in_ok-store.ensures.seats in
    let two = rest_of store c.into_vec-items.result.items c.pop.new.self.items c.in-Some-Some.last all c.in-Some-Some.ensures.items in
    subst (All (IsSeatOf store)) (sym c.from_vec.ensures) (rest_of store c.pop.new.self.items c.pop-2.new.self.items c.in-Some-Some.second two c.in-Some-Some.ensures'.items)

pub gather-requires-2-clause-seats : goal.gather-requires-2-clause-seats
gather-requires-2-clause-seats g c = let store = c.in_ok-store.store in let all = subst (All (IsSeatOf store)) (sym c.into_vec-items.ensures) c.in_ok-store.ensures.seats in
    let two = rest_of store c.into_vec-items.result.items c.pop.new.self.items c.in-Some-Some.last all c.in-Some-Some.ensures.items in
    let one = rest_of store c.pop.new.self.items c.pop-2.new.self.items c.in-Some-Some.second two c.in-Some-Some.ensures'.items in
    let back = subst (All (IsSeatOf store)) (sym (c.into_vec-items-2.ensures ∙ (c.in-Err.ensures.untouched.0 ∙ c.from_vec.ensures))) one in
    let last = next_of store c.into_vec-items.result.items c.pop.new.self.items c.in-Some-Some.last all c.in-Some-Some.ensures.items in
    let second = next_of store c.pop.new.self.items c.pop-2.new.self.items c.in-Some-Some.second two c.in-Some-Some.ensures'.items in
    let with_last = subst (All (IsSeatOf store)) (sym c.in_ok-push.ensures.items) (all_with (IsSeatOf store) c.into_vec-items-2.result.items c.in-Some-Some.last back last) in
    subst (All (IsSeatOf store)) (sym (c.from_vec-2.ensures ∙ c.in_ok-push-2.ensures.items)) (all_with (IsSeatOf store) c.push.new.self.items c.in-Some-Some.second with_last second)
