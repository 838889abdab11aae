use Rattle.std.proofs.Common.{sym, subst}
use Rattle.std.specs.List.{All}
use Rattle.lst_rule.specs.Stores.{IsSeatOf}
use Rattle.lst_seat.proofs.Gathering.{next_of, rest_of}
use Rattle.lst_test_steps.proofs.part_tests.a_note_is_told_and_heard.Goals as goal

pub tell-note-requires-clause-seat : goal.tell-note-requires-clause-seat
tell-note-requires-clause-seat g c = let all = subst (All (IsSeatOf c.in_ok-store.store)) (sym c.into_vec-items.ensures) c.in_ok-store.ensures.seats in
    next_of c.in_ok-store.store c.pop.new.self.items c.pop-2.new.self.items c.in-Some-Some.second (rest_of c.in_ok-store.store c.into_vec-items.result.items c.pop.new.self.items c.in-Some-Some.last all c.in-Some-Some.ensures.items) c.in-Some-Some.ensures'.items

pub hear-requires-clause-seat : goal.hear-requires-clause-seat
hear-requires-clause-seat g c = let all = subst (All (IsSeatOf c.in_ok-store.store)) (sym c.into_vec-items.ensures) c.in_ok-store.ensures.seats in
    next_of c.in_ok-store.store c.into_vec-items.result.items c.pop.new.self.items c.in-Some-Some.last all c.in-Some-Some.ensures.items
