use Rattle.std.proofs.Common.{sym, subst}
use Rattle.std.specs.List.{All}
use Rattle.lst_seat.proofs.Gathering.{all_first, all_last}
use Rattle.lst_session.specs.Passes.{IsReady}
use Rattle.lst_test_calls.proofs.serials.three.Goals as goal

pub returns-clause-third : goal.returns-clause-third
returns-clause-third c = let P = IsReady c.args.store.now in
    let all = subst (All P) (sym c.into_vec-items.ensures) c.requires in
    all_last P c.pop.new.self.items c.in-Some-Some-Some.third (subst (All P) c.in-Some-Some-Some.ensures.items all)

pub returns-clause-second : goal.returns-clause-second
returns-clause-second c = let P = IsReady c.args.store.now in
    let all = subst (All P) (sym c.into_vec-items.ensures) c.requires in
    let two = all_first P c.pop.new.self.items c.in-Some-Some-Some.third (subst (All P) c.in-Some-Some-Some.ensures.items all) in
    all_last P c.pop-2.new.self.items c.in-Some-Some-Some.second (subst (All P) c.in-Some-Some-Some.ensures'.items two)

pub returns-clause-first : goal.returns-clause-first
returns-clause-first c = let P = IsReady c.args.store.now in
    let all = subst (All P) (sym c.into_vec-items.ensures) c.requires in
    let two = all_first P c.pop.new.self.items c.in-Some-Some-Some.third (subst (All P) c.in-Some-Some-Some.ensures.items all) in
    let one = all_first P c.pop-2.new.self.items c.in-Some-Some-Some.second (subst (All P) c.in-Some-Some-Some.ensures'.items two) in
    all_last P c.pop-3.new.self.items c.in-Some-Some-Some.first (subst (All P) c.in-Some-Some-Some.ensures''.items one)
