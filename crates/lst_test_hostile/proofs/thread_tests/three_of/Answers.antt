use Rattle.std.proofs.Common.{sym, subst}
use Rattle.std.specs.List.{All}
use Rattle.lst_session.specs.Passes.{IsReady}
use Rattle.lst_session.proofs.Parting.{last_of, second_last_of, third_last_of}
use Rattle.lst_test_hostile.proofs.thread_tests.three_of.Goals as goal

pub returns-clause-first : goal.returns-clause-first
returns-clause-first c = third_last_of (IsReady c.args.store.now) c.into_vec-items.result.items c.pop.new.self.items c.pop-2.new.self.items c.pop-3.new.self.items c.in-Some-Some-Some.third c.in-Some-Some-Some.second c.in-Some-Some-Some.first
    (subst (All (IsReady c.args.store.now)) (sym c.into_vec-items.ensures) c.requires) c.in-Some-Some-Some.ensures.items c.in-Some-Some-Some.ensures'.items c.in-Some-Some-Some.ensures''.items

pub returns-clause-second : goal.returns-clause-second
returns-clause-second c = second_last_of (IsReady c.args.store.now) c.into_vec-items.result.items c.pop.new.self.items c.pop-2.new.self.items c.pop-3.new.self.items c.in-Some-Some-Some.third c.in-Some-Some-Some.second c.in-Some-Some-Some.first
    (subst (All (IsReady c.args.store.now)) (sym c.into_vec-items.ensures) c.requires) c.in-Some-Some-Some.ensures.items c.in-Some-Some-Some.ensures'.items c.in-Some-Some-Some.ensures''.items

pub returns-clause-third : goal.returns-clause-third
returns-clause-third c = last_of (IsReady c.args.store.now) c.into_vec-items.result.items c.pop.new.self.items c.pop-2.new.self.items c.pop-3.new.self.items c.in-Some-Some-Some.third c.in-Some-Some-Some.second c.in-Some-Some-Some.first
    (subst (All (IsReady c.args.store.now)) (sym c.into_vec-items.ensures) c.requires) c.in-Some-Some-Some.ensures.items c.in-Some-Some-Some.ensures'.items c.in-Some-Some-Some.ensures''.items
