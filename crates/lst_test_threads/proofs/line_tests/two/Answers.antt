use Rattle.std.proofs.Common.{sym, subst}
use Rattle.std.specs.List.{All}
use Rattle.lst_seat.proofs.Gathering.{all_first, all_last}
use Rattle.lst_session.specs.Passes.{IsReady}
use Rattle.lst_test_threads.proofs.line_tests.two.Goals as goal

pub returns-clause-second : goal.returns-clause-second
returns-clause-second c = all_last (IsReady c.args.store.now) c.pop.new.self.items c.in-Some-Some.second (subst (All (IsReady c.args.store.now)) c.in-Some-Some.ensures.items (subst (All (IsReady c.args.store.now)) (sym c.into_vec-items.ensures) c.requires))

pub returns-clause-first : goal.returns-clause-first
returns-clause-first c = all_last (IsReady c.args.store.now) c.pop-2.new.self.items c.in-Some-Some.first (subst (All (IsReady c.args.store.now)) c.in-Some-Some.ensures'.items
    (all_first (IsReady c.args.store.now) c.pop.new.self.items c.in-Some-Some.second (subst (All (IsReady c.args.store.now)) c.in-Some-Some.ensures.items (subst (All (IsReady c.args.store.now)) (sym c.into_vec-items.ensures) c.requires))))
