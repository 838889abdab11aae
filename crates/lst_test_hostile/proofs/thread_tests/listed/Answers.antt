use Rattle.std.proofs.Common.{◌∙◌, sym, subst}
use Rattle.std.specs.List.{All}
use Rattle.lst_seat.proofs.Gathering.{all_none, all_with}
use Rattle.lst_session.specs.Passes.{IsReady}
use Rattle.lst_test_hostile.proofs.thread_tests.listed.Goals as goal

pub returns : goal.returns
returns c = let none = subst (All (IsReady c.args.store.now)) (sym c.new-items.ensures.items) (all_none (IsReady c.args.store.now)) in
    let one = subst (All (IsReady c.args.store.now)) (sym c.in_ok-push.ensures.items) (all_with (IsReady c.args.store.now) c.new-items.result.items c.args.first none c.requires.first) in
    let two = subst (All (IsReady c.args.store.now)) (sym c.in_ok-push-2.ensures.items) (all_with (IsReady c.args.store.now) c.push.new.self.items c.args.second one c.requires.second) in
    subst (All (IsReady c.args.store.now)) (sym (c.from_vec.ensures ∙ c.in_ok-push-3.ensures.items)) (all_with (IsReady c.args.store.now) c.push-2.new.self.items c.args.third two c.requires.third)
