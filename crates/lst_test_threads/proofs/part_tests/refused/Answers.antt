use Rattle.std.proofs.Common.{◌∙◌, sym, subst}
use Rattle.std.specs.List.{All}
use Rattle.lst_seat.proofs.Gathering.{all_none, all_with}
use Rattle.lst_session.specs.Parting.{IsPass}
use Rattle.lst_session.proofs.Parting.{pass_ready}
use Rattle.lst_test_threads.proofs.part_tests.refused.Goals as goal

pub gather-requires-clause-sessions : goal.gather-requires-clause-sessions
gather-requires-clause-sessions g c = let none = subst (All (IsPass c.args.store.now)) (sym c.new-items.ensures.items) (all_none (IsPass c.args.store.now)) in
    subst (All (IsPass c.args.store.now)) (sym (c.from_vec.ensures ∙ c.in_ok-push.ensures.items)) (all_with (IsPass c.args.store.now) c.new-items.result.items c.args.session none (pass_ready c.args.store.now c.args.session c.requires.session))
