use Rattle.std.proofs.Common.{◌≡◌, ℕ, Bool, true, false, List, slice_index_or, sym, subst, ap, ◌∙◌}
use Rattle.lst_rule.specs.Rule.{hosts}
use Rattle.lst_test_steps.proofs.Idling.{pair_commits}
use Rattle.lst_test_steps.proofs.read_tests.commit.Goals as goal

pub commit-requires-clause-host : goal.commit-requires-clause-host
commit-requires-clause-host c =
    subst (λ (n : ℕ). hosts c.take_turn.new.seat.view n ≡ true) (sym c.in-Ok.ensures.ok.0)
    (ap (λ (bs : List Bool). slice_index_or bs c.args.s false) c.in-Ok.ensures.hosted ∙ c.requires.pair.hosted c.args.s c.requires.session)

pub returns-in-Ok : goal.returns-in-Ok
returns-in-Ok c = pair_commits c.args.store.now c.args.seat.now c.args.s c.requires.pair c.requires.session c.take_turn.new.seat.view c.commit.new.seat c.in-Ok.turn.session _ c.commit.ensures.seat c.in-Ok.ensures.ok.0 c.in-Ok.ensures.ok.1 c.commit.ensures.commits
