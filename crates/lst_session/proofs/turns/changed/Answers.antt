use Rattle.std.proofs.Common.{subst, sym, ◌∙◌}
use Rattle.std.specs.Prelude.{ℕ}
use Rattle.lst_rule.specs.Rule.{knows}
use Rattle.lst_changes.specs.Changes.{Changed}
use Rattle.lst_changes.proofs.Holding.{same}
use Rattle.lst_session.proofs.Taking.{found_holds, asked_none, unchanged_none}
use Rattle.lst_session.proofs.turns.changed.Goals as goal

pub returns-in-None-clause-holder : goal.returns-in-None-clause-holder
returns-in-None-clause-holder c = found_holds _ _ _ _ c.requires.holder c.find.ensures.seat c.find.ensures.works

pub returns-in-None-clause-asks : goal.returns-in-None-clause-asks
returns-in-None-clause-asks c = asked_none _ _ _ c.find.ensures.works c.find.ensures.kept c.find.ensures.keeps

pub returns-in-None-clause-changed : goal.returns-in-None-clause-changed
returns-in-None-clause-changed c = unchanged_none (knows c.find.new.seat.view c.args.s).seen c.args.key (knows c.find.new.seat.view c.args.s).begin c.in-None.ensures.unseen.commits

pub returns-in-Some-clause-changed : goal.returns-in-Some-clause-changed
returns-in-Some-clause-changed c =
    subst (λ (b : ℕ). Changed (knows c.last_commit-last.new.seat.view c.args.s).seen b c.args.key c.above.result)
    (c.begin-begin.ensures ∙ sym (same c.find.new.seat.view c.last_commit-last.new.seat.view c.args.s c.last_commit-last.ensures.steady.watched).begin)
    (c.above.ensures (knows c.last_commit-last.new.seat.view c.args.s).seen c.args.key (c.last_commit-last.ensures.last c.args.key c.in-Some.ensures.some.1))
