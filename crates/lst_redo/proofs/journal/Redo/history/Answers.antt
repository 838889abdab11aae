use Rattle.std.proofs.Common.{List, sym, ◌∙◌, subst}
use Rattle.lst_model.specs.declared.commits.Commit.{Commit}
use Rattle.lst_replay_laws.specs.Counts.{SameCommits}
use Rattle.lst_redo.proofs.Looking.{history_stays, journal_stays, on_ok}
use Rattle.lst_redo.proofs.journal.Redo.history.Goals as goal

pub returns-clause-told : goal.returns-clause-told
returns-clause-told g c =
    on_ok c.history.result c.history.ensures.ok (λ all is. is ∙ history_stays g.D.Disk.content g.D.Disk.images c.args.self.now c.history.new.self c.history.ensures.told c.requires.tells.whole)

pub returns-clause-same : goal.returns-clause-same
returns-clause-same g c = λ commits journal.
    on_ok c.history.result c.history.ensures.ok (λ all is. subst (λ (h : List Commit). SameCommits h commits)
    (sym (is ∙ history_stays g.D.Disk.content g.D.Disk.images c.args.self.now c.history.new.self c.history.ensures.told journal.tells.whole)) journal.same)

pub returns-clause-journal : goal.returns-clause-journal
returns-clause-journal g c = journal_stays g.D.Disk.content g.D.Disk.images c.args.self.now c.history.new.self c.history.ensures.told c.history.ensures.crew c.history.ensures.tells c.history.ensures.session

pub returns-clause-state : goal.returns-clause-state
returns-clause-state g c = λ tells. (c.history.ensures.tells tells, c.history.ensures.told tells.whole)
