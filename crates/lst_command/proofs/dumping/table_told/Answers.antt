use Rattle.std.proofs.Common.{sym, ap, ◌∙◌}
use Rattle.std.proofs.lemmas.Result.{IfOk-weaker}
use Rattle.lst_machine.specs.State.{State}
use Rattle.lst_csv.specs.Writing.{history_text}
use Rattle.lst_command.proofs.dumping.table_told.Goals as goal

pub returns-clause-limits : goal.returns-clause-limits
returns-clause-limits c = c.history.ensures.crew.seat_of.limits ∙ sym c.requires.crew.seat_of.limits

pub returns-clause-told : goal.returns-clause-told
returns-clause-told c = c.history.ensures.told c.requires.tells.whole

pub returns-clause-text : goal.returns-clause-text
returns-clause-text c = IfOk-weaker c.dump_history.result _ _ (λ text is.
    is ∙ ap (history_text c.args.names.now) (c.in_ok-history.ensures.ok ∙ ap (λ (s : State). s.store.history) (c.history.ensures.told c.requires.tells.whole)))
    c.dump_history.ensures
