use Rattle.std.proofs.Common.{rules}
use Rattle.std.proofs.Common.{◌∙◌, ap, sym}
use Rattle.lst_layout.specs.declared.layout.Layout.{Layout}
use Rattle.lst_replay_laws.proofs.Steps.{opening_rests}
use Rattle.lst_redo.proofs.Running.{none_ran}
use Rattle.lst_redo.proofs.recovery.recover.Goals as goal

pub run_all-requires-clause-new : goal.run_all-requires-clause-new
run_all-requires-clause-new c =
    none_ran opening_rests c.in-Ok.store c.in-Ok.store.layout.limits c.in-Ok.crew c.in-Ok.ensures.crew (c.in-Ok.ensures.limits ∙ ap (λ (l : Layout). l.limits) (sym c.in-Ok.ensures.store)) c.in-Ok.ensures.tells
    c.in-Ok.ensures.opening

pub returns-in-Err-clause-full : goal.returns-in-Err-clause-full
returns-in-Err-clause-full c = search rules

pub returns-in-Ok-run_all-clause-full : goal.returns-in-Ok-run_all-clause-full
returns-in-Ok-run_all-clause-full c = search rules
