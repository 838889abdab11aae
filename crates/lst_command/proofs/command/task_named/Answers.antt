use Rattle.std.proofs.Common.{Option, drop, map, string_bytes, subst}
use Rattle.lst_layout.specs.declared.limits.Limits.{Limits}
use Rattle.lst_options.specs.Options.{TellsLimits}
use Rattle.lst_command.proofs.Naming.{no_task, task_is}
use Rattle.lst_command.proofs.command.task_named.Goals as goal

pub returns-in-Some-clause-told : goal.returns-in-Some-clause-told
returns-in-Some-clause-told c = task_is (map string_bytes c.args.words.now) c.args.task c.in-Some.limits c.requires.plain c.requires.word
    (subst (λ (limits : Option Limits). TellsLimits (drop 1 (map string_bytes c.args.words.now)) limits) c.in-Some.is c.in_ok-limits.ensures.told)

pub returns-in-None-clause-told : goal.returns-in-None-clause-told
returns-in-None-clause-told c = no_task (map string_bytes c.args.words.now) c.args.task c.requires.plain c.requires.word
    (subst (λ (limits : Option Limits). TellsLimits (drop 1 (map string_bytes c.args.words.now)) limits) c.in-None.is c.in_ok-limits.ensures.told)
