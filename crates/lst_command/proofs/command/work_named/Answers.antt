use Rattle.std.proofs.Common.{Option, drop, map, string_bytes, subst}
use Rattle.lst_options.specs.declared.level.LevelOptions.{LevelOptions}
use Rattle.lst_options.specs.Options.{TellsLevel}
use Rattle.lst_command.proofs.Naming.{no_work}
use Rattle.lst_command.proofs.command.work_named.Goals as goal

pub returns-in-None-clause-told : goal.returns-in-None-clause-told
returns-in-None-clause-told c = no_work (map string_bytes c.args.words.now) c.requires
    (subst (λ (options : Option LevelOptions). TellsLevel (drop 1 (map string_bytes c.args.words.now)) options) c.in-None.is c.in_ok-options.ensures.told)
