use Rattle.std.proofs.Common.{Option, drop, map, string_bytes, subst}
use Rattle.lst_options.specs.declared.as_of.AsOfOptions.{AsOfOptions}
use Rattle.lst_options.specs.Options.{TellsAsOf}
use Rattle.lst_command.proofs.Naming.{no_as_of}
use Rattle.lst_command.proofs.command.as_of_named.Goals as goal

pub returns-in-None-clause-told : goal.returns-in-None-clause-told
returns-in-None-clause-told c = no_as_of (map string_bytes c.args.words.now) c.requires
    (subst (λ (options : Option AsOfOptions). TellsAsOf (drop 1 (map string_bytes c.args.words.now)) options) c.in-None.is c.in_ok-options.ensures.told)
