use Rattle.std.proofs.Common.{Option, drop, map, string_bytes, subst}
use Rattle.lst_options.specs.declared.crash.CrashOptions.{CrashOptions}
use Rattle.lst_options.specs.Options.{TellsCrash}
use Rattle.lst_command.proofs.Naming.{no_crash}
use Rattle.lst_command.proofs.command.crash_named.Goals as goal

pub returns-in-None-clause-told : goal.returns-in-None-clause-told
returns-in-None-clause-told c = no_crash (map string_bytes c.args.words.now) c.requires
    (subst (λ (options : Option CrashOptions). TellsCrash (drop 1 (map string_bytes c.args.words.now)) options) c.in-None.is c.in_ok-options.ensures.told)
