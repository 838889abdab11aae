use Rattle.std.proofs.Common.{Option, drop, map, string_bytes, subst}
use Rattle.lst_layout.specs.declared.limits.Limits.{Limits}
use Rattle.lst_options.specs.Options.{TellsTable}
use Rattle.lst_command.proofs.Naming.{no_import}
use Rattle.lst_command.proofs.command.import_named.Goals as goal

pub returns-in-None-clause-told : goal.returns-in-None-clause-told
returns-in-None-clause-told c = no_import (map string_bytes c.args.words.now) c.requires
    (subst (λ (limits : Option Limits). TellsTable (drop 1 (map string_bytes c.args.words.now)) limits) c.in-None.is c.in_ok-limits.ensures.told)
