use Rattle.std.proofs.Common.{Option, drop, map, string_bytes, subst}
use Rattle.lst_options.specs.declared.load.LoadNumbers.{LoadNumbers}
use Rattle.lst_options.specs.Options.{TellsLoad}
use Rattle.lst_command.proofs.Naming.{no_load}
use Rattle.lst_command.proofs.command.load_named.Goals as goal

pub returns-in-None-clause-told : goal.returns-in-None-clause-told
returns-in-None-clause-told c = no_load (map string_bytes c.args.words.now) c.requires
    (subst (λ (numbers : Option LoadNumbers). TellsLoad (drop 1 (map string_bytes c.args.words.now)) numbers) c.in-None.is c.in_ok-numbers.ensures.told)
