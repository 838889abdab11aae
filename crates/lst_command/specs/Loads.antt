-- With which statuses a load ends.
use Rattle.std.specs.Prelude.{ℕ, List}
use Rattle.lst_options.specs.declared.load.LoadNumbers.{LoadNumbers}
use Rattle.lst_command.specs.declared.command.Command.TheVariants.{Load}
use Rattle.lst_command.specs.declared.status.Status.{Status}
use Rattle.lst_command.specs.declared.status.Status.TheVariants.{Done, WriteFault, OutOfMemory}
use Rattle.lst_command.specs.Answers.{Change, IsUntouched, Says}
use Rattle.lst_command.specs.Commands.{Names}
use Rattle.lst_command.specs.Runs.{Left}

-- it did its work, the sink failed, or memory was wanting
abbrev pub IsStatusOfLoad : Status → Type 0
IsStatusOfLoad Done = Unit {0}
IsStatusOfLoad WriteFault = Unit {0}
IsStatusOfLoad OutOfMemory = Unit {0}
IsStatusOfLoad status = ⊥

-- where the words name a load, no status says anything else, and each says that nothing was read
abbrev pub LoadsReadNothing : Type 0
LoadsReadNothing = (numbers : LoadNumbers) (words : List (List ℕ)) (status : Status) (source sink : Change) (old new : Left)
    → Names words (Load numbers) → Says status words source sink old new → IsStatusOfLoad status × IsUntouched source
