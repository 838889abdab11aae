-- An open transaction, as the engines keep it.
use Rattle.std.specs.Prelude.{Option, Some, None}
use Rattle.lst_machine.specs.declared.answers.Transaction.{Transaction}
use Rattle.lst_machine.specs.State.{Opened}

-- the machine's word for it
abbrev pub opened_as : Option Transaction → Option Opened
opened_as None = None
opened_as (Some transaction) = Some (record { begin = transaction.begin; read_only = transaction.read_only })
