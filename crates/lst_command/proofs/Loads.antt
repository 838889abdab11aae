-- With which statuses a load ends.
use Rattle.std.proofs.Common.{◌≡◌, ℕ, List, inl, inr, subst}
use Rattle.lst_options.specs.declared.load.LoadNumbers.{LoadNumbers}
use Rattle.lst_command.specs.declared.command.Command.{Command}
use Rattle.lst_command.specs.declared.command.Command.TheVariants.{Load}
use Rattle.lst_command.specs.declared.status.Status.{Status}
use Rattle.lst_command.specs.declared.status.Status.TheVariants.{Done, Illegal, Usage, BadScript, TooLong, ReadFault, WriteFault, OutOfMemory, BadTable}
use Rattle.lst_command.specs.Answers.{Change, Makes, MakesOfLoad, Refuses, RefusesLoad}
use Rattle.lst_command.specs.Commands.{Names}
use Rattle.lst_command.specs.Loads.{LoadsReadNothing}
use Rattle.lst_command.specs.Runs.{Left}
use Rattle.lst_command.proofs.Answers.{one_command}

module _ (numbers : LoadNumbers) (words : List (List ℕ)) (names : Names words (Load numbers)) (command : Command) (named : Names words command) where
  same : command ≡ Load numbers
  same = one_command words command (Load numbers) named names

  made_by : (source : Change) (text : List ℕ) (status : Status) (old new : Left) → Makes command source text status old new → MakesOfLoad numbers source text status new
  made_by source text status old new made = subst (λ (c : Command). Makes c source text status old new) same made

  refused_by : (status : Status) (source : Change) → Refuses command status source → RefusesLoad status source
  refused_by status source refused = subst (λ (c : Command). Refuses c status source) same refused

not_illegal : Illegal ≡ Done → ⊥
not_illegal same = absurd (cc)

pub load_reads_nothing : LoadsReadNothing
load_reads_nothing numbers words Done source sink old new names says = (tt, (made_by numbers words names says.0 says.1 source says.2.text Done old new says.2.made).unread)
load_reads_nothing numbers words Illegal source sink old new names says = absurd (not_illegal (made_by numbers words names says.0 says.1 source says.2.text Illegal old new says.2.made).ended)
load_reads_nothing numbers words Usage source sink old new names says = absurd (says.0 (Load numbers) names)
load_reads_nothing numbers words (BadScript line kind) source sink old new names says = absurd (refused_by numbers words names says.0 says.1 (BadScript line kind) source says.2.0)
load_reads_nothing numbers words (BadTable place kind) source sink old new names says = absurd (refused_by numbers words names says.0 says.1 (BadTable place kind) source says.2.0)
load_reads_nothing numbers words TooLong source sink old new names says = absurd (refused_by numbers words names says.0 says.1 TooLong source says.2.0)
load_reads_nothing numbers words ReadFault source sink old new names says = absurd (refused_by numbers words names says.0 says.1 ReadFault source says.2.0)
load_reads_nothing numbers words WriteFault source sink old new names says = (tt, (made_by numbers words names says.0 says.1 source says.2.text says.2.status old new says.2.made).unread)
load_reads_nothing numbers words OutOfMemory source sink old new names says = (
  tt,
  elim says [
    | inl none ↦ none.0
    | inr named ↦ refused_by numbers words names named.0 named.1 OutOfMemory source named.2.0
  ],
)
