-- What a command makes, a task of its input.
use Rattle.std.specs.Prelude.{◌≡◌, ℕ, List, None, Some}
use Rattle.lst_layout.specs.declared.limits.Limits.{Limits}
use Rattle.lst_legal_runs.specs.declared.levels.Level.{Level}
use Rattle.lst_rule.specs.declared.store.Store.{Store}
use Rattle.lst_session.specs.declared.crew.Crew.{Crew}
use Rattle.lst_options.specs.declared.load.LoadNumbers.{LoadNumbers}
use Rattle.lst_command.specs.declared.command.Command.{Command}
use Rattle.lst_command.specs.declared.command.Command.TheVariants.{Input, Load}
use Rattle.lst_command.specs.declared.command.Task.{Task}
use Rattle.lst_command.specs.declared.output.Output.{Output}
use Rattle.lst_command.specs.declared.status.Status.{Status}
use Rattle.lst_command.specs.declared.status.Status.TheVariants.{BadScript, BadTable, OutOfMemory, Done}
use Rattle.lst_report.specs.declared.claims.Claim.{Claim}
use Rattle.lst_command.specs.Owed.{OwesFor, OwesLoad, IsFaultFor, IsTableFaultFor, IsVerdict}
use Rattle.lst_command.specs.Answers.{Change, IsUntouched, ReadsInput}

-- the output is what is owed for the input, where nothing was left before
abbrev pub IsOutputFor : Task → Limits → List ℕ → Output → Type 0
IsOutputFor task limits input output = OwesFor task limits input output.text output.status None output.both

-- an output of this text, with this store and crew
pub record HasMade (text : List ℕ) (both : Store × Crew) (output : Output) : Type 0 where
  pub said : output.text ≡ text
  pub ended : output.status ≡ Done
  pub left : output.both ≡ Some both

-- an output of this text and status alone
pub record HasSaid (text : List ℕ) (status : Status) (output : Output) : Type 0 where
  pub said : output.text ≡ text
  pub ended : output.status ≡ status
  pub alone : output.both ≡ None

-- the verdict on a claim at a level, and no store
pub record IsVerdictOn (level : Level) (limits : Limits) (claim : Claim) (output : Output) : Type 0 where
  pub verdict : IsVerdict level limits claim output.text output.status
  pub alone : output.both ≡ None

-- why there is none
abbrev pub IsRefusalFor : Task → Limits → List ℕ → Status → Type 0
IsRefusalFor task limits input (BadScript line kind) = IsFaultFor task limits input line kind
IsRefusalFor task limits input (BadTable place kind) = IsTableFaultFor task limits input place kind
IsRefusalFor task limits input OutOfMemory = Unit {0}
IsRefusalFor task limits input status = ⊥

-- the output is what a load owes
pub record IsLoadOutput (numbers : LoadNumbers) (output : Output) : Type 0 where
  pub owed : OwesLoad numbers output.text output.both
  pub ended : output.status ≡ Done

-- the output is what is owed: by a task for the whole input, by a load with nothing read
abbrev pub IsOutputOf : Command → Change → Output → Type 0
IsOutputOf (Input task limits) source output = (input : List ℕ) × ReadsInput source input × IsOutputFor task limits input output
IsOutputOf (Load numbers) source output = IsUntouched source × IsLoadOutput numbers output
