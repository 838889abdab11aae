-- What a status says of a process.
use Rattle.std.proofs.Common.{ℕ, List, Ok, Err, inl, inr}
use Rattle.std.specs.Prelude.{Result, MatchResult}
use Rattle.std.specs.declared.io.ErrorKind.{ErrorKind}
use Rattle.lst_command.specs.declared.status.Status.{Status}
use Rattle.lst_command.specs.Answers.{Change}
use Rattle.lst_command.specs.Programs.{SaysOfWords, SaysOfNoWords, SaysOfProcess}

-- its arguments were told, or they weren't
pub of_process : {A B : Type 0} (arguments : Result A B) (words : A → List (List ℕ)) (kind : B → ErrorKind) (status : Status) (source sink : Change)
    → MatchResult arguments (λ all. SaysOfWords (words all) status source sink) (λ error. SaysOfNoWords (kind error) status source sink) → SaysOfProcess status source sink
of_process (Ok all) words kind status source sink says = inl (words all, says)
of_process (Err error) words kind status source sink says = inr (kind error, says)
