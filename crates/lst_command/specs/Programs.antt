-- A program: what it is called with, which may be that its arguments can't be told.
use Rattle.std.specs.Prelude.{◌≡◌, ◌⊎◌, ℕ, List, None}
use Rattle.std.specs.declared.io.ErrorKind.{ErrorKind}
use Rattle.std.specs.declared.io.ErrorKind.TheVariants as kinds
use Rattle.lst_command.specs.declared.status.Status.{Status}
use Rattle.lst_command.specs.declared.status.Status.TheVariants.{Usage, OutOfMemory}
use Rattle.lst_command.specs.Runs.{Left}
use Rattle.lst_command.specs.Answers.{Change, IsUntouched, Says}

-- memory was wanting for them, or one of them is no text and so they are no command line. Nothing was read or written
pub record SaysOfNoWords (kind : ErrorKind) (status : Status) (source sink : Change) : Type 0 where
  pub memory : kind ≡ kinds.OutOfMemory → status ≡ OutOfMemory
  pub other : ¬ (kind ≡ kinds.OutOfMemory) → status ≡ Usage
  pub unread : IsUntouched source
  pub unwritten : IsUntouched sink

-- the program was called with these words, nothing being left before
pub record SaysOfWords (words : List (List ℕ)) (status : Status) (source sink : Change) : Type 0 where
  pub left : Left
  pub says : Says status words source sink None left

-- it was called with some words, or with arguments that can't be told
abbrev pub SaysOfProcess : Status → Change → Change → Type 0
SaysOfProcess status source sink = ((words : List (List ℕ)) × SaysOfWords words status source sink) ⊎ ((kind : ErrorKind) × SaysOfNoWords kind status source sink)
