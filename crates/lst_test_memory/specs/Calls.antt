-- What a call over memory came to, for its words and its input.
use Rattle.std.specs.Prelude.{ℕ, List, [], Some, None}
use Rattle.lst_io.specs.Memory.{sink_taken, sink_faults}
use Rattle.lst_command.specs.Answers.{Says, Reports, IsUsage, IsDue, change}
use Rattle.lst_test_memory.specs.declared.calls.Shown.{Shown}

-- The status says of these words, of this input and of what the sink took what it promises; so many bytes were left to be read, after so many faults.
-- It is due to the words and the input, and its line is on the sink of errors.
pub record IsAnswerTo (words : List (List ℕ)) (input : List ℕ) (shown : Shown) : Type 0 where
  pub rest : List ℕ
  pub faults : ℕ
  pub says : Says shown.status words (change (Some input) 0 (Some rest) faults)
      (change (Some []) 0 (Some (sink_taken shown.sink)) (sink_faults shown.sink)) None shown.left
  pub usage : IsUsage shown.status words
  pub due : IsDue shown.status words input
  pub reports : Reports shown.status (change (Some []) 0 (Some (sink_taken shown.errors)) (sink_faults shown.errors))
