-- What is kept along a run to judge the replies to merges.
use Rattle.std.specs.Prelude.{◌≡◌, ◌↔◌, ℕ, ◌<◌, List, ◌&&◌, IsTrue}
use Rattle.std.specs.List.{count_by, list_any}
use Rattle.lst_layout.specs.declared.limits.Limits.{Limits}
use Rattle.lst_replies.specs.Runs.{Answered, is_by, is_begun, is_merged}
use Rattle.lst_replies.specs.Explained.{last_merged, MergeIsAnswered}
use Rattle.lst_legal_runs.specs.declared.merges.Merges.{Merges}
use Rattle.lst_legal_runs.specs.declared.marks.Marks.{Marks}
use Rattle.lst_legal_runs.specs.Marks.{number_at}
use Rattle.lst_legal_runs.specs.Places.{IfMerge}

-- the merges behind the front of a run
pub record AreMerges (merges : Merges) (front : List Answered) : Type 0 where
  pub last : (range column : ℕ) → number_at merges.last range column 0 ≡ last_merged range column front
  pub count : merges.count ≡ count_by (λ one. is_merged one.reply) front

-- the sessions that have begun a transaction somewhere in a run are marked
abbrev pub AreBeginners : Marks → List Answered → Type 0
AreBeginners marks run = (session : ℕ) → (0 < number_at marks session 0 0) ↔ IsTrue (list_any (λ one. is_by session one && is_begun one.reply) run)

abbrev pub TellsMerge : Limits → List Answered → List Answered → Answered → Type 0
TellsMerge limits run before one = IfMerge (λ range column reply. MergeIsAnswered limits run before range column reply) one.line one.reply
