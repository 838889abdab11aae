-- The replies of all workers, put into the order of the lines.
use Rattle.std.specs.Prelude.{◌≡◌, ℕ, List, [], ◌++◌, ◌==◌, Option, None, map, length, slice_index_or, take, drop}
use Rattle.std.specs.List.{count_by}
use Rattle.lst_model.specs.declared.lines.Line.{Line}
use Rattle.lst_model.specs.declared.replies.Reply.{Reply}
use Rattle.lst_model.specs.declared.replies.Reply.TheVariants.{Silent}
use Rattle.lst_replies.specs.Runs.{speaker_of}
use Rattle.lst_work_laws.specs.Orders.{queue_of, replies_from}

-- what stands in a queue
abbrev pub queue_at : List (List Reply) → ℕ → List Reply
queue_at queues queue = slice_index_or queues queue []

-- how many of these lines have their replies in a queue
abbrev pub lines_from : ℕ → ℕ → List Line → ℕ
lines_from sessions queue lines = count_by (λ line. queue_of sessions (speaker_of line) == queue) lines

-- one reply for each line, in the order of the lines, each with its line's session; and those from each queue are that queue
pub record AreInOrder (sessions : ℕ) (lines : List Line) (queues : List (List Reply)) (replies : List (Option ℕ × Reply)) : Type 0 where
  pub speakers : map (λ reply. reply.0) replies ≡ map speaker_of lines
  pub own : (queue : ℕ) → replies_from sessions queue replies ≡ queue_at queues queue

-- a list of replies has grown, and what was put behind it is so
pub record GrowsBy (is_so : List (Option ℕ × Reply) → Type 0) (old new : List (Option ℕ × Reply)) : Type 0 where
  pub added : List (Option ℕ × Reply)
  pub grows : new ≡ old ++ added
  pub so : is_so added

-- what stands where a reply will be put
abbrev pub placeholder : Option ℕ × Reply
placeholder = (None, Silent)

-- the first n lines have their replies, and what is left in the queues are the others
pub record IsOrdering (sessions : ℕ) (lines : List Line) (before now : List (List Reply)) (replies : List (Option ℕ × Reply)) (n : ℕ) : Type 0 where
  pub speakers : map (λ reply. reply.0) replies ≡ map speaker_of (take n lines)
  pub own : (queue : ℕ) → replies_from sessions queue replies ++ queue_at now queue ≡ queue_at before queue
  pub left : (queue : ℕ) → length (queue_at now queue) ≡ lines_from sessions queue (drop n lines)
