-- Whose each of some replies is.
use Rattle.std.specs.Prelude.{ℕ, List, ◌==◌, if◌then◌else◌, Option, Some, None}
use Rattle.std.specs.List.{filter_map}
use Rattle.std.specs.Option.{unwrap_or}
use Rattle.lst_model.specs.declared.replies.Reply.{Reply}

-- whose queue the reply to a line stands in: the session's, or the merge worker's, which has the number of the sessions
abbrev pub queue_of : ℕ → Option ℕ → ℕ
queue_of sessions speaker = unwrap_or speaker sessions

-- those of these replies that stood in a queue, in order
abbrev pub replies_from : ℕ → ℕ → List (Option ℕ × Reply) → List Reply
replies_from sessions queue replies = filter_map (λ reply. if queue_of sessions reply.0 == queue then Some reply.1 else None) replies
