-- The lines of a run, with the replies to them, as the checker holds them.
use Rattle.std.specs.Prelude.{List, map}
use Rattle.lst_model.specs.declared.lines.Line.TheVariants as lines
use Rattle.lst_model.specs.declared.replies.Reply.TheVariants.{Silent}
use Rattle.lst_replies.specs.declared.answers.Answer.{Answer}
use Rattle.lst_replies.specs.declared.answers.Answer.TheVariants.{Phase, Merge, Call}
use Rattle.lst_replies.specs.Runs.{Answered, answered}

abbrev pub seen : Answer → Answered
seen Phase = answered lines.Phase Silent
seen (Merge range column reply) = answered (lines.Merge range column) reply.now
seen (Call session call reply) = answered (lines.Call session call.now) reply.now

abbrev pub seen_all : List Answer → List Answered
seen_all run = map seen run
