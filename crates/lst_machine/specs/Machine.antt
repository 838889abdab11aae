-- The machine of one thread: the reply to each line, the state after it, and both for a whole script.
use Rattle.std.specs.Prelude.{List, [], ◌∷◌}
use Rattle.lst_layout.specs.declared.limits.Limits.{Limits}
use Rattle.lst_model.specs.declared.lines.Line.{Line}
use Rattle.lst_model.specs.declared.lines.Line.TheVariants.{Phase, Merge, Call}
use Rattle.lst_model.specs.declared.replies.Reply.{Reply}
use Rattle.lst_model.specs.declared.replies.Reply.TheVariants.{Silent}
use Rattle.lst_machine.specs.State.{State}
use Rattle.lst_machine.specs.Calls.{call_reply, store_after}
use Rattle.lst_machine.specs.Merges.{merge_reply, pages_after_merge, pages_after_call}

abbrev pub reply : Limits → State → Line → Reply
reply limits state Phase = Silent
reply limits state (Merge range column) = merge_reply limits state.store state.pages range column
reply limits state (Call session call) = call_reply limits state.store session call

abbrev pub next : Limits → State → Line → State
next limits state Phase = state
next limits state (Merge range column) = record state { pages = pages_after_merge limits state.store state.pages range column }
next limits state (Call session call) = record {
  store = store_after limits state.store session call;
  pages = pages_after_call limits state.store state.pages session call;
}

-- the replies to the lines of a script, in order
abbrev pub replies : Limits → State → List Line → List Reply
replies limits state [] = []
replies limits state (line ∷ lines) = reply limits state line ∷ replies limits (next limits state line) lines

-- the state after the lines of a script
abbrev pub state_after : Limits → State → List Line → State
state_after limits state [] = state
state_after limits state (line ∷ lines) = state_after limits (next limits state line) lines
