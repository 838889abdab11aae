-- A session's state without the writes of its open transaction: only whether there are any.
use Rattle.std.specs.Prelude.{◌+◌, Bool, true, false, ◌||◌, Some, None, option_map, is_some, List, [], ◌∷◌}
use Rattle.lst_model.specs.declared.acts.Write.{Write}
use Rattle.lst_model.specs.declared.lines.Call.{Call as CallKind}
use Rattle.lst_model.specs.declared.replies.Reply.{Reply}
use Rattle.lst_model.specs.declared.replies.Reply.TheVariants.{Begun, Done, Committed, Ended, Aborted}
use Rattle.lst_replies.specs.declared.states.Transaction.{Transaction}
use Rattle.lst_replies.specs.declared.states.SessionState.{SessionState}
use Rattle.lst_replies.specs.Runs.{write_of}
use Rattle.lst_replies.specs.States.{is_as_of}
use Rattle.lst_legal_runs.specs.declared.outlines.OpenOutline.{OpenOutline}
use Rattle.lst_legal_runs.specs.declared.outlines.StateOutline.{StateOutline}

abbrev pub has_items : List Write → Bool
has_items [] = false
has_items (write ∷ writes) = true

abbrev pub outline_of_open : Transaction → OpenOutline
outline_of_open transaction = record { number = transaction.number; begin = transaction.begin; read_only = transaction.read_only; has_writes = has_items transaction.writes }

abbrev pub outline_of : SessionState → StateOutline
outline_of state = record { begun = state.begun; current = option_map outline_of_open state.current }

-- the outline behind a call, by the outline before it
abbrev pub outline_after : CallKind → Reply → StateOutline → StateOutline
outline_after call (Begun time) outline = record {
  begun = outline.begun + 1;
  current = Some (record { number = outline.begun + 1; begin = time; read_only = is_as_of call; has_writes = false });
}
outline_after call Done outline = record { begun = outline.begun; current = option_map (λ current. record { number = current.number; begin = current.begin; read_only = current.read_only; has_writes = current.has_writes || is_some (write_of call) }) outline.current }
outline_after call (Committed time) outline = record { begun = outline.begun; current = None }
outline_after call (Ended time) outline = record { begun = outline.begun; current = None }
outline_after call Aborted outline = record { begun = outline.begun; current = None }
outline_after call reply outline = outline
