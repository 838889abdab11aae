-- What a session does in a script of which no line is refused: its transactions, with their writes.
use Rattle.std.specs.Prelude.{ℕ, ◌+◌, List, [], ◌∷◌, ◌++◌, cond, ◌==◌, Option, Some, None}
use Rattle.lst_model.specs.declared.acts.Act.TheVariants.{Put, Set, Del}
use Rattle.lst_model.specs.declared.acts.Write.{Write}
use Rattle.lst_model.specs.declared.lines.Line.{Line}
use Rattle.lst_model.specs.declared.lines.Line.TheVariants.{Phase, Merge, Call}
use Rattle.lst_model.specs.declared.lines.Call.{Call as CallKind}
use Rattle.lst_model.specs.declared.lines.Call.TheVariants.{Begin, AsOf, Insert, Update, Delete, Commit, Abort}
use Rattle.lst_model.specs.Histories.{joined}

-- how many transactions a session has begun, the writes of each that it has committed with writes, in order, and those of its open one
pub record Doing : Type 0 where
  pub begun : ℕ
  pub done : List (List Write)
  pub current : Option (List Write)

abbrev pub nothing_done : Doing
nothing_done = record { begun = 0; done = []; current = None }

abbrev pub with_begin : Doing → Doing
with_begin doing = record { begun = doing.begun + 1; done = doing.done; current = Some [] }

-- a write joins those of the open transaction
abbrev pub with_own : Write → Option (List Write) → Option (List Write)
with_own write None = None
with_own write (Some own) = Some (joined own write)

abbrev pub with_write : Write → Doing → Doing
with_write write doing = record { begun = doing.begun; done = doing.done; current = with_own write doing.current }

-- a transaction that has writes joins those that were committed
abbrev pub with_committed : Option (List Write) → List (List Write) → List (List Write)
with_committed None done = done
with_committed (Some []) done = done
with_committed (Some (write ∷ own)) done = done ++ (write ∷ own) ∷ []

abbrev pub doing_after_call : CallKind → Doing → Doing
doing_after_call Begin doing = with_begin doing
doing_after_call (AsOf time) doing = with_begin doing
doing_after_call (Insert key row) doing = with_write (record { key = key; act = Put row }) doing
doing_after_call (Update key patch) doing = with_write (record { key = key; act = Set patch }) doing
doing_after_call (Delete key) doing = with_write (record { key = key; act = Del }) doing
doing_after_call Commit doing = record { begun = doing.begun; done = with_committed doing.current doing.done; current = None }
doing_after_call Abort doing = record { begun = doing.begun; done = doing.done; current = None }
doing_after_call call doing = doing

-- behind a line: those of others change nothing
abbrev pub doing_after : ℕ → Line → Doing → Doing
doing_after session Phase doing = doing
doing_after session (Merge range column) doing = doing
doing_after session (Call speaker call) doing = cond (speaker == session) (doing_after_call call doing) doing

abbrev pub doing_behind : ℕ → List Line → Doing → Doing
doing_behind session [] doing = doing
doing_behind session (line ∷ lines) doing = doing_behind session lines (doing_after session line doing)

-- the session's transactions with writes in a script, in order, each as its writes by rising key, where no line is refused
abbrev pub transactions_of : ℕ → List Line → List (List Write)
transactions_of session lines = (doing_behind session lines nothing_done).done
