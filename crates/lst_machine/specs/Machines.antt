-- The state that a machine shows, and when it answers a line.
use Rattle.std.specs.Prelude.{◌≡◌, ℕ, Bool, [], ◌∷◌, ◌++◌, Option, None}
use Rattle.lst_layout.specs.declared.limits.Limits.{Limits}
use Rattle.lst_model.specs.declared.commits.Commit.{Commit}
use Rattle.lst_model.specs.declared.acts.Act.{Act}
use Rattle.lst_model.specs.declared.lines.Line.{Line}
use Rattle.lst_model.specs.declared.replies.Reply.{Reply}
use Rattle.lst_model.specs.declared.replies.Reply.TheVariants.{Done, Merged}
use Rattle.lst_model.specs.declared.replies.Cause.{Cause}
use Rattle.lst_model.specs.declared.replies.Cause.TheVariants.{TailFull}
use Rattle.lst_model.specs.Tables.{row_of}
use Rattle.lst_machine.specs.declared.machine.Machine.{Machine}
use Rattle.lst_machine.specs.State.{Accepted, Store, Pages, State}
use Rattle.lst_machine.specs.Writes.{put, conflict_of, sight_of}
use Rattle.lst_machine.specs.Calls.{first_of, where_true, refused_or, in_open, is_range_full, with_placed, accepted_unless, change_refusal, after_change, with_opened, with_closed}
use Rattle.lst_machine.specs.Merges.{begun_unless, swapped_where}
use Rattle.lst_machine.specs.Machine.{reply, next}
use Rattle.lst_machine.specs.Changes.{misfit}
use Rattle.lst_machine.specs.Parts.{Parts, state_in}

abbrev pub limits_of : Machine → Limits
limits_of machine = machine.limits

abbrev pub parts_of : Machine → Parts
parts_of machine = record { history = machine.history; placed = machine.placed.items; ranges = machine.ranges.items; sessions = machine.sessions.items; swaps = machine.swaps.items }

abbrev pub state_of : Machine → State
state_of machine = state_in (parts_of machine)

abbrev pub store_of : Machine → Store
store_of machine = (state_of machine).store

abbrev pub pages_of : Machine → Pages
pages_of machine = (state_of machine).pages

-- the reply to a line, and the state after it
abbrev pub AnswersLine : Machine → Machine → Line → Reply → Type 0
AnswersLine before after line answer = (answer ≡ reply before.limits (state_of before) line) × (state_of after ≡ next before.limits (state_of before) line)

-- what lines make of a state: a begin that succeeds, an end without a commit, a commit, an accepted write, and a swap of a page
abbrev pub opens : State → ℕ → ℕ → Bool → State
opens state session begin read_only = record { store = with_opened state.store session begin read_only; pages = begun_unless None state.pages session }

abbrev pub forgets : Pages → ℕ → Pages
forgets pages session = record pages { swaps_at_begin = put pages.swaps_at_begin session 0 }

abbrev pub closes : State → ℕ → State
closes state session = record { store = with_closed state.store session; pages = forgets state.pages session }

abbrev pub commits : State → ℕ → Commit → State
commits state session commit = record { store = record state.store { history = state.store.history ++ commit ∷ []; opened = put state.store.opened session None }; pages = forgets state.pages session }

abbrev pub accepts : State → ℕ → Accepted → State
accepts state range write = record state { store = record state.store { accepted = put state.store.accepted range (state.store.accepted range ++ write ∷ []) } }

abbrev pub swaps : State → ℕ → ℕ → ℕ → State
swaps state range column tps = record state { pages = swapped_where (Merged tps) state.pages range column }

-- what is asked of a write to a key that has a record
abbrev pub write_refusal : Limits → Store → ℕ → ℕ → ℕ → Act → Option Cause
write_refusal limits store session begin key act =
    first_of (conflict_of store session begin key
    ∷ misfit (row_of (sight_of limits store session begin) key) act
    ∷ where_true (is_range_full limits store key) TailFull
    ∷ [])

-- the answer to such a write, and the state after it
abbrev pub AnswersWrite : Machine → Machine → ℕ → ℕ → ℕ → Act → Reply → Type 0
AnswersWrite before after session begin key act answer =
    (answer ≡ refused_or (write_refusal before.limits (store_of before) session begin key act) Done)
    × (state_of after ≡ record (state_of before) { store = accepted_unless (write_refusal before.limits (store_of before) session begin key act) (store_of before) session key act })

-- the answer to an update or a delete, by its act, and the state after it
abbrev pub AnswersChange : Machine → Machine → ℕ → ℕ → Act → Reply → Type 0
AnswersChange before after session key act answer =
    (answer ≡ in_open ((store_of before).opened session) (λ transaction. refused_or (change_refusal before.limits (store_of before) session transaction key) Done))
    × (state_of after ≡ record (state_of before) { store = after_change before.limits (store_of before) session ((store_of before).opened session) key act })

-- the answer to a write to a key that gets its record, and the state after it
abbrev pub AnswersFirst : Machine → Machine → ℕ → ℕ → ℕ → Act → Reply → Type 0
AnswersFirst before after session begin key act answer =
    (answer ≡ refused_or (write_refusal before.limits (with_placed (store_of before) key) session begin key act) Done)
    × (state_of after ≡ record (state_of before) { store = accepted_unless (write_refusal before.limits (with_placed (store_of before) key) session begin key act) (with_placed (store_of before) key) session key act })
