-- Merges, and the page part of the machine.
use Rattle.std.specs.Prelude.{ℕ, zero, suc, ◌+◌, Bool, cond, ◌&&◌, ◌||◌, Option, Some, None, is_some, take_while, length, nat_le, ◌==◌}
use Rattle.lst_layout.specs.declared.limits.Limits.{Limits}
use Rattle.lst_model.specs.declared.lines.Call.{Call}
use Rattle.lst_model.specs.declared.lines.Call.TheVariants.{Begin, AsOf, Commit, Abort}
use Rattle.lst_model.specs.declared.replies.Reply.{Reply}
use Rattle.lst_model.specs.declared.replies.Reply.TheVariants.{Merged, NothingNew, NoFrame}
use Rattle.lst_model.specs.declared.replies.Cause.{Cause}
use Rattle.lst_machine.specs.State.{Accepted, Opened, Store, Pages}
use Rattle.lst_machine.specs.Writes.{put, put_in, time_of}
use Rattle.lst_machine.specs.Calls.{begin_refusal, as_of_refusal}

-- a write whose transaction is committed or closed
abbrev pub is_settled : Store → Accepted → Bool
is_settled store write = store.closed write.session write.number || is_some (time_of store.history write.session write.number)

-- how many writes of a range stand before its first unsettled one
abbrev pub settled_count : Store → ℕ → ℕ
settled_count store range = length (take_while (is_settled store) (store.accepted range))

-- whether a session's open transaction began so long ago that no spare frame is free
abbrev pub holds_frame : Limits → Store → Pages → ℕ → Bool
holds_frame limits store pages session = is_some (store.opened session) && nat_le (pages.swaps_at_begin session + limits.spare) pages.swaps

-- the lowest session below a number that passes a test
abbrev pub lowest_where : (ℕ → Bool) → ℕ → Option ℕ
lowest_where test zero = None
lowest_where test (suc session) = cond (is_some (lowest_where test session)) (lowest_where test session) (cond (test session) (Some session) None)

abbrev pub merge_reply_at : ℕ → ℕ → Option ℕ → Reply
merge_reply_at tps settled holder = cond (settled == tps) (NothingNew settled) (merged holder)
  where
    merged : Option ℕ → Reply
    merged None = Merged settled
    merged (Some session) = NoFrame session

abbrev pub merge_reply : Limits → Store → Pages → ℕ → ℕ → Reply
merge_reply limits store pages range column =
    merge_reply_at (pages.tps range column) (settled_count store range) (lowest_where (holds_frame limits store pages) limits.sessions)

abbrev pub swapped_where : Reply → Pages → ℕ → ℕ → Pages
swapped_where (Merged tps) pages range column = record pages { tps = put_in pages.tps range column tps; swaps = pages.swaps + 1 }
swapped_where reply pages range column = pages

abbrev pub pages_after_merge : Limits → Store → Pages → ℕ → ℕ → Pages
pages_after_merge limits store pages range column = swapped_where (merge_reply limits store pages range column) pages range column

abbrev pub begun_unless : Option Cause → Pages → ℕ → Pages
begun_unless None pages session = record pages { swaps_at_begin = put pages.swaps_at_begin session pages.swaps }
begun_unless (Some cause) pages session = pages

abbrev pub ended_where : Option Opened → Pages → ℕ → Pages
ended_where None pages session = pages
ended_where (Some transaction) pages session = record pages { swaps_at_begin = put pages.swaps_at_begin session 0 }

-- a begin that succeeds keeps the number of swaps, until its transaction ends
abbrev pub pages_after_call : Limits → Store → Pages → ℕ → Call → Pages
pages_after_call limits store pages session Begin = begun_unless (begin_refusal limits store session) pages session
pages_after_call limits store pages session (AsOf time) = begun_unless (as_of_refusal limits store session time) pages session
pages_after_call limits store pages session Commit = ended_where (store.opened session) pages session
pages_after_call limits store pages session Abort = ended_where (store.opened session) pages session
pages_after_call limits store pages session call = pages
