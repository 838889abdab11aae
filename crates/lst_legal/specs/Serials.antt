-- What is kept along a run to judge serial places and stale commits.
use Rattle.std.specs.Prelude.{◌≡◌, ℕ, ◌-◌, ◌<◌, ◌==◌, cond, List, Bool, true, false, length, slice_index_or, Option, Some, None, IfSome}
use Rattle.std.specs.List.{list_any, filter_map}
use Rattle.std.specs.BTreeMap.{is_at}
use Rattle.std.specs.Ordering.{nat_cmp}
use Rattle.lst_model.specs.declared.commits.Commit.{Commit}
use Rattle.lst_model.specs.declared.lines.Call.{Call as CallKind}
use Rattle.lst_model.specs.declared.replies.Reply.{Reply}
use Rattle.lst_model.specs.Histories.{snapshot}
use Rattle.lst_replies.specs.declared.states.Transaction.{Transaction}
use Rattle.lst_replies.specs.Runs.{Answered}
use Rattle.lst_replies.specs.States.{state_of}
use Rattle.lst_replies.specs.Explained.{commit_at, has_write_on}
use Rattle.lst_legal_runs.specs.declared.marks.Marks.{Marks}
use Rattle.lst_legal_runs.specs.Marks.{number_at}
use Rattle.lst_legal_runs.specs.Places.{IfCall}
use Rattle.lst_legal.specs.declared.stales.Reads.{Reads}
use Rattle.lst_serial_laws.specs.Answers.{IsAnsweredBy}
use Rattle.lst_serial_laws.specs.Legal.{lines_since_begin, key_named, reads_table, StaleIsExplained}

-- ---- serial places

-- the time before a commit's time, or none for 0, which is no commit's
abbrev pub time_before : ℕ → Option ℕ
time_before time = cond (time == 0) None (Some (time - 1))

-- by session and number: the time before its commit, if there is one
abbrev pub from_place : Marks → ℕ → ℕ → ℕ → Option ℕ
from_place firsts session number begin = time_before (number_at firsts session number 0)

-- a call of the open transaction is answered as of the time as of which that is looked at, if there is one
abbrev pub IsSeenAt : List Commit → (ℕ → ℕ → Option ℕ) → Option Transaction → CallKind → Reply → Type 0
IsSeenAt history at current call reply = IfSome current (λ transaction. IfSome (at transaction.number transaction.begin) (λ time. IsAnsweredBy (snapshot history time transaction.writes) call reply))

abbrev pub TellsPlace : List Commit → (ℕ → ℕ → ℕ → Option ℕ) → List Answered → Answered → Type 0
TellsPlace history at before one = IfCall (λ session call reply. IsSeenAt history (at session) (state_of session before).current call reply) one.line one.reply

-- ---- stale commits

-- there is a commit, and it has a write on the key
abbrev pub has_written : Option Commit → ℕ → Bool
has_written None key = false
has_written (Some commit) key = has_write_on key commit

-- the number is one of these
abbrev pub has_number : List ℕ → ℕ → Bool
has_number numbers number = list_any (is_at (nat_cmp number)) numbers

-- a key is looked for among the very keys that are named
abbrev pub AreNamed : Reads → Type 0
AreNamed reads = (key : ℕ) → has_number reads.named.keys key ≡ has_number reads.keys.items key

-- what these lines have read, under a history
pub record AreReadsOf (history : List Commit) (reads : Reads) (lines : List Answered) : Type 0 where
  pub keys : reads.keys.items ≡ filter_map (λ one. key_named one.line) lines
  pub named : AreNamed reads
  pub told : (time : ℕ) → has_number reads.told.keys time ≡ true → list_any (has_written (commit_at history time)) reads.keys.items ≡ true
  pub whole : reads.whole ≡ list_any (λ one. reads_table one.reply) lines

-- a step keeps that a key is looked for among those that are named
abbrev pub NamesAsMuch : Reads → Reads → Type 0
NamesAsMuch old new = AreNamed old → AreNamed new

-- what the lines have read stays so
abbrev pub StayReads : List Commit → Reads → Reads → Type 0
StayReads history old new = (lines : List Answered) → AreReadsOf history old lines → AreReadsOf history new lines

-- by number: what the sessions' lines have read since the last begin, behind the front of a run
abbrev pub AreReads : List Commit → List Reads → List Answered → Type 0
AreReads history all front = (session : ℕ) (none : Reads) → session < length all → AreReadsOf history (slice_index_or all session none) (lines_since_begin session front)

abbrev pub TellsStale : List Commit → List Answered → Answered → Type 0
TellsStale history before one = IfCall (λ session call reply. StaleIsExplained history before session (state_of session before).current reply) one.line one.reply
