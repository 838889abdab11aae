-- The history that the replies of a run tell, gathered line by line.
use Rattle.std.specs.Prelude.{◌≡◌, ◌≢◌, ℕ, ◌+◌, ◌<◌, Bool, true, false, ◌≤◌, List, [], ◌∷◌, ◌++◌, map, length, slice_index_or, slice_get, Option, Some, None, IfSome, IsSomeAnd}
use Rattle.std.specs.List.{Contains, AllPairs}
use Rattle.lst_model.specs.declared.acts.Write.{Write}
use Rattle.lst_model.specs.declared.commits.Commit.{Commit}
use Rattle.lst_model.specs.declared.lines.Call.{Call as CallKind}
use Rattle.lst_model.specs.declared.replies.Reply.{Reply}
use Rattle.lst_model.specs.declared.replies.Reply.TheVariants.{Begun, Done, Committed}
use Rattle.lst_model.specs.Histories.{by_key, StandByKey}
use Rattle.lst_replies.specs.declared.reports.Stamp.{Stamp}
use Rattle.lst_replies.specs.declared.states.Transaction.{Transaction}
use Rattle.lst_replies.specs.Runs.{Answered, AtEachCall, commit_time, commit_times, write_of, speaker_of}
use Rattle.lst_replies.specs.States.{state_of, commit_of}
use Rattle.lst_replies.specs.Legal.{stamp_of, IsEntered}
use Rattle.lst_legal_runs.specs.Places.{AtEach, IfCall, IfMerge, outline_at, seen_at}
use Rattle.lst_legal_runs.specs.declared.places.Place.{Place}

-- The history matches the committed replies, but for its soundness: the report names its commits, and each is told to its session exactly
-- once, as its session's state has it.
pub record IsTold (run : List Answered) (stamps : List Stamp) (history : List Commit) : Type 0 where
  pub named : map stamp_of history ≡ stamps
  pub entered : AtEachCall (IsEntered history) run
  pub told : (time : ℕ) → 0 < time → time ≤ length history → Contains (commit_times run) time
  pub once : AllPairs (λ time other. time ≢ other) (commit_times run)

-- a merge is not answered with a commit
abbrev pub CommitsNothing : Answered → Type 0
CommitsNothing one = IfMerge (λ range column reply. commit_time reply ≡ None) one.line one.reply

-- by session: the writes of the open transaction behind the front of a run, in the order of the calls
abbrev pub ArePending : List (List Write) → List Answered → Type 0
ArePending pending front = (session : ℕ) (transaction : Transaction) → session < length pending → (state_of session front).current ≡ Some transaction → transaction.writes ≡ by_key (slice_index_or pending session [])

-- a commit was found for a time
pub record HasSlot (slots : List (Option Commit)) (time : ℕ) (commit : Commit) : Type 0 where
  pub place : ℕ
  pub is : time ≡ place + 1
  pub here : slice_index_or slots place None ≡ Some commit

-- a call that is answered with a commit time has its transaction at that time
abbrev pub IsEnteredIn : List (Option Commit) → List Answered → Answered → Type 0
IsEnteredIn slots before one = IfCall (λ session call reply. IfSome (commit_time reply) (λ time.
    IsSomeAnd (state_of session before).current (λ transaction. HasSlot slots time (commit_of session transaction)))) one.line one.reply

-- the commits that the front of a run tells, by their times: the first one's time is 1
pub record AreGathered (run : List Answered) (stamps : List Stamp) (slots : List (Option Commit)) (front : List Answered) : Type 0 where
  pub size : length slots ≡ length stamps
  pub entered : AtEach (IsEnteredIn slots) front
  pub named : (place : ℕ) (commit : Commit) (none : Stamp) → slice_index_or slots place None ≡ Some commit → stamp_of commit ≡ slice_index_or stamps place none
  pub found : (place : ℕ) (commit : Commit) → slice_index_or slots place None ≡ Some commit → Contains (commit_times front) (place + 1)
  pub kept : (time : ℕ) → Contains (commit_times front) time → (commit : Commit) × HasSlot slots time commit
  pub once : AllPairs (λ time other. time ≢ other) (commit_times front)
  pub only : (history : List Commit) → IsTold run stamps history → (place : ℕ) (commit : Commit) → slice_index_or slots place None ≡ Some commit → slice_get history place ≡ Some commit
  pub ordered : (place : ℕ) (commit : Commit) → slice_index_or slots place None ≡ Some commit → StandByKey commit.writes

-- a commit of this name can be entered at a time
pub record CanEnter (slots : List (Option Commit)) (stamps : List Stamp) (time : ℕ) (stamp : Stamp) : Type 0 where
  pub place : ℕ
  pub is : time ≡ place + 1
  pub within : place < length stamps
  pub free : slice_index_or slots place None ≡ None
  pub named : (none : Stamp) → slice_index_or stamps place none ≡ stamp

-- the items, where none is missing
abbrev pub AreFilled : List (Option Commit) → Option (List Commit) → Type 0
AreFilled slots None = (commits : List Commit) → ¬ (map (λ commit. Some commit) commits ≡ slots)
AreFilled slots (Some commits) = map (λ commit. Some commit) commits ≡ slots

abbrev pub with_pending : Option Write → List Write → List Write
with_pending None pending = pending
with_pending (Some write) pending = pending ++ write ∷ []

-- what a call leaves of the writes of its session's open transaction
abbrev pub pending_after : CallKind → Reply → List Write → List Write
pending_after call (Begun time) pending = []
pending_after call Done pending = with_pending (write_of call) pending
pending_after call (Committed time) pending = []
pending_after call reply pending = pending

-- the place that comes next in a run
pub record IsNext (run : List Answered) (stamps : List Stamp) (pending : List (List Write)) (slots : List (Option Commit)) (front : List Answered) (place : Place) (rest : List Answered) : Type 0 where
  pub is : run ≡ front ++ seen_at place ∷ rest
  pub outline : place.outline ≡ outline_at front (speaker_of (seen_at place).line)
  pub call : CommitsNothing (seen_at place)
  pub pend : ArePending pending front
  pub gathered : AreGathered run stamps slots front

-- one line on, all is as it should be behind it, or else no history has its commit
abbrev pub IsStep : Bool → List Answered → List Stamp → List (List Write) → List (Option Commit) → List Answered → Type 0
IsStep true run stamps pending slots front = ArePending pending front × AreGathered run stamps slots front
IsStep false run stamps pending slots front = (history : List Commit) → ¬ (IsTold run stamps history)
