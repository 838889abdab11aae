-- The machine's store part while commits are run again on it.
use Rattle.std.specs.Prelude.{◌≡◌, ◌≢◌, ◌⊎◌, ℕ, ◌+◌, ◌*◌, ◌≤◌, List, ◌∷◌, ◌++◌, true, false, cond, Some, None, length, ◌==◌}
use Rattle.std.specs.List.{AllByRecursion}
use Rattle.lst_layout.specs.declared.limits.Limits.{Limits}
use Rattle.lst_model.specs.declared.acts.Write.{Write}
use Rattle.lst_model.specs.declared.commits.Commit.{Commit}
use Rattle.lst_model.specs.declared.lines.Call.TheVariants.{Begin}
use Rattle.lst_model.specs.declared.replies.Reply.{Reply}
use Rattle.lst_model.specs.declared.replies.Reply.TheVariants.{Refused}
use Rattle.lst_model.specs.declared.replies.Cause.TheVariants.{Spent, TableFull, TailFull}
use Rattle.lst_machine.specs.State.{Accepted, Opened, Store}
use Rattle.lst_machine.specs.Writes.{is_placed, range_of, time_of, own_writes}
use Rattle.lst_machine.specs.Calls.{call_reply}
use Rattle.lst_replay_laws.specs.Again.{call_of, after_begun, commits_by, all_again, placed_by, keys_written, writes_in}

-- the limits have room for commits: for their sessions, the commits of each session, the different keys, and the writes
pub record HasRoomFor (limits : Limits) (commits : List Commit) : Type 0 where
  pub sessions : AllByRecursion (λ (c : Commit). c.session + 1 ≤ limits.sessions) commits
  pub each : (s : ℕ) → commits_by s commits ≤ limits.txns
  pub keys : length (keys_written commits) ≤ 256 * limits.ranges
  pub writes : writes_in commits ≤ limits.tails

-- the same limits, with so many tails in each range
abbrev pub with_tails : Limits → ℕ → Limits
with_tails limits tails = record limits { tails = tails }

-- a session's transaction of this number was committed
abbrev pub IsCommitted : List Commit → ℕ → ℕ → Type 0
IsCommitted history session number = (time : ℕ) × (time_of history session number ≡ Some time)

-- a write that was accepted stands in the range of its key, and is of a transaction that has begun
pub record IsInPlace (keys : List ℕ) (begins : ℕ → ℕ) (range : ℕ) (a : Accepted) : Type 0 where
  pub placed : is_placed keys a.write.key ≡ true
  pub home : range_of keys a.write.key ≡ range
  pub begun : a.number ≤ begins a.session

abbrev pub IsSettled : Store → ℕ → Accepted → Type 0
IsSettled store range a = IsInPlace store.placed store.begins range a × IsCommitted store.history a.session a.number

-- it was committed, or is of the session's last transaction
abbrev pub IsSettledOrOwn : Store → ℕ → ℕ → Accepted → Type 0
IsSettledOrOwn store session range a = IsInPlace store.placed store.begins range a × (IsCommitted store.history a.session a.number ⊎ ((a.session ≡ session) × (a.number ≡ store.begins session)))

-- these commits were run again, and nothing else: no transaction is open, and each accepted write was committed
pub record IsRested (limits : Limits) (commits : List Commit) (store : Store) : Type 0 where
  pub history : store.history ≡ all_again commits
  pub begins : (s : ℕ) → store.begins s ≡ commits_by s commits
  pub opened : (s : ℕ) → store.opened s ≡ None
  pub placed : store.placed ≡ keys_written commits
  pub room : length store.placed ≤ 256 * limits.ranges
  pub accepted : (range : ℕ) → AllByRecursion (IsSettled store range) (store.accepted range)
  pub few : (range : ℕ) → length (store.accepted range) ≤ writes_in commits
  pub sessions : AllByRecursion (λ (c : Commit). c.session + 1 ≤ limits.sessions) commits
  pub each : (s : ℕ) → commits_by s commits ≤ limits.txns

-- a transaction that began at the last of the commits
abbrev pub begun_behind : List Commit → Opened
begun_behind commits = record { begin = length commits; read_only = false }

-- behind these commits, run again, a session's transaction has begun and made these writes
pub record IsUnderWay (limits : Limits) (commits : List Commit) (session : ℕ) (done : List Write) (store : Store) : Type 0 where
  pub history : store.history ≡ all_again commits
  pub begins : (s : ℕ) → store.begins s ≡ commits_by s commits + cond (session == s) 1 0
  pub opened : store.opened session ≡ Some (begun_behind commits)
  pub others : (s : ℕ) → s ≢ session → store.opened s ≡ None
  pub placed : store.placed ≡ placed_by (keys_written commits) done
  pub room : length store.placed ≤ 256 * limits.ranges
  pub own : own_writes limits store session ≡ done
  pub accepted : (range : ℕ) → AllByRecursion (IsSettledOrOwn store session range) (store.accepted range)
  pub few : (range : ℕ) → length (store.accepted range) ≤ writes_in commits + length done
  pub sessions : AllByRecursion (λ (c : Commit). c.session + 1 ≤ limits.sessions) commits
  pub each : (s : ℕ) → commits_by s commits ≤ limits.txns
  pub known : session + 1 ≤ limits.sessions
  pub more : commits_by session commits + 1 ≤ limits.txns

-- ---- limits

-- a table or a range is full
abbrev pub IsFull : Reply → Type 0
IsFull (Refused TableFull) = Unit {0}
IsFull (Refused TailFull) = Unit {0}
IsFull answer = ⊥

-- one of a session's writes, behind those before it, finds the table or its key's range full
pub record FindsFull (limits : Limits) (store : Store) (session : ℕ) (writes : List Write) : Type 0 where
  pub done : List Write
  pub write : Write
  pub rest : List Write
  pub split : writes ≡ done ++ write ∷ rest
  pub full : IsFull (call_reply limits (after_begun limits store session done) session (call_of write))

-- a commit that is run again meets a limit: its session's number, the number of the session's transactions, a full table or a full range
abbrev pub MeetsLimit : Limits → Store → Commit → Type 0
MeetsLimit limits store c = (limits.sessions ≤ c.session) ⊎ ((call_reply limits store c.session Begin ≡ Refused Spent) ⊎ FindsFull limits store c.session c.writes)
