-- What the calls of the bank leave of a session: which commits it has made more, and what its open transaction has written.
use Rattle.std.specs.Prelude.{◌≡◌, ℕ, ◌<◌, ◌≤◌, List, [], ◌++◌, true, length, slice_index_or}
use Rattle.std.specs.List.{All, AllByRecursion}
use Rattle.lst_model.specs.declared.acts.Write.{Write}
use Rattle.lst_model.specs.declared.commits.Commit.{Commit}
use Rattle.lst_model.specs.Histories.{Extends, table_at}
use Rattle.lst_core_state.specs.Writes.{commit}
use Rattle.lst_core_state.specs.State.{mine}
use Rattle.lst_rule.specs.declared.store.Store.{Store}
use Rattle.lst_refinement.specs.Effects.{SameTransactions}
use Rattle.lst_session.specs.Parting.{known_by, IsAlone, IsMergerOf, seen_at}
use Rattle.lst_session.specs.Passes.{IsReady}
use Rattle.lst_session.specs.declared.passes.Merger.{Merger}
use Rattle.lst_session.specs.declared.session.Session.{Session}
use Rattle.lst_accounts.specs.declared.transfer.Transfer.{Transfer}
use Rattle.lst_accounts.specs.Books.{Transfers, balances_at}
use Rattle.lst_embedded.specs.declared.audits.Audit.{Audit}

-- the store has rows of one column, at least one range, and four sessions
pub record IsBank (store : Store) : Type 0 where
  pub columns : store.layout.limits.columns ≡ 1
  pub ranges : 0 < store.layout.limits.ranges
  pub sessions : store.layout.limits.sessions ≡ 4

-- the session has these commits more, and has seen no less. It has its number, and its seat hosts whom it hosted
pub record HasAdded (old new : Session) (more : List Commit) : Type 0 where
  pub number : new.number ≡ old.number
  pub hosted : new.seat.view.hosts ≡ old.seat.view.hosts
  pub seen : Extends (known_by new).seen (known_by old).seen
  pub mine : mine old.number (known_by new) ≡ mine old.number (known_by old) ++ more

-- so many commits more, each of the kind
pub record HasMade (P : List Commit → Commit → Type 0) (old new : Session) (n : ℕ) : Type 0 where
  pub more : List Commit
  pub added : HasAdded old new more
  pub count : length more ≡ n
  pub each : AllByRecursion (P (known_by new).seen) more

-- ---- an open transaction

-- a transaction was begun, and has no writes. Its begin was seen
pub record HasStarted (old new : Session) : Type 0 where
  pub added : HasAdded old new []
  pub opened : (known_by new).is_open ≡ true
  pub own : (known_by new).own ≡ []
  pub early : (known_by new).begin ≤ length (known_by new).seen

-- the transaction goes on, with these writes
pub record GoesOn (old new : Session) (own : List Write) : Type 0 where
  pub added : HasAdded old new []
  pub transaction : SameTransactions (known_by old) (known_by new)
  pub own_is : (known_by new).own ≡ own

-- and they make a transfer between accounts that it sees
pub record HasMoved (old new : Session) (transfer : Transfer) : Type 0 where
  pub own : List Write
  pub goes : GoesOn old new own
  pub is : Transfers (table_at (known_by old).seen (known_by old).begin) transfer own

-- the commit that the open transaction would be
abbrev pub commit_of : Session → Commit
commit_of session = let k = known_by session in commit session.number k.number k.begin k.own

-- ---- one transaction after another

-- so many commits more, each of the kind, and the session's calls may go on
pub record HasDone (store : Store) (P : List Commit → Commit → Type 0) (old new : Session) (n : ℕ) : Type 0 where
  pub ready : IsReady store new
  pub made : HasMade P old new n

-- ---- auditors

-- each of the sessions has seen no less, and committed nothing
pub record HaveLooked (old new : List Session) : Type 0 where
  pub count : length new ≡ length old
  pub each : (i : ℕ) (none : Session) → i < length old → HasAdded (slice_index_or old i none) (slice_index_or new i none) []

-- two sessions, of which the first has a seat of its own
pub record AreAuditors (store : Store) (sessions : List Session) : Type 0 where
  pub count : length sessions ≡ 2
  pub ready : All (IsReady store) sessions
  pub alone : (none : Session) → IsAlone (slice_index_or sessions 0 none)

-- the audit read all balances as of a time that was seen
pub record IsRead (seen : List Commit) (audit : Audit) : Type 0 where
  pub early : audit.time ≤ length seen
  pub is : audit.total ≡ balances_at seen audit.time

-- so many audits, each read off what the first auditor has seen
pub record HaveAudited (store : Store) (old new : List Session) (merger : Merger) (audits : List Audit) (n : ℕ) : Type 0 where
  pub auditors : AreAuditors store new
  pub looked : HaveLooked old new
  pub merger_of : IsMergerOf store merger
  pub count : length audits ≡ n
  pub each : (none : Session) → AllByRecursion (IsRead (seen_at new 0 none)) audits
