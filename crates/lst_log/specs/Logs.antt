-- A log over a disk: what it stands for, and that all of it lasts.
use Rattle.std.specs.Prelude.{◌≡◌, ℕ, ◌+◌, ◌<◌, ◌≤◌, List, [], ◌∷◌, ◌++◌, length, cond, nat_lt, Option, IfSome, Result, Err, OnOk}
use Rattle.lst_model.specs.declared.commits.Commit.{Commit}
use Rattle.lst_model.specs.Faults.{Rose}
use Rattle.lst_disk.specs.Disk.{CrashOutcome, overwritten, Only, LeavesOnly, tears}
use Rattle.lst_log.specs.Format.{journal, IsBatchOf}
use Rattle.lst_log.specs.Journals.{AllMayFollow, StandsFor, StandsForOrAll}
use Rattle.lst_log.specs.Stores.{CountsCalls}
use Rattle.lst_log.specs.declared.log.AppendFault.{AppendFault}
use Rattle.lst_log.specs.declared.log.AppendFault.TheVariants.{Disk, JournalFull, OutOfMemory}
use Rattle.lst_log.specs.declared.log.Log.{Log}

-- the content stands for these commits, their records end where the log says, and a crash leaves just the content
pub record Keeps {D : Type 0} (content : D → List ℕ) (images : D → List ℕ → Type 0) (commits : List Commit) (log : Log D) : Type 0 where
  pub stands : StandsFor log.columns (content log.disk) commits
  pub end : log.end ≡ length (journal log.columns commits)
  pub lasts : Only (content log.disk) (images log.disk)

-- it stands for some commits
abbrev pub IsOpen : {D : Type 0} → (D → List ℕ) → (D → List ℕ → Type 0) → Log D → Type 0
IsOpen content images log = (commits : List Commit) × Keeps content images commits log

-- a disk had fewer than the four calls left that commits take: with three left what is written stands for them too, with fewer for those so far; and what is
-- synced stands for those so far
pub record StopsShort (columns : ℕ) (so_far more : List Commit) (left : ℕ) (content : List ℕ) (outcome : CrashOutcome) : Type 0 where
  pub few : left < 4
  pub written : StandsFor columns content (cond (nat_lt left 3) so_far (so_far ++ more))
  pub synced : StandsFor columns outcome.synced so_far

-- where it tells how many it will make, and how a crash turns out
abbrev pub StopsSo : ℕ → List Commit → List Commit → Option ℕ → List ℕ → Option CrashOutcome → Type 0
StopsSo columns so_far more calls content outcome = IfSome calls (λ left. IfSome outcome (StopsShort columns so_far more left content))

-- commits were appended where there is room for them, with four calls of the disk: all of them are kept, or memory was wanting before the first call, or the
-- disk failed; a crash at any moment leaves all of them or none
pub record Appends {D : Type 0} (content : D → List ℕ) (images : D → List ℕ → Type 0) (clock : D → ℕ) (images_since : D → ℕ → List ℕ → Type 0) (calls_left : D → Option ℕ) (outcome : D → Option CrashOutcome) (faults : D → ℕ)
    (old new : Log D) (commits : List Commit) (result : Result Unit AppendFault) : Type 0 where
  pub kept : (so_far : List Commit) → Keeps content images so_far old → AllMayFollow so_far commits → OnOk result (Keeps content images (so_far ++ commits) new)
  pub any_moment : (so_far : List Commit) → Keeps content images so_far old → AllMayFollow so_far commits → LeavesOnly clock images_since old.disk new.disk (StandsForOrAll old.columns so_far commits)
  pub written : OnOk result (content new.disk ≡ overwritten (content old.disk) old.end (journal old.columns commits ++ 0 ∷ []))
  pub never : ¬ (result ≡ Err JournalFull)
  pub memory : result ≡ Err OutOfMemory → (so_far : List Commit) → Keeps content images so_far old → Keeps content images so_far new
  pub unspent : result ≡ Err OutOfMemory → (content new.disk ≡ content old.disk) × (calls_left new.disk ≡ calls_left old.disk) × (faults new.disk ≡ faults old.disk)
  pub rises : faults old.disk ≤ faults new.disk
  pub fault : result ≡ Err Disk → Rose (faults old.disk) (faults new.disk)
  pub left : ¬ (result ≡ Err OutOfMemory) → CountsCalls 4 (calls_left old.disk) (calls_left new.disk) result
  pub stopped : result ≡ Err Disk → (so_far : List Commit) → Keeps content images so_far old → AllMayFollow so_far commits → StopsSo old.columns so_far commits (calls_left old.disk) (content new.disk) (outcome new.disk)
  pub torn : tears (outcome new.disk) ≡ tears (outcome old.disk)
  pub columns : new.columns ≡ old.columns

-- a batch of some commits is staged: it has room on the disk where the records end, with a byte behind it, and in the disk's own record
pub record AreStaged {D : Type 0} (content : D → List ℕ) (room_calls room_bytes : D → ℕ) (commits : List Commit) (batch : List ℕ) (log : Log D) : Type 0 where
  pub is_batch : IsBatchOf log.columns commits batch
  pub ready : 0 < length batch → (log.end + length batch + 1 ≤ length (content log.disk)) × (4 ≤ room_calls log.disk) × (length batch + 1 ≤ room_bytes log.disk)

-- a disk made no write and no sync, but room in its own record: a crash since then leaves what it could leave before
pub record MakesRoom {D : Type 0} (content : D → List ℕ) (images : D → List ℕ → Type 0) (clock : D → ℕ) (images_since : D → ℕ → List ℕ → Type 0) (calls_left : D → Option ℕ) (faults : D → ℕ) (old new : D) : Type 0 where
  pub same : content new ≡ content old
  pub fewer : (c : List ℕ) → images new c → images old c
  pub run : LeavesOnly clock images_since old new (images old)
  pub left : calls_left new ≡ calls_left old
  pub unfailed : faults new ≡ faults old
