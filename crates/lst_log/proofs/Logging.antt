-- What an append is answered, and the place of a batch.
use Rattle.std.proofs.Common.{◌≡◌, ℕ, ◌+◌, ◌≤◌, List, [], ◌∷◌, length, inl, sym, ap, subst, arith, length-append}
use Rattle.std.specs.Prelude.{Result, Err}
use Rattle.lst_model.specs.declared.commits.Commit.{Commit}
use Rattle.lst_disk.specs.Disk.{LeavesOnly}
use Rattle.lst_log.specs.Format.{journal}
use Rattle.lst_log.specs.Journals.{StandsFor, StandsForOrAll}
use Rattle.lst_log.specs.Logs.{Keeps, AreStaged}
use Rattle.lst_log.specs.declared.log.Log.{Log}
use Rattle.lst_log.specs.declared.log.AppendFault.{AppendFault}
use Rattle.lst_log.specs.declared.log.AppendFault.TheVariants.{Disk, JournalFull, OutOfMemory}
use Rattle.lst_log.specs.declared.log.StageFault.{StageFault}
use Rattle.lst_log.specs.declared.log.StageFault.TheVariants as stage
use Rattle.lst_log.proofs.Moments.{started}

-- an answer is one thing and no other
pub memory_full : (r : Result Unit AppendFault) → r ≡ Err OutOfMemory → ¬ (r ≡ Err JournalFull)
memory_full r is same = cc

pub memory_disk : (r : Result Unit AppendFault) → r ≡ Err OutOfMemory → ¬ (r ≡ Err Disk)
memory_disk r is same = cc

module _ {D : Type 0} (content : D → List ℕ) (images : D → List ℕ → Type 0) (log : Log D) (commits : List Commit) (keeps : Keeps content images commits log) where
  module _ (more : List Commit) (clock : D → ℕ) (images_since : D → ℕ → List ℕ → Type 0) (only_now : (c : List ℕ) → images_since log.disk (clock log.disk) c → images log.disk c) where
    here : (image : List ℕ) → images log.disk image → StandsForOrAll log.columns commits more image
    here image left = inl (subst (λ (bytes : List ℕ). StandsFor log.columns bytes commits) (sym (keeps.lasts image left)) keeps.stands)

    -- nothing was done yet
    pub at_start : LeavesOnly clock images_since log.disk log.disk (StandsForOrAll log.columns commits more)
    at_start = started clock images_since log.disk (StandsForOrAll log.columns commits more) (λ image left. here image (only_now image left))

pub memory_no_room : (r : Result Unit StageFault) → r ≡ Err stage.OutOfMemory → ¬ (r ≡ Err stage.JournalFull)
memory_no_room r is same = cc

-- ---- a batch

module _ {D : Type 0} (content : D → List ℕ) (images : D → List ℕ → Type 0) (log : Log D) (so_far : List Commit) (keeps : Keeps content images so_far log) where
  -- the records end within the disk
  pub end_within : log.end ≤ length (content log.disk)
  end_within = omega (arith, keeps.end, ap length keeps.stands.lists.whole, length-append (journal log.columns so_far) keeps.stands.lists.rest)

  pub batch_within : (room_calls room_bytes : D → ℕ) (commits : List Commit) (batch : List ℕ) → AreStaged content room_calls room_bytes commits batch log → log.end + length batch ≤ length (content log.disk)
  batch_within room_calls room_bytes commits [] staged = omega (arith, end_within)
  batch_within room_calls room_bytes commits (b ∷ batch) staged = omega (arith, (staged.ready (omega arith)).0)
