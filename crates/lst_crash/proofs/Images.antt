-- What a crash of a disk in memory leaves, and what an image of zeros stands for.
use Rattle.std.proofs.Common.{◌≡◌, ℕ, zero, suc, Bool, Some, List, [], ◌∷◌, ◌++◌, replicate, refl, arith}
use Rattle.lst_layout.specs.declared.limits.Limits.{Limits}
use Rattle.lst_model.specs.declared.commits.Commit.{Commit}
use Rattle.lst_disk.specs.declared.memory.MemDisk.{MemDisk}
use Rattle.lst_disk.specs.Disk.{LeavesOnly, tears}
use Rattle.lst_disk.specs.Memory.{disk_content, disk_clock, disk_images, disk_images_since, disk_torn, disk_outcome}
use Rattle.lst_disk.specs.MemoryLaws.{content_stays, is_now}
use Rattle.lst_log.specs.Journals.{Ends, StandsFor}
use Rattle.lst_log.specs.Stores.{LastsSince}
use Rattle.lst_replay_laws.specs.Rests.{HasRoomFor}

module _ (old new : MemDisk) where
  -- what a crash leaves now is what it leaves since an earlier moment
  pub left_now : (P : List ℕ → Type 0) → LeavesOnly disk_clock disk_images_since old new P → (image : List ℕ) → disk_images new image → P image
  left_now P run image now = run.each image (is_now new (disk_clock old) image run.later now)

  -- where it leaves just the old content, that is the content still
  pub content_kept : LastsSince disk_content disk_clock disk_images_since old new → disk_content new ≡ disk_content old
  content_kept lasts = lasts.only (disk_content new) (is_now new lasts.moment (disk_content new) lasts.past (content_stays new))

-- ---- zeros

closed : (n : ℕ) → Ends (replicate n 0)
closed zero = tt
closed (suc n) = λ e. omega (arith, e)

none_split : (front rest : List Commit) (c : Commit) → [] ≡ front ++ c ∷ rest → ⊥
none_split [] rest c e = cc
none_split (d ∷ front) rest c e = cc

-- they stand for no commits
pub zeros_stand : (columns size : ℕ) → StandsFor columns (replicate size 0) []
zeros_stand columns size = record {
  lists = record { rest = replicate size 0; whole = refl; ended = closed size; each = tt };
  recovered = λ front c rest split. absurd (none_split front rest c split);
}

-- which need no room
pub none_need_room : (limits : Limits) → HasRoomFor limits []
none_need_room limits = record { sessions = tt; each = λ s. omega arith; keys = omega arith; writes = omega arith }

-- ---- a torn crash

some_torn : (a b : Bool) → Some a ≡ Some b → a ≡ b
some_torn a b e = cc

-- whether it is one stays
pub torn_stays : (old new : MemDisk) → tears (Some (disk_outcome new)) ≡ tears (Some (disk_outcome old)) → disk_torn new ≡ disk_torn old
torn_stays old new e = some_torn (disk_torn new) (disk_torn old) e
