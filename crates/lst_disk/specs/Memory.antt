-- What a disk in memory shows of itself.
use Rattle.std.specs.Prelude.{◌≡◌, ◌↔◌, ℕ, ◌-◌, Bool, List, length, vec_capacity}
use Rattle.lst_disk.specs.Disk.{CrashOutcome}
use Rattle.lst_disk.specs.Images.{settled, replayed, ImageAt, ImageSince, DiffersWithin}
use Rattle.lst_disk.specs.declared.memory.MemDisk.{MemDisk}

abbrev pub disk_content : MemDisk → List ℕ
disk_content m = m.content.items

-- the bytes of the last sync
abbrev pub disk_synced : MemDisk → List ℕ
disk_synced m = m.synced.items

-- whether a crash leaves all that was written, and not only what was synced
abbrev pub disk_torn : MemDisk → Bool
disk_torn m = m.torn

-- how its crash turns out
abbrev pub disk_outcome : MemDisk → CrashOutcome
disk_outcome m = record { synced = disk_synced m; torn = disk_torn m }

-- how many writes and syncs it will still make
abbrev pub disk_left : MemDisk → ℕ
disk_left m = m.left

abbrev pub disk_faults : MemDisk → ℕ
disk_faults m = m.faults

-- the number of calls in its record
abbrev pub disk_clock : MemDisk → ℕ
disk_clock m = length m.entries.items

abbrev pub disk_images : MemDisk → List ℕ → Type 0
disk_images m c = ImageAt m.start.items m.entries.items m.pieces.items (length m.entries.items) c

abbrev pub disk_images_since : MemDisk → ℕ → List ℕ → Type 0
disk_images_since m t c = ImageSince m.start.items m.entries.items m.pieces.items t c

-- the room that its record has left
abbrev pub disk_room_calls : MemDisk → ℕ
disk_room_calls m = vec_capacity m.entries - length m.entries.items

abbrev pub disk_room_bytes : MemDisk → ℕ
disk_room_bytes m = vec_capacity m.pieces - length m.pieces.items

-- the ranges that were written since the last sync, the newest first
abbrev pub disk_pending : MemDisk → List (ℕ × ℕ)
disk_pending m = (replayed (settled m.start.items) m.entries.items m.pieces.items).pending

-- all but the count of faults is as it was
pub record Stays (old new : MemDisk) : Type 0 where
  pub content : disk_content new ≡ disk_content old
  pub synced : disk_synced new ≡ disk_synced old
  pub start : new.start ≡ old.start
  pub entries : new.entries ≡ old.entries
  pub pieces : new.pieces ≡ old.pieces
  pub left : disk_left new ≡ disk_left old
  pub torn : disk_torn new ≡ disk_torn old

-- an image is exactly what differs from the content of the last sync in pending ranges alone
abbrev pub ImagesDifferInPending : Type 0
ImagesDifferInPending = (m : MemDisk) (c : List ℕ) → disk_images m c ↔ DiffersWithin (disk_pending m) (disk_synced m) c
