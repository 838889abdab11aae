-- What a disk over a file shows of itself.
use Rattle.std.specs.Prelude.{ℕ, Bool, List, length, take, is_some}
use Rattle.lst_file.specs.Events.{Event, stored, ImageNow, ImageSince}
use Rattle.lst_file.specs.declared.calls.Calls as calls
use Rattle.lst_file.specs.declared.file_disk.FileDisk.{FileDisk}

module _ {F : Type 0} {g : calls.Ghosts F} where
  -- the calls that it made, the newest first
  abbrev pub file_events : FileDisk F g → List Event
  file_events d = g.events d.calls

  -- the place of the file where it begins
  abbrev pub file_offset : FileDisk F g → ℕ
  file_offset d = d.offset

  abbrev pub file_content : FileDisk F g → List ℕ
  file_content d = (stored d.offset (g.events d.calls)).content

  abbrev pub file_images : FileDisk F g → List ℕ → Type 0
  file_images d c = ImageNow d.offset (g.events d.calls) c

  -- the number of calls in its record
  abbrev pub file_clock : FileDisk F g → ℕ
  file_clock d = length (g.events d.calls)

  abbrev pub file_images_since : FileDisk F g → ℕ → List ℕ → Type 0
  file_images_since d t c = ImageSince d.offset (g.events d.calls) t c

  abbrev pub file_faults : FileDisk F g → ℕ
  file_faults d = d.faults

  -- whether a write or a sync has failed: then each later one fails
  abbrev pub file_is_dead : FileDisk F g → Bool
  file_is_dead d = d.dead

  -- whether it still has the copy of its content, which reads are served from
  abbrev pub file_has_copy : FileDisk F g → Bool
  file_has_copy d = is_some d.copy

  -- as far as the old disk goes, a crash leaves what it could leave of that one
  abbrev pub WasImage : FileDisk F g → List ℕ → Type 0
  WasImage old c = file_images old (take (length (file_content old)) c)
