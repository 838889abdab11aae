-- What a disk has stored, by a record of its calls, and what a crash may make of it.
use Rattle.std.specs.Prelude.{◌≡◌, ◌⊎◌, ℕ, ◌+◌, ◌≤◌, ◌<◌, Bool, true, ◌&&◌, nat_le, List, [], ◌∷◌, length, get_or, take, drop}
use Rattle.lst_disk.specs.Disk.{overwritten, Torn}
use Rattle.lst_disk.specs.declared.parts.Entry.{Entry}
use Rattle.lst_disk.specs.declared.parts.Entry.TheVariants.{Wrote, Synced}

-- the content, the content of the last sync, and the ranges that were written since, the newest first
pub record Stored : Type 0 where
  pub content : List ℕ
  pub synced : List ℕ
  pub pending : List (ℕ × ℕ)

-- nothing is pending
abbrev pub settled : List ℕ → Stored
settled content = record { content = content; synced = content; pending = [] }

abbrev pub after_write : ℕ → List ℕ → Stored → Stored
after_write at bytes s = record { content = overwritten s.content at bytes; synced = s.synced; pending = (at, length bytes) ∷ s.pending }

-- what is stored after the calls of a record, whose pieces stand in one list
abbrev pub replayed : Stored → List Entry → List ℕ → Stored
replayed s [] pieces = s
replayed s (Wrote at n ∷ entries) pieces = replayed (after_write at (take n pieces) s) entries (drop n pieces)
replayed s (Synced ∷ entries) pieces = replayed (settled s.content) entries pieces

-- how many bytes the pieces of a record have
abbrev pub bytes_of : List Entry → ℕ
bytes_of [] = 0
bytes_of (Wrote at n ∷ entries) = n + bytes_of entries
bytes_of (Synced ∷ entries) = bytes_of entries

-- each write of a record is within a size
abbrev pub are_within : ℕ → List Entry → Bool
are_within size [] = true
are_within size (Wrote at n ∷ entries) = nat_le (at + n) size && are_within size entries
are_within size (Synced ∷ entries) = are_within size entries

-- each pending range may have become anything
abbrev pub IsImage : List ℕ → List (ℕ × ℕ) → List ℕ → Type 0
IsImage synced [] c = c ≡ synced
IsImage synced (range ∷ earlier) c = (d : List ℕ) × IsImage synced earlier d × Torn range.0 range.1 d c

-- what a crash may leave after the first k calls
abbrev pub ImageAt : List ℕ → List Entry → List ℕ → ℕ → List ℕ → Type 0
ImageAt start entries pieces k c =
    let s = replayed (settled start) (take k entries) pieces in IsImage s.synced s.pending c

-- what a crash at some moment since the first t calls may have left
abbrev pub ImageSince : List ℕ → List Entry → List ℕ → ℕ → List ℕ → Type 0
ImageSince start entries pieces t c = (k : ℕ) × (t ≤ k) × (k ≤ length entries) × ImageAt start entries pieces k c

-- a place is in one of these ranges
abbrev pub InSome : List (ℕ × ℕ) → ℕ → Type 0
InSome [] place = ⊥
InSome (range ∷ others) place = ((range.0 ≤ place) × (place < range.0 + range.1)) ⊎ InSome others place

-- a content differs from another in these ranges alone
pub record DiffersWithin (ranges : List (ℕ × ℕ)) (old new : List ℕ) : Type 0 where
  pub size : length new ≡ length old
  pub elsewhere : (place : ℕ) → ¬ InSome ranges place → get_or new place 0 ≡ get_or old place 0
