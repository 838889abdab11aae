-- The calls that were made on a file, and what the disk that lies in it from a place on has stored by them.
use Rattle.std.specs.Prelude.{◌⊎◌, ℕ, zero, suc, ◌+◌, ◌-◌, ◌≤◌, Bool, false, not, ◌||◌, List, [], ◌∷◌, ◌++◌, length, slice_index, nat_le, ◌==◌, ◌&&◌, if◌then◌else◌}
use Rattle.lst_disk.specs.Images.{Stored, settled, after_write, IsImage}

-- which call, a place in the file or a number of bytes, and the bytes that were given or found
abbrev pub Event : Type 0
Event = ℕ × ℕ × List ℕ

-- the file was told to have n bytes
abbrev pub measured : ℕ → Event
measured n = (0, n, [])

-- the file and its folder were synced
abbrev pub flushed : Event
flushed = (1, 0, [])

-- these bytes were read from a place on
abbrev pub found : ℕ → List ℕ → Event
found place bytes = (2, place, bytes)

abbrev pub wrote : ℕ → List ℕ → Event
wrote place bytes = (3, place, bytes)

-- a write that failed: anything may stand there
abbrev pub failed : ℕ → List ℕ → Event
failed place bytes = (4, place, bytes)

abbrev pub synced : Event
synced = (5, 0, [])

-- a sync that failed
abbrev pub unsynced : Event
unsynced = (6, 0, [])

-- as a call notes it
abbrev pub event_of : List ℕ → List ℕ → Event
event_of numbers bytes = (slice_index numbers 0, slice_index numbers 1, bytes)

-- a write at a place of the file lies within the disk that begins at `base`
abbrev pub is_within : ℕ → ℕ → List ℕ → Stored → Bool
is_within base place bytes s = nat_le base place && nat_le (place + length bytes) (base + length s.content)

-- bytes were added at the end, and nothing is known of them until the next sync
abbrev pub lengthened : List ℕ → Stored → Stored
lengthened bytes s = record { content = s.content ++ bytes; synced = s.synced ++ bytes; pending = (length s.content, length bytes) ∷ s.pending }

-- Bytes that a call added at the end are a part of the disk, whether or not it failed. No other write reaches beyond the disk.
abbrev pub after_end : ℕ → ℕ → List ℕ → Stored → Stored
after_end base place bytes s = if place == base + length s.content then lengthened bytes s else s

abbrev pub after_call : ℕ → ℕ → ℕ → List ℕ → Stored → Stored
after_call base zero n bytes s = s
after_call base (suc zero) place bytes s = settled s.content
after_call base (suc (suc zero)) place bytes s = settled bytes
after_call base (suc (suc (suc zero))) place bytes s = if is_within base place bytes s then after_write (place - base) bytes s else after_end base place bytes s
after_call base (suc (suc (suc (suc zero)))) place bytes s = if is_within base place bytes s then record s { pending = (place - base, length bytes) ∷ s.pending } else after_end base place bytes s
after_call base (suc (suc (suc (suc (suc zero))))) place bytes s = settled s.content
after_call base (suc (suc (suc (suc (suc (suc more)))))) place bytes s = s

-- what is stored after these calls, of which the newest comes first
abbrev pub stored : ℕ → List Event → Stored
stored base [] = settled []
stored base (e ∷ earlier) = after_call base e.0 e.1 e.2 (stored base earlier)

-- a write or a sync failed since the bytes were read
abbrev pub has_failed : List Event → Bool
has_failed [] = false
has_failed (e ∷ earlier) = not (e.0 == 2) && ((e.0 == 4) || (e.0 == 6) || has_failed earlier)

-- what a crash may leave now
abbrev pub ImageNow : ℕ → List Event → List ℕ → Type 0
ImageNow base events c = IsImage (stored base events).synced (stored base events).pending c

-- what a crash at some moment since the first t calls may have left
abbrev pub ImageSince : ℕ → List Event → ℕ → List ℕ → Type 0
ImageSince base [] t c = ImageNow base [] c
ImageSince base (e ∷ earlier) t c = ImageNow base (e ∷ earlier) c ⊎ ((t ≤ length earlier) × ImageSince base earlier t c)
