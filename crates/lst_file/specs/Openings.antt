-- The calls by which a file is opened as a disk.
use Rattle.std.specs.Prelude.{◌≡◌, ◌⊎◌, ℕ, ◌+◌, ◌-◌, ◌<◌, ◌≤◌, nat_lt, List, ◌∷◌, ◌++◌, length, replicate, if◌then◌else◌}
use Rattle.lst_file.specs.Events.{Event, measured, flushed, found, wrote, failed, synced, unsynced}
use Rattle.lst_file.specs.declared.opening.OpenFault.{OpenFault}
use Rattle.lst_file.specs.declared.opening.OpenFault.TheVariants as fault

-- the zeros that make these bytes as many as `size`
abbrev pub zeros_behind : ℕ → List ℕ → List ℕ
zeros_behind size bytes = replicate (size - length bytes) 0

-- It was measured, flushed and read from the offset on, and these bytes were found.
abbrev pub read_calls : ℕ → List ℕ → List Event → List Event
read_calls offset bytes before = found offset bytes ∷ flushed ∷ measured (offset + length bytes) ∷ before

-- Where these bytes are too few, zeros were written behind them, and synced.
abbrev pub opening_calls : ℕ → ℕ → List ℕ → List Event → List Event
opening_calls offset size bytes before =
    if nat_lt (length bytes) size then synced ∷ wrote (offset + length bytes) (zeros_behind size bytes) ∷ read_calls offset bytes before else read_calls offset bytes before

-- A disk was opened by these calls and no other, and has what was found, with zeros behind it up to its size.
abbrev pub WasOpened : ℕ → ℕ → List Event → List Event → List ℕ → Type 0
WasOpened offset size before after content =
    (bytes : List ℕ) × (content ≡ bytes ++ zeros_behind size bytes) × (after ≡ opening_calls offset size bytes before)

-- what had been called when an opening was refused for this fault
abbrev pub Refused : ℕ → ℕ → List Event → List Event → OpenFault → Type 0
Refused offset size before after (fault.Measure error) = after ≡ before
Refused offset size before after fault.ShorterThanHead = (n : ℕ) × (n < offset) × (after ≡ measured n ∷ before)
Refused offset size before after fault.OutOfMemory = (n : ℕ) × (offset ≤ n) × (after ≡ measured n ∷ before)
Refused offset size before after (fault.Read error) = (n : ℕ) × (offset ≤ n) × (after ≡ flushed ∷ measured n ∷ before)
Refused offset size before after (fault.Write error) =
    (bytes : List ℕ) × (length bytes < size) × (after ≡ failed (offset + length bytes) (zeros_behind size bytes) ∷ read_calls offset bytes before)
Refused offset size before after (fault.Sync error) =
    ((n : ℕ) × (offset ≤ n) × (after ≡ unsynced ∷ measured n ∷ before))
    ⊎ ((bytes : List ℕ) × (length bytes < size) × (after ≡ unsynced ∷ wrote (offset + length bytes) (zeros_behind size bytes) ∷ read_calls offset bytes before))
Refused offset size before after fault.Busy = ⊥
Refused offset size before after fault.NotOneFile = ⊥
Refused offset size before after (fault.System error) = ⊥
