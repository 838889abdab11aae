-- An input that is read to its end or up to a limit.
use Rattle.std.specs.Prelude.{◌≡◌, ℕ, ◌+◌, ◌≤◌, ◌<◌, List, length, Option, Result, Ok, Err}
use Rattle.std.specs.Io.KnownBytes.{Consumes, IsAtEnd}
use Rattle.lst_io.specs.declared.whole.ReadAllFault.{ReadAllFault}
use Rattle.lst_io.specs.declared.whole.ReadAllFault.TheVariants.{Failed, TooLong, OutOfMemory}

-- these bytes are all that was left, and no more than the limit
pub record IsWholeInput (limit : ℕ) (old new : Option (List ℕ)) (bytes : List ℕ) : Type 0 where
  pub consumed : Consumes old new bytes
  pub ended : IsAtEnd new
  pub few : length bytes ≤ limit

-- at most as many bytes as the limit were read
pub record ReadsWithin (limit : ℕ) (old new : Option (List ℕ)) : Type 0 where
  pub bytes : List ℕ
  pub consumed : Consumes old new bytes
  pub few : length bytes ≤ limit

-- exactly one byte more than the limit was read
pub record ReadsBeyond (limit : ℕ) (old new : Option (List ℕ)) : Type 0 where
  pub bytes : List ℕ
  pub consumed : Consumes old new bytes
  pub many : length bytes ≡ limit + 1

-- how much was read where a whole input was not
abbrev pub StopsAt : ReadAllFault → ℕ → Option (List ℕ) → Option (List ℕ) → Type 0
StopsAt Failed limit old new = ReadsWithin limit old new
StopsAt TooLong limit old new = ReadsBeyond limit old new
StopsAt OutOfMemory limit old new = ReadsWithin limit old new

-- what an answer says of the bytes that a source tells: Ok has them all, and only as many as the limit; TooLong means more
abbrev pub IsDue : ℕ → List ℕ → Result (List ℕ) ReadAllFault → Type 0
IsDue limit bytes (Ok text) = (text ≡ bytes) × (length bytes ≤ limit)
IsDue limit bytes (Err Failed) = Unit {0}
IsDue limit bytes (Err TooLong) = limit < length bytes
IsDue limit bytes (Err OutOfMemory) = Unit {0}
