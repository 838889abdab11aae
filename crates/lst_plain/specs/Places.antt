-- The map from keys to the places of their records.
use Rattle.std.specs.Prelude.{◌≡◌, ℕ, List}
use Rattle.std.specs.Ordering.{nat_cmp}
use Rattle.std.specs.BTreeMap.{BTreeMap, get}
use Rattle.lst_machine.specs.Writes.{place_of}
use Rattle.lst_plain.specs.Rows.{Kept, keys_of}

abbrev pub IsIndexed : BTreeMap ℕ ℕ → List Kept → Type 0
IsIndexed places records = (key : ℕ) → get nat_cmp places key ≡ place_of (keys_of records) key
