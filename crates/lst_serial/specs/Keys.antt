-- Sets of keys.
use Rattle.std.specs.Prelude.{◌≡◌, ◌≢◌, ℕ, List, ◌++◌, Bool, true}
use Rattle.std.specs.List.{list_any}
use Rattle.std.specs.BTreeMap.{is_at}
use Rattle.std.specs.Ordering.{nat_cmp}
use Rattle.lst_serial.specs.declared.keys.KeySet.{KeySet}

-- the few keys that were added first, and the others
abbrev pub members : KeySet → List ℕ
members set = set.few.items ++ set.keys.keys

-- whether the set has the key
abbrev pub has : KeySet → ℕ → Bool
has set key = list_any (is_at (nat_cmp key)) (members set)

-- the key was added, and nothing else changed
pub record Joins (old new : KeySet) (key : ℕ) : Type 0 where
  pub here : has new key ≡ true
  pub others : (other : ℕ) → other ≢ key → has new other ≡ has old other

-- the same keys
abbrev pub SameKeys : KeySet → KeySet → Type 0
SameKeys old new = (key : ℕ) → has new key ≡ has old key
