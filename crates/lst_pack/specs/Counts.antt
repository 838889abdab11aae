-- What a look at the values finds: how many runs they have, and their distinct values.
use Rattle.std.specs.Prelude.{◌≡◌, ℕ, zero, suc, ◌+◌, ◌-◌, ◌*◌, ◌<◌, ◌≤◌, ◌⊎◌, List, slice_index, nat_eq, if◌then◌else◌}
use Rattle.lst_pack.specs.Forms.{run_value, run_end}

-- 1 where a run begins at the place: it is the first, or the value before it is another
unfoldable pub begins : List ℕ → ℕ → ℕ
begins values place = if nat_eq place 0 then 1 else (if nat_eq (slice_index values place) (slice_index values (place - 1)) then 0 else 1)

-- how many runs begin below the place
unfoldable pub runs_below : List ℕ → ℕ → ℕ
runs_below values zero = 0
runs_below values (suc place) = runs_below values place + begins values place

-- the value is among the first `count` known ones
abbrev pub IsKnown : List ℕ → ℕ → ℕ → Type 0
IsKnown known count value = (code : ℕ) × (code < count) × (slice_index known code ≡ value)

-- the value stands below the place
abbrev pub StandsBelow : List ℕ → ℕ → ℕ → Type 0
StandsBelow values place value = (before : ℕ) × (before < place) × (slice_index values before ≡ value)

-- the first `count` numbers rise
abbrev pub Rises : List ℕ → ℕ → Type 0
Rises known count = (code next : ℕ) → code < next → next < count → slice_index known code < slice_index known next

-- the known values rise, and are those that stand below the place: all of them, or more than 16
pub record AreKnown (values : List ℕ) (place : ℕ) (known : List ℕ) (count : ℕ) : Type 0 where
  pub few : count ≤ 17
  pub rising : Rises known count
  pub standing : (code : ℕ) → code < count → StandsBelow values place (slice_index known code)
  pub all : count ≤ 16 → (before : ℕ) → before < place → IsKnown known count (slice_index values before)

-- each value at a spot is among the first `count` known ones
abbrev pub AreRecent : List ℕ → ℕ → List ℕ → Type 0
AreRecent known count recent = (spot : ℕ) → spot < 128 → IsKnown known count (slice_index recent spot)

-- the value is within those that stand below the place: one of them is as small, or as great, and none is beyond
pub record IsLeast (values : List ℕ) (place least : ℕ) : Type 0 where
  pub stands : StandsBelow values place least
  pub bound : (before : ℕ) → before < place → least ≤ slice_index values before

pub record IsGreatest (values : List ℕ) (place greatest : ℕ) : Type 0 where
  pub stands : StandsBelow values place greatest
  pub bound : (before : ℕ) → before < place → slice_index values before ≤ greatest

-- the value is this one, or among the first `count` known ones
abbrev pub IsNew : List ℕ → ℕ → ℕ → ℕ → Type 0
IsNew known count value other = (other ≡ value) ⊎ IsKnown known count other

-- so many of the first `count` known values are below this one
pub record IsPlace (known : List ℕ) (count value place : ℕ) : Type 0 where
  pub within : place ≤ count
  pub below : (code : ℕ) → code < place → slice_index known code < value
  pub from : (code : ℕ) → place ≤ code → code < count → value ≤ slice_index known code

-- `later` is `words` with one more run, of the value before this place, up to the place
pub record AddsRun (values words later : List ℕ) (runs place : ℕ) : Type 0 where
  pub same : (word : ℕ) → word ≤ 2 * runs → slice_index later word ≡ slice_index words word
  pub value : run_value later runs ≡ slice_index values (place - 1)
  pub end : run_end later runs ≡ place
