-- The versions of all keys as bytes.
use Rattle.std.specs.Prelude.{◌≡◌, ℕ, ◌+◌, ◌-◌, ◌*◌, ◌/◌, ◌%◌, ◌^◌, ◌<◌, ◌≤◌, List, [], ◌∷◌, ◌++◌, length, map, replicate, Bool, true, false, cond, Option, Some, None, is_none, nat_lt, ◌==◌}
use Rattle.std.specs.List.{AllByRecursion}
use Rattle.lst_model.specs.declared.acts.Act.{Act}
use Rattle.lst_model.specs.declared.acts.Act.TheVariants.{Put, Set, Del}
use Rattle.lst_model.specs.declared.acts.Write.{Write}
use Rattle.lst_model.specs.declared.commits.Commit.{Commit}
use Rattle.lst_model.specs.Cells.{Cell, number_of}
use Rattle.lst_snapshots.specs.declared.versions.Version.{Version}
use Rattle.lst_snapshots.specs.Versions.{versions_on}
use Rattle.lst_historic.specs.Numbers.{spelled}

-- a key and its versions, by rising time
pub record Chain : Type 0 where
  pub key : ℕ
  pub versions : List Version

-- ---- a row, written as what differs from the row before

-- the row that a version is compared with: none counts as a row of numbers 0
abbrev pub base_of : ℕ → Option (List Cell) → List Cell
base_of columns None = replicate columns (Some 0)
base_of columns (Some row) = row

abbrev pub are_same : Cell → Cell → Bool
are_same None None = true
are_same None (Some new) = false
are_same (Some old) None = false
are_same (Some old) (Some new) = old == new

-- the bits of the columns whose cell differs
abbrev pub changed_bits : List Cell → List Cell → ℕ
changed_bits [] news = 0
changed_bits (old ∷ olds) [] = 0
changed_bits (old ∷ olds) (new ∷ news) = cond (are_same old new) 0 1 + 2 * changed_bits olds news

-- the bits of those of them that are null now
abbrev pub emptied_bits : List Cell → List Cell → ℕ
emptied_bits [] news = 0
emptied_bits (old ∷ olds) [] = 0
emptied_bits (old ∷ olds) (new ∷ news) = cond (are_same old new) 0 (cond (is_none new) 1 0) + 2 * emptied_bits olds news

-- the difference of two numbers modulo 2^64, small ones near 0 on both sides
abbrev pub difference : ℕ → ℕ → ℕ
difference old new = (new + (2 ^ 64 - old)) % 2 ^ 64

abbrev pub code_of : ℕ → ℕ
code_of d = cond (nat_lt d (2 ^ 63)) (2 * d) (2 * (2 ^ 64 - d) - 1)

-- what is written of a cell that differs: nothing where it is null now
abbrev pub cell_text : Cell → Cell → List ℕ
cell_text old None = []
cell_text old (Some new) = spelled (code_of (difference (number_of old) new))

abbrev pub differences : List Cell → List Cell → List ℕ
differences [] news = []
differences (old ∷ olds) [] = []
differences (old ∷ olds) (new ∷ news) = cond (are_same old new) [] (cell_text old new) ++ differences olds news

abbrev pub tag_of : List Cell → List Cell → ℕ
tag_of base row = 1 + changed_bits base row + 256 * emptied_bits base row

abbrev pub row_text : List Cell → Option (List Cell) → List ℕ
row_text base None = spelled 0
row_text base (Some row) = spelled (tag_of base row) ++ differences base row

-- ---- versions, keys and the block

-- versions behind a time and a row
abbrev pub versions_text : ℕ → ℕ → Option (List Cell) → List Version → List ℕ
versions_text columns time row [] = []
versions_text columns time row (version ∷ versions) = spelled (version.time - time) ++ (row_text (base_of columns row) version.row ++ versions_text columns version.time version.row versions)

-- all of a key
abbrev pub chain_text : ℕ → List Version → List ℕ
chain_text columns versions = spelled (length versions) ++ versions_text columns 0 None versions

-- keys behind a key
abbrev pub chains_text : ℕ → ℕ → List Chain → List ℕ
chains_text columns key [] = []
chains_text columns key (chain ∷ chains) = spelled (chain.key - key) ++ (chain_text columns chain.versions ++ chains_text columns chain.key chains)

abbrev pub block_text : ℕ → ℕ → List Chain → List ℕ
block_text columns until chains = spelled columns ++ (spelled until ++ (spelled (length chains) ++ chains_text columns 0 chains))

-- ---- what has a block

abbrev pub CellFits : Cell → Type 0
CellFits cell = number_of cell < 2 ^ 64

abbrev pub RowFits : ℕ → Option (List Cell) → Type 0
RowFits columns None = Unit {0}
RowFits columns (Some row) = (length row ≡ columns) × AllByRecursion CellFits row

-- times rise from above this one up to the built time
abbrev pub AreVersions : ℕ → ℕ → ℕ → List Version → Type 0
AreVersions columns until time [] = Unit {0}
AreVersions columns until time (version ∷ versions) = (time < version.time) × (version.time ≤ until) × RowFits columns version.row × AreVersions columns until version.time versions

-- keys rise from this one on, and each has a version
abbrev pub AreChains : ℕ → ℕ → ℕ → List Chain → Type 0
AreChains columns until least [] = Unit {0}
AreChains columns until least (chain ∷ chains) = (least ≤ chain.key) × (chain.key < 2 ^ 64) × (0 < length chain.versions) × (length chain.versions < 2 ^ 64) × AreVersions columns until 0 chain.versions × AreChains columns until (chain.key + 1) chains

pub record IsBlock (bytes : List ℕ) (columns until : ℕ) (chains : List Chain) : Type 0 where
  pub some : 1 ≤ columns
  pub few : columns ≤ 8
  pub built : until < 2 ^ 64
  pub count : length chains < 2 ^ 64
  pub keys : AreChains columns until 0 chains
  pub text : bytes ≡ block_text columns until chains

-- ---- the block of a history

-- a key among keys that rise, each of them once
abbrev pub with_key : ℕ → List ℕ → List ℕ
with_key key [] = key ∷ []
with_key key (other ∷ keys) = cond (nat_lt key other) (key ∷ other ∷ keys) (cond (key == other) (other ∷ keys) (other ∷ with_key key keys))

abbrev pub with_keys : List Write → List ℕ → List ℕ
with_keys [] keys = keys
with_keys (write ∷ writes) keys = with_key write.key (with_keys writes keys)

-- the keys that a history writes, rising
abbrev pub keys_of : List Commit → List ℕ
keys_of [] = []
keys_of (commit ∷ commits) = with_keys commit.writes (keys_of commits)

-- the versions that a history makes of each key that it writes
abbrev pub chain_of : List Commit → ℕ → Chain
chain_of history key = record { key = key; versions = versions_on key history }

abbrev pub chains_of : List Commit → List Chain
chains_of history = map (chain_of history) (keys_of history)

abbrev pub block : ℕ → List Commit → List ℕ
block columns history = block_text columns (length history) (chains_of history)

-- rows and patches have so many columns
abbrev pub ActIsWide : ℕ → Act → Type 0
ActIsWide columns (Put row) = length row ≡ columns
ActIsWide columns (Set patch) = length patch ≡ columns
ActIsWide columns Del = Unit {0}

abbrev pub AreWide : ℕ → List Commit → Type 0
AreWide columns history = AllByRecursion (λ (commit : Commit). AllByRecursion (λ (write : Write). ActIsWide columns write.act) commit.writes) history

abbrev pub RowIsWide : ℕ → Option (List Cell) → Type 0
RowIsWide columns None = Unit {0}
RowIsWide columns (Some row) = length row ≡ columns

abbrev pub VersionsAreWide : ℕ → List Version → Type 0
VersionsAreWide columns versions = AllByRecursion (λ (version : Version). RowIsWide columns version.row) versions

abbrev pub ChainsAreWide : ℕ → List Chain → Type 0
ChainsAreWide columns chains = AllByRecursion (λ (chain : Chain). VersionsAreWide columns chain.versions) chains

-- the numbers of a row are below 2^64, and so are those of all rows of keys
abbrev pub HasNumbers : Option (List Cell) → Type 0
HasNumbers None = Unit {0}
HasNumbers (Some row) = AllByRecursion CellFits row

abbrev pub HaveNumbers : List Version → Type 0
HaveNumbers versions = AllByRecursion (λ (version : Version). HasNumbers version.row) versions

abbrev pub AllHaveNumbers : List Chain → Type 0
AllHaveNumbers chains = AllByRecursion (λ (chain : Chain). HaveNumbers chain.versions) chains

-- and the keys too
abbrev pub ChainsFit : List Chain → Type 0
ChainsFit chains = AllByRecursion (λ (chain : Chain). (chain.key < 2 ^ 64) × HaveNumbers chain.versions) chains

-- rows and patches have so many columns, and all their numbers are below 2^64
abbrev pub ChangeFits : Option Cell → Type 0
ChangeFits None = Unit {0}
ChangeFits (Some cell) = CellFits cell

abbrev pub ActFits : ℕ → Act → Type 0
ActFits columns (Put row) = RowFits columns (Some row)
ActFits columns (Set patch) = (length patch ≡ columns) × AllByRecursion ChangeFits patch
ActFits columns Del = Unit {0}

abbrev pub AreActs : ℕ → List Commit → Type 0
AreActs columns history = AllByRecursion (λ (commit : Commit). AllByRecursion (λ (write : Write). ActFits columns write.act) commit.writes) history
