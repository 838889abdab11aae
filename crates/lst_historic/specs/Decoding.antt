-- What is told of rows while they are decoded in place.
use Rattle.std.specs.Prelude.{◌≡◌, ℕ, ◌<◌, ◌^◌, List, ◌++◌, length, Bool, true, false, Option, Some, None, slice_get, slice_set}
use Rattle.lst_model.specs.Cells.{Cell}
use Rattle.lst_snapshots.specs.declared.versions.Version.{Version}
use Rattle.lst_historic.specs.Blocks.{AreVersions, chain_text}
use Rattle.lst_historic.specs.Reading.{cell_behind}

-- the row of these cells, where there is one
abbrev pub shown : Bool → List Cell → Option (List Cell)
shown true cells = Some cells
shown false cells = None

-- all versions of a key stand in front of the bytes
pub record HasVersions (columns until : ℕ) (bytes : List ℕ) : Type 0 where
  pub versions : List Version
  pub rest : List ℕ
  pub built : until < 2 ^ 64
  pub few : length versions < 2 ^ 64
  pub fits : AreVersions columns until 0 versions
  pub text : bytes ≡ chain_text columns versions ++ rest

-- a column's cell is read, and stands in its place
pub record IsStep (olds news : List Cell) (column : ℕ) (changed emptied : Bool) (bytes behind : List ℕ) : Type 0 where
  pub old : Cell
  pub cell : Cell
  pub here : slice_get olds column ≡ Some old
  pub read : Some (cell, behind) ≡ cell_behind changed emptied old bytes
  pub set : news ≡ slice_set olds column cell
