-- A tail, as the merger loads its words.
use Rattle.std.specs.Prelude.{◌≡◌, ◌<◌, ◌≤◌}
use Rattle.lst_layout.specs.declared.limits.Limits.{Limits}
use Rattle.lst_layout.specs.declared.place.Place.TheVariants.{CellWord}
use Rattle.lst_layout.specs.Addresses.{address}
use Rattle.lst_core_state.specs.Cells.{tail_count}
use Rattle.lst_merge.specs.declared.tails.Tail.{Tail}

-- the store has a tail of this identifier, and it starts at this address
pub record IsTail (l : Limits) (t : Tail) : Type 0 where
  pub some : 0 < t.identifier
  pub few : t.identifier ≤ tail_count l
  pub first : t.first ≡ address l (CellWord t.identifier 0)
  pub merger : t.merger ≡ l.sessions
