-- The newest version that is seen, which alone tells whether there is a row.
use Rattle.std.specs.Prelude.{◌≡◌, ℕ, List, [], ◌∷◌, ◌++◌, Bool, true, false, Option, None, Some, is_some}
use Rattle.lst_model.specs.declared.acts.Act.{Act}
use Rattle.lst_model.specs.declared.acts.Act.TheVariants.{Put, Set, Del}
use Rattle.lst_model.specs.Cells.{Cell}
use Rattle.lst_core_state.specs.declared.known.Known.{Known}
use Rattle.lst_rule.specs.declared.view.View.{View}
use Rattle.lst_rule.specs.Rule.{knows}
use Rattle.lst_rule.specs.Copies.{Version}
use Rattle.lst_rule.specs.Seen.{sees}
use Rattle.lst_rule.specs.TailLoads.{LoadsTail}
use Rattle.lst_walk.specs.Numbered.{KnowsChain}
use Rattle.lst_walk.specs.Walks.{IsRowOf}

-- an act that fits leaves a row
abbrev pub leaves_row : Act → Bool
leaves_row (Put row) = true
leaves_row (Set patch) = true
leaves_row Del = false

-- there is a row of the record that the session's open transaction sees
abbrev pub HasRow : View → ℕ → ℕ → Bool → Type 0
HasRow v s rec there = (row : Option (List Cell)) × IsRowOf v s rec row × (there ≡ is_some row)

-- none of these versions is seen
abbrev pub NoneSeen : Known → ℕ → List Version → Type 0
NoneSeen k s [] = Unit {0}
NoneSeen k s (c ∷ cs) = (sees k s c.writer ≡ false) × NoneSeen k s cs

-- the version of this tail record is the newest one of the record's known chain that is seen, or none is
abbrev pub IsNewest : View → ℕ → ℕ → Option ℕ → Type 0
IsNewest v s rec None = (copy : List Version) × KnowsChain v s rec copy × NoneSeen (knows v s) s copy
IsNewest v s rec (Some tail) = (above : List Version) × (c : Version) × (older : List Version) × KnowsChain v s rec (above ++ c ∷ older) × NoneSeen (knows v s) s above × (c.tail ≡ tail) × (sees (knows v s) s c.writer ≡ true)

-- words of this tail record alone were loaded, or nothing was
abbrev pub LoadsNewest : View → View → ℕ → Option ℕ → Type 0
LoadsNewest v w s None = w ≡ v
LoadsNewest v w s (Some tail) = LoadsTail v w s tail
