-- The merges of a phase.
use Rattle.std.specs.Prelude.{◌≡◌, List, [], ◌∷◌, Bool, true, false}
use Rattle.std.specs.List.{filter}
use Rattle.lst_model.specs.declared.lines.Line.{Line}
use Rattle.lst_model.specs.declared.lines.Line.TheVariants.{Merge}
use Rattle.lst_model.specs.declared.replies.Reply.{Reply}
use Rattle.lst_rule.specs.declared.view.View.{View}
use Rattle.lst_session.specs.Lines.{MergeLeaves}

abbrev pub is_merge : Line → Bool
is_merge (Merge range column) = true
is_merge line = false

-- the merges among these lines, in order
abbrev pub merges_of : List Line → List Line
merges_of lines = filter is_merge lines

-- The merger, with the view v before and w after, has made these merges one after the other, and these are the replies.
abbrev pub Merging : List Line → List Reply → View → View → Type 0
Merging [] [] v w = w ≡ v
Merging (Merge range column ∷ lines) (reply ∷ replies) v w = (u : View) × MergeLeaves v u range column reply × Merging lines replies u w
Merging lines replies v w = ⊥
