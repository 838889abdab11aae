-- An entry of a page, and the fold of tails that makes it.
use Rattle.std.specs.Prelude.{ℕ, List, [], ◌∷◌, Bool, cond, Option, Some, None}
use Rattle.lst_bits.specs.declared.encodings.Kind.{Kind}
use Rattle.lst_bits.specs.declared.encodings.Kind.TheVariants.{Put, Set, Del}
use Rattle.lst_model.specs.Cells.{Cell}
use Rattle.lst_pages.specs.declared.tails.PageTail.{PageTail}
use Rattle.lst_pages.specs.declared.entries.Entry.{Entry}
use Rattle.lst_pages.specs.Rows.{cell_at}

-- no tail: absent, at time 0
abbrev pub blank : Entry
blank = record { cell = None; time = 0 }

-- the cell of column c that a tail leaves, a number or null, where it touches the column; a delete leaves none
abbrev pub cell_by : ℕ → Kind → List Cell → Option Cell
cell_by c Put cells = Some (cell_at c cells)
cell_by c Set cells = Some (cell_at c cells)
cell_by c Del cells = None

abbrev pub entry_by : ℕ → PageTail → Entry
entry_by c t = record { cell = cell_by c t.kind t.values; time = t.time }

-- the entry of column c after the tails that p takes, oldest first, from an entry on
abbrev pub folded : (PageTail → Bool) → ℕ → Entry → List PageTail → Entry
folded p c e [] = e
folded p c e (t ∷ ts) = folded p c (cond (p t) (entry_by c t) e) ts
