-- What a settled tail touches.
use Rattle.std.specs.Prelude.{ℕ, Bool, true, eqb, nat_lt, ◌&&◌}
use Rattle.lst_bits.specs.declared.encodings.Kind.{Kind}
use Rattle.lst_bits.specs.declared.encodings.Kind.TheVariants.{Put, Set, Del}
use Rattle.lst_model.specs.Cells.{has_bit}
use Rattle.lst_pages.specs.declared.tails.PageTail.{PageTail}

-- a put and a delete touch every column, a set those of its mask, with a number or with null
abbrev pub touches_column : ℕ → Kind → ℕ → Bool
touches_column c Put mask = true
touches_column c Set mask = has_bit mask c
touches_column c Del mask = true

-- the tail is of the record at slot i, and touches column c
abbrev pub is_on : ℕ → ℕ → PageTail → Bool
is_on c i t = eqb t.slot i && touches_column c t.kind t.mask

-- and it is committed
abbrev pub touches : ℕ → ℕ → PageTail → Bool
touches c i t = nat_lt 0 t.time && is_on c i t
