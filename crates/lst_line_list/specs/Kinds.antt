-- What is kept of lines: of each its session, its kind and the place of its numbers, and the numbers of all in one list.
use Rattle.std.specs.Prelude.{◌≡◌, ℕ, suc, ◌+◌, ◌<◌, ◌≤◌, ◌^◌, List, ◌++◌, length, take, drop, get_or}
use Rattle.lst_model.specs.Cells.{cells_of, patched, AreNull}
use Rattle.lst_model.specs.declared.lines.Line.{Line}
use Rattle.lst_model.specs.declared.lines.Line.TheVariants as line
use Rattle.lst_model.specs.declared.lines.Call.TheVariants as call
use Rattle.lst_line_list.specs.declared.kinds.Kind.{Kind}
use Rattle.lst_line_list.specs.declared.kinds.Kind.TheVariants.{Phase, Merge, Begin, AsOf, Get, Insert, Update, Delete, Sum, Count, Scan, Find, Commit, Abort}
use Rattle.lst_line_list.specs.declared.kinds.Kept.{Kept}

-- how many numbers a line of a kind has
abbrev pub width : Kind → ℕ
width Phase = 0
width Merge = 2
width Begin = 0
width AsOf = 1
width Get = 1
width (Insert cells nulls) = suc cells
width (Update cells set nulls) = suc cells
width Delete = 1
width Sum = 1
width Count = 0
width Scan = 0
width Find = 2
width Commit = 0
width Abort = 0

abbrev pub first : List ℕ → ℕ
first numbers = get_or numbers 0 0

abbrev pub second : List ℕ → ℕ
second numbers = get_or numbers 1 0

-- the line of a session and a kind with these numbers
abbrev pub told : ℕ → Kind → List ℕ → Line
told session Phase numbers = line.Phase
told session Merge numbers = line.Merge (first numbers) (second numbers)
told session Begin numbers = line.Call session call.Begin
told session AsOf numbers = line.Call session (call.AsOf (first numbers))
told session Get numbers = line.Call session (call.Get (first numbers))
told session (Insert cells nulls) numbers = line.Call session (call.Insert (first numbers) (cells_of nulls 0 (drop 1 numbers)))
told session (Update cells set nulls) numbers = line.Call session (call.Update (first numbers) (patched set 0 (cells_of nulls 0 (drop 1 numbers))))
told session Delete numbers = line.Call session (call.Delete (first numbers))
told session Sum numbers = line.Call session (call.Sum (first numbers))
told session Count numbers = line.Call session call.Count
told session Scan numbers = line.Call session call.Scan
told session Find numbers = line.Call session (call.Find (first numbers) (second numbers))
told session Commit numbers = line.Call session call.Commit
told session Abort numbers = line.Call session call.Abort

-- the numbers of a kind are such as its lines have: ranges and columns have 32 bits, a row or a patch has at most eight columns, and the number of a
-- row's null column is 0
abbrev pub AreOf : Kind → List ℕ → Type 0
AreOf Merge numbers = (first numbers < 2 ^ 32) × (second numbers < 2 ^ 32)
AreOf (Insert cells nulls) numbers = (cells ≤ 8) × AreNull 0 nulls (drop 1 numbers)
AreOf (Update cells set nulls) numbers = cells ≤ 8
AreOf Sum numbers = first numbers < 2 ^ 32
AreOf Find numbers = first numbers < 2 ^ 32
AreOf Phase numbers = Unit
AreOf Begin numbers = Unit
AreOf AsOf numbers = Unit
AreOf Get numbers = Unit
AreOf Delete numbers = Unit
AreOf Count numbers = Unit
AreOf Scan numbers = Unit
AreOf Commit numbers = Unit
AreOf Abort numbers = Unit

-- the numbers of a line that is kept, among those of all
abbrev pub own : List ℕ → Kept → List ℕ
own numbers kept = take (width kept.kind) (drop kept.start numbers)

abbrev pub line_of : List ℕ → Kept → Line
line_of numbers kept = told kept.session kept.kind (own numbers kept)

-- a line's numbers are all there
pub record IsKept (numbers : List ℕ) (kept : Kept) : Type 0 where
  pub within : kept.start + width kept.kind ≤ length numbers
  pub are : AreOf kept.kind (own numbers kept)

-- a line was kept as this: its numbers behind those before
pub record Keeps (kept : Kept) (line : Line) (numbers longer : List ℕ) : Type 0 where
  pub added : List ℕ
  pub adds : longer ≡ numbers ++ added
  pub begins : kept.start ≡ length numbers
  pub wide : length added ≡ width kept.kind
  pub are : AreOf kept.kind added
  pub tells : told kept.session kept.kind added ≡ line

-- the same of a session's call and its kind
pub record KeepsCall (session : ℕ) (kind : Kind) (line : Line) (numbers longer : List ℕ) : Type 0 where
  pub added : List ℕ
  pub adds : longer ≡ numbers ++ added
  pub wide : length added ≡ width kind
  pub are : AreOf kind added
  pub tells : told session kind added ≡ line
