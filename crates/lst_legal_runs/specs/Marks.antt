-- Numbers kept by triples of numbers; a triple that nothing was set at has 0.
use Rattle.std.specs.Prelude.{ℕ, Bool, ◌&&◌, ◌==◌, unwrap_or}
use Rattle.std.specs.declared.cmp.Ordering.{Ordering}
use Rattle.std.specs.Ordering.{nat_cmp, ordering_then}
use Rattle.std.specs.BTreeMap.{get}
use Rattle.lst_legal_runs.specs.declared.marks.Marks.{Marks}

abbrev pub triple_cmp : (ℕ × ℕ × ℕ) → (ℕ × ℕ × ℕ) → Ordering
triple_cmp one other = ordering_then (ordering_then (nat_cmp one.0 other.0) (nat_cmp one.1 other.1)) (nat_cmp one.2 other.2)

-- two triples are the same
abbrev pub are_same : ℕ → ℕ → ℕ → ℕ → ℕ → ℕ → Bool
are_same first second third a b c = (first == a && second == b) && third == c

-- the number at a triple
abbrev pub number_at : Marks → ℕ → ℕ → ℕ → ℕ
number_at marks first second third = unwrap_or (get triple_cmp marks.numbers (first, second, third)) 0
