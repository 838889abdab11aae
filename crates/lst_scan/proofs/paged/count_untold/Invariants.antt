use Rattle.std.proofs.Common.{ℕ, ◌+◌, ◌*◌, slice_index}
use Rattle.lst_rule.specs.Rule.{knows}
use Rattle.lst_scan.specs.Savings.{SavesPart}
use Rattle.lst_scan.specs.Paged.{entries_add}
use Rattle.lst_scan.proofs.Sheets.{Walks, Covers, AreAhead}
use Rattle.lst_scan.proofs.Told.{Stands}
use Rattle.lst_scan.proofs.paged.count_untold.Given as goal

abbrev pub invariant-loop-slot : goal.invariant-loop-slot
invariant-loop-slot l = Walks l.store l.fn.seat.view l.seat l.s 1 l.slot l.total × Covers l.fn.seat.view l.s (λ _. 1) (256 * l.range) l.slot (l.total + entries_add (knows l.fn.seat.view l.s).begin (λ (slot : ℕ). 1) l.times l.slot) × Stands l.slot l.fn.times l.times × SavesPart l.fn.seat.view l.seat.view l.s 0 (256 * l.range) (256 * l.range + l.slot)
    × AreAhead l.store l.fn.seat.view l.seat l.s l.range 0 (slice_index l.heads)
