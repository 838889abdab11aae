use Rattle.std.proofs.Common.{ℕ, ◌+◌, ◌*◌, ◌^◌, List, slice_index}
use Rattle.lst_model.specs.Cells.{number_at}
use Rattle.lst_rule.specs.Rule.{knows}
use Rattle.lst_scan.specs.Savings.{SavesPart}
use Rattle.lst_scan.specs.Paged.{HasPage, HasValues, entries_add}
use Rattle.lst_scan.proofs.Sheets.{Walks, Covers, AreAhead}
use Rattle.lst_scan.proofs.Adding.{Adds}
use Rattle.lst_scan.proofs.Told.{Stands}
use Rattle.lst_scan.proofs.paged.sum_untold.Given as goal

abbrev pub invariant-loop-slot : goal.invariant-loop-slot
invariant-loop-slot l = Walks l.store l.fn.seat.view l.seat l.s (2 ^ 64) l.slot l.total
    × ((page : HasPage l.fn.seat.view l.s l.range l.c l.tps l.fn.times) (values : List ℕ) → HasValues page values → Covers l.fn.seat.view l.s (number_at l.c) (256 * l.range) l.slot (l.total + entries_add (knows l.fn.seat.view l.s).begin (slice_index values) l.times l.slot))
    × Stands l.slot l.fn.times l.times
    × SavesPart l.fn.seat.view l.seat.view l.s l.c (256 * l.range) (256 * l.range + l.slot)
    × Adds (knows l.fn.seat.view l.s).begin l.slot l.fn.values l.all_present l.times l.values
    × AreAhead l.store l.fn.seat.view l.seat l.s l.range l.c (slice_index l.heads)
