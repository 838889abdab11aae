use Rattle.std.proofs.Common.{◌<◌, ap, arith}
use Rattle.lst_core_state.specs.Cells.{record_count}
use Rattle.lst_rule.proofs.Keying.{record_low}
use Rattle.lst_scan.proofs.finds.by_all.Goals as goal

pub returns-in-Ok-clause-candidates : goal.returns-in-Ok-clause-candidates
returns-in-Ok-clause-candidates c = λ number rec row on holds.
    let low : rec < record_count c.args.seat.now.view.limits = record_low c.args.seat.now.view c.args.s c.consider.ensures c.requires.reader.host rec on.0 on.1 in
    c.in-Ok.ensures.all rec (let e = ap record_count c.requires.reader.seat_of.limits in omega arith)
