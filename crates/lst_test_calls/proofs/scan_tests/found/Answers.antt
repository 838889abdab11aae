use Rattle.std.proofs.Common.{◌<◌, List, Contains, sym, subst, ap, ◌∙◌, arith}
use Rattle.lst_layout.specs.declared.limits.Limits.{Limits}
use Rattle.lst_core_state.specs.Cells.{record_count}
use Rattle.lst_rule.specs.declared.records.RecordId.{RecordId}
use Rattle.lst_rule.proofs.Keying.{record_low}
use Rattle.lst_test_calls.proofs.scan_tests.found.Goals as goal

pub find_among-requires-clause-candidates : goal.find_among-requires-clause-candidates
find_among-requires-clause-candidates c = λ rec row on holds. let own = c.args.on.now.own in
    let ranges = ap (λ (l : Limits). l.ranges) own.0.seat_of.limits ∙ c.has_two_ranges.ensures c.if-not-has_two_ranges.false in
    let low : rec < record_count c.args.on.now.session.seat.view.limits = record_low c.args.on.now.session.seat.view c.args.on.now.session.number c.consider.ensures own.0.host rec on.0 on.1 in
    subst (λ (list : List RecordId). Contains list record { number = rec }) (sym c.deref.ensures.value) (c.in_ok-records.ensures.all rec (omega arith))
