use Rattle.std.proofs.Common.{◌≡◌, ◌∙◌, arith, slice_index}
use Rattle.lst_merge.specs.Pages.{entry_of}
use Rattle.lst_merge.proofs.Ending.{inspects_join, inspects_host, merger_knows}
use Rattle.lst_merge.proofs.Folding.{folds_closed, time_same}
use Rattle.lst_merge.proofs.folds.fold_tail.Goals as goal

pub returns-then-time-gt0-clause-inspects : goal.returns-then-time-gt0-clause-inspects
returns-then-time-gt0-clause-inspects c = inspects_join c.args.seat.now.view c.time_of.new.seat.view c.fold_committed.new.seat.view c.time_of.ensures.inspects c.fold_committed.ensures.inspects

pub returns-then-time-gt0-clause-folds : goal.returns-then-time-gt0-clause-folds
returns-then-time-gt0-clause-folds c = λ t k. c.fold_committed.ensures.folds t (merger_knows c.args.seat.now.view c.time_of.new.seat.view c.time_of.ensures.inspects c.args.tail.identifier t k)

pub returns-else-time-gt0-clause-folds : goal.returns-else-time-gt0-clause-folds
returns-else-time-gt0-clause-folds c = λ t k. let none : c.in-Some.time ≡ 0 = omega arith in folds_closed c.args.column t (entry_of (slice_index c.args.words.now) c.args.values.now)
    (time_same c.time_of.new.seat.view c.consider.ensures (inspects_host c.args.seat.now.view c.time_of.new.seat.view c.time_of.ensures.inspects c.requires.host) c.args.tail.identifier c.in-Some.time t c.in-Some.ensures.some.1 (merger_knows c.args.seat.now.view c.time_of.new.seat.view c.time_of.ensures.inspects c.args.tail.identifier t k) ∙ none)
