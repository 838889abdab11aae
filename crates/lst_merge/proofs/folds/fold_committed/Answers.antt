use Rattle.std.proofs.Common.{◌<◌, None, Some, sym, subst, slice_index}
use Rattle.lst_layout.specs.declared.limits.Limits.{Limits}
use Rattle.lst_merge.specs.Inspections.{merger_of}
use Rattle.lst_merge.specs.Pages.{entry_of}
use Rattle.lst_merge.proofs.Ending.{inspects_join, inspects_host, merger_has, merger_knows}
use Rattle.lst_merge.proofs.Folding.{folds_left, folds_deleted, folds_held, time_same}
use Rattle.lst_merge.proofs.Reading.{held_null, bit_set, bit_unset}
use Rattle.lst_merge.proofs.folds.fold_committed.Goals as goal

pub number_in-number-requires-clause-settled : goal.number_in-number-requires-clause-settled
number_in-number-requires-clause-settled c = merger_has c.args.seat.now.view c.encoding_of-encoding.new.seat.view c.encoding_of-encoding.ensures.inspects c.args.tail.identifier (c.requires.settled.0, c.requires.settled.2)

pub returns-in-Del-clause-folds : goal.returns-in-Del-clause-folds
returns-in-Del-clause-folds c = λ t k. let later = merger_knows c.args.seat.now.view c.encoding_of-encoding.new.seat.view c.encoding_of-encoding.ensures.inspects c.args.tail.identifier t k in
    folds_deleted (merger_of c.encoding_of-encoding.new.seat.view) c.args.tail.identifier c.args.column c.args.time c.encoding_of-encoding.result t later c.encoding_of-encoding.ensures.encoding
    (time_same c.args.seat.now.view c.consider.ensures c.requires.host c.args.tail.identifier c.args.time t c.requires.settled k) c.requires.time.0 (entry_of (slice_index c.args.words.now) c.args.values.now)
    _ c.encoding_of-encoding.ensures.mask (entry_of (slice_index c.put_entry.new.words) c.put_entry.new.values) c.in-Del.is c.put_entry.ensures.entry

pub returns-in-Put-clause-folds : goal.returns-in-Put-clause-folds
returns-in-Put-clause-folds c = λ t k. let later = merger_knows c.args.seat.now.view c.encoding_of-encoding.new.seat.view c.encoding_of-encoding.ensures.inspects c.args.tail.identifier t k in
    folds_left (merger_of c.encoding_of-encoding.new.seat.view) c.args.tail.identifier c.args.column c.args.time c.encoding_of-encoding.result t later c.encoding_of-encoding.ensures.encoding
    (time_same c.args.seat.now.view c.consider.ensures c.requires.host c.args.tail.identifier c.args.time t c.requires.settled k) c.requires.time.0 (entry_of (slice_index c.args.words.now) c.args.values.now)
    _ c.encoding_of-encoding.ensures.mask (bit_unset _ _ _ c.has_column.ensures c.if-not-has_column.true) (subst (λ (l : Limits). c.args.column < l.columns) (sym c.requires.seat.limits) c.requires.column) c.in-Put.is

pub returns-then-has_column-clause-folds : goal.returns-then-has_column-clause-folds
returns-then-has_column-clause-folds c = λ t k. let later = merger_knows c.args.seat.now.view c.encoding_of-encoding.new.seat.view c.encoding_of-encoding.ensures.inspects c.args.tail.identifier t k in
    folds_held (merger_of c.encoding_of-encoding.new.seat.view) c.args.tail.identifier c.args.column c.args.time c.encoding_of-encoding.result t later c.encoding_of-encoding.ensures.encoding
    (time_same c.args.seat.now.view c.consider.ensures c.requires.host c.args.tail.identifier c.args.time t c.requires.settled k) c.requires.time.0 (entry_of (slice_index c.args.words.now) c.args.values.now)
    _ c.encoding_of-encoding.ensures.mask None (entry_of (slice_index c.put_entry-then-has_column.new.words) c.put_entry-then-has_column.new.values) (bit_set _ _ (c.has_column.ensures.0 c.if-not-has_column.false))
    (held_null c.encoding_of-encoding.new.seat.view c.consider-then-has_column.ensures c.args.tail.identifier c.encoding_of-encoding.result c.args.column (inspects_host c.args.seat.now.view c.encoding_of-encoding.new.seat.view c.encoding_of-encoding.ensures.inspects c.requires.host) (subst (λ (l : Limits). c.args.column < l.columns) (sym c.encoding_of-encoding.ensures.seat.limits) c.requires.column) c.encoding_of-encoding.ensures.encoding (bit_set _ _ (c.has_column-else-not-has_column.ensures.0 c.if-has_column.true)) t later) c.put_entry-then-has_column.ensures.entry

pub returns-else-has_column-clause-inspects : goal.returns-else-has_column-clause-inspects
returns-else-has_column-clause-inspects c = inspects_join c.args.seat.now.view c.encoding_of-encoding.new.seat.view c.number_in-number.new.seat.view c.encoding_of-encoding.ensures.inspects c.number_in-number.ensures.inspects

pub returns-else-has_column-clause-folds : goal.returns-else-has_column-clause-folds
returns-else-has_column-clause-folds c = λ t k. let later = merger_knows c.args.seat.now.view c.encoding_of-encoding.new.seat.view c.encoding_of-encoding.ensures.inspects c.args.tail.identifier t k in
    folds_held (merger_of c.encoding_of-encoding.new.seat.view) c.args.tail.identifier c.args.column c.args.time c.encoding_of-encoding.result t later c.encoding_of-encoding.ensures.encoding
    (time_same c.args.seat.now.view c.consider.ensures c.requires.host c.args.tail.identifier c.args.time t c.requires.settled k) c.requires.time.0 (entry_of (slice_index c.args.words.now) c.args.values.now)
    _ c.encoding_of-encoding.ensures.mask (Some c.number_in-number.result) (entry_of (slice_index c.put_entry-else-has_column.new.words) c.put_entry-else-has_column.new.values) (bit_set _ _ (c.has_column.ensures.0 c.if-not-has_column.false)) (c.number_in-number.ensures.cell t later) c.put_entry-else-has_column.ensures.entry

pub encoding_of-encoding-requires-clause-settled : goal.encoding_of-encoding-requires-clause-settled
encoding_of-encoding-requires-clause-settled c = (c.requires.settled.0, c.requires.settled.2)

pub returns-in-Del-clause-seat : goal.returns-in-Del-clause-seat
returns-in-Del-clause-seat c = c.encoding_of-encoding.ensures.seat

pub returns-in-Del-clause-inspects : goal.returns-in-Del-clause-inspects
returns-in-Del-clause-inspects c = c.encoding_of-encoding.ensures.inspects

pub returns-in-Del-clause-numbers : goal.returns-in-Del-clause-numbers
returns-in-Del-clause-numbers c = c.put_entry.ensures.numbers

pub returns-in-Put-clause-seat : goal.returns-in-Put-clause-seat
returns-in-Put-clause-seat c = c.encoding_of-encoding.ensures.seat

pub returns-in-Put-clause-inspects : goal.returns-in-Put-clause-inspects
returns-in-Put-clause-inspects c = c.encoding_of-encoding.ensures.inspects

pub returns-in-Put-clause-numbers : goal.returns-in-Put-clause-numbers
returns-in-Put-clause-numbers c = c.requires.numbers

pub returns-then-has_column-clause-seat : goal.returns-then-has_column-clause-seat
returns-then-has_column-clause-seat c = c.encoding_of-encoding.ensures.seat

pub returns-then-has_column-clause-inspects : goal.returns-then-has_column-clause-inspects
returns-then-has_column-clause-inspects c = c.encoding_of-encoding.ensures.inspects

pub returns-then-has_column-clause-numbers : goal.returns-then-has_column-clause-numbers
returns-then-has_column-clause-numbers c = c.put_entry-then-has_column.ensures.numbers

pub returns-else-has_column-clause-seat : goal.returns-else-has_column-clause-seat
returns-else-has_column-clause-seat c = c.number_in-number.ensures.seat

pub returns-else-has_column-clause-numbers : goal.returns-else-has_column-clause-numbers
returns-else-has_column-clause-numbers c = c.put_entry-else-has_column.ensures.numbers

pub number_in-number-requires-clause-host : goal.number_in-number-requires-clause-host
number_in-number-requires-clause-host c = inspects_host c.args.seat.now.view c.encoding_of-encoding.new.seat.view c.encoding_of-encoding.ensures.inspects c.requires.host

pub number_in-number-requires-clause-seat : goal.number_in-number-requires-clause-seat
number_in-number-requires-clause-seat c = c.encoding_of-encoding.ensures.seat

pub number_in-number-requires-clause-encoding : goal.number_in-number-requires-clause-encoding
number_in-number-requires-clause-encoding c = c.encoding_of-encoding.ensures.encoding

pub number_in-number-requires-clause-number : goal.number_in-number-requires-clause-number
number_in-number-requires-clause-number c = bit_unset _ _ _ c.has_column-else-not-has_column.ensures c.if-has_column.false
