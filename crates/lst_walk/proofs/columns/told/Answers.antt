use Rattle.std.proofs.Common.{ℕ, refl, sym, ap, ◌∙◌, map, true≢false}
use Rattle.lst_model.specs.Cells.{number_of, cells_of}
use Rattle.lst_walk.proofs.Meanings.{numbers_by}
use Rattle.lst_walk.proofs.Reading.{at_on, watched_on, version_on}
use Rattle.lst_walk.proofs.Acting.{bit_set, bit_clear, columns_of, del_told}
use Rattle.lst_walk.proofs.Masks.{masked, mask_told, mask_untold, mask_leaves}
use Rattle.lst_rule.proofs.Finds.{loads_tail}
use Rattle.lst_walk.proofs.columns.told.Goals as goal

pub returns-then-has_column-clause-told : goal.returns-then-has_column-clause-told
returns-then-has_column-clause-told c = λ d at. mask_told d c.encoding_from-encoding.result (c.encoding_from-encoding.ensures.act d at) (ap (λ (n : ℕ). map number_of (cells_of n 0 d.values)) (c.encoding_from-encoding.ensures.nulls d at) ∙ numbers_by c.args.seat.now.view.limits at.rec d at.is) c.args.store.now.layout.limits.columns c.args.column c.value_from.result
    (masked c.args.store.now.layout.limits c.args.seat.now.view c.args.s c.args.tail d c.encoding_from-encoding.result c.requires.reader.seat_of.limits at (c.encoding_from-encoding.ensures.is d at)) c.requires.column
    (columns_of c.args.store.now.layout.limits c.args.seat.now.view c.args.s c.args.tail d c.requires.reader.seat_of.limits at) (bit_set c.encoding_from-encoding.result.mask c.args.column (c.if-has_column.ensures.0 refl))
    (c.value_from.ensures.value d (at_on c.args.seat.now.view c.encoding_from-encoding.new.seat.view c.args.s c.args.tail d c.encoding_from-encoding.ensures.watched at))

pub value_from-requires-clause-version : goal.value_from-requires-clause-version
value_from-requires-clause-version c = version_on c.args.seat.now.view c.encoding_from-encoding.new.seat.view c.args.s c.args.tail c.encoding_from-encoding.ensures.watched c.requires.version

pub returns-then-has_column-clause-watched : goal.returns-then-has_column-clause-watched
returns-then-has_column-clause-watched c = watched_on c.args.seat.now.view c.encoding_from-encoding.new.seat.view c.value_from.new.seat.view c.args.s c.encoding_from-encoding.ensures.watched c.value_from.ensures.watched

pub returns-then-has_column-clause-loads : goal.returns-then-has_column-clause-loads
returns-then-has_column-clause-loads c = loads_tail c.args.seat.now.view c.encoding_from-encoding.new.seat.view c.value_from.new.seat.view c.args.s c.args.tail c.args.tail refl c.encoding_from-encoding.ensures.loads c.value_from.ensures.loads

pub returns-in-Del-clause-told : goal.returns-in-Del-clause-told
returns-in-Del-clause-told c = λ d at. del_told d c.encoding_from-encoding.result (c.encoding_from-encoding.ensures.act d at) c.args.store.now.layout.limits.columns c.args.column c.in-Del.is

pub returns-in-Put-clause-told : goal.returns-in-Put-clause-told
returns-in-Put-clause-told c = λ d at. mask_untold d c.encoding_from-encoding.result (c.encoding_from-encoding.ensures.act d at) c.args.store.now.layout.limits.columns c.args.column (masked c.args.store.now.layout.limits c.args.seat.now.view c.args.s c.args.tail d c.encoding_from-encoding.result c.requires.reader.seat_of.limits at (c.encoding_from-encoding.ensures.is d at)) c.requires.column
    (columns_of c.args.store.now.layout.limits c.args.seat.now.view c.args.s c.args.tail d c.requires.reader.seat_of.limits at) (bit_clear c.encoding_from-encoding.result.mask c.args.column (λ h. true≢false (sym (c.if-has_column.ensures.1 h)))) c.in-Put.is

pub returns-in-Put-clause-leaves : goal.returns-in-Put-clause-leaves
returns-in-Put-clause-leaves c = λ none d at. mask_leaves d c.encoding_from-encoding.result (c.encoding_from-encoding.ensures.is d at) c.args.store.now.layout.limits.columns c.args.column (masked c.args.store.now.layout.limits c.args.seat.now.view c.args.s c.args.tail d c.encoding_from-encoding.result c.requires.reader.seat_of.limits at (c.encoding_from-encoding.ensures.is d at)) c.requires.column (bit_clear c.encoding_from-encoding.result.mask c.args.column (λ h. true≢false (sym (c.if-has_column.ensures.1 h)))) c.in-Put.is
