use Rattle.std.proofs.Common.{inl, inr, sym, ◌∙◌}
use Rattle.lst_walk.proofs.Reading.{at_on, version_on, watched_on}
use Rattle.lst_walk.proofs.Acting.{columns_of, put_acted, del_acted, set_acted, set_whole, set_leaves}
use Rattle.std.proofs.Common.{refl}
use Rattle.lst_model.specs.Cells.{cells_of}
use Rattle.lst_bits.specs.Encodings.{encoding_of}
use Rattle.lst_walk.proofs.Meanings.{encoded, act_found, encoding_found}
use Rattle.lst_walk.proofs.Setting.{set_still, set_more, set_left, cells_wide}
use Rattle.lst_rule.proofs.Finds.{loads_tail}
use Rattle.lst_walk.proofs.rows.acted.Goals as goal

pub returns-in-Put-clause-acted : goal.returns-in-Put-clause-acted
returns-in-Put-clause-acted c = λ d at. put_acted d c.unpack_encoding-encoding.result (act_found c.args.seat.now.view c.args.s c.args.tail c.args.store.now.layout.limits c.requires.reader.seat_of.limits c.args.store.now.layout.valid.columns.1 c.word_from-word.result c.unpack_encoding-encoding.result c.unpack_encoding-encoding.ensures.encoding c.word_from-word.ensures.word d at) c.args.store.now.layout.limits.columns c.args.patch.now c.in-Put.is

pub returns-in-Del-clause-acted : goal.returns-in-Del-clause-acted
returns-in-Del-clause-acted c = λ d at. del_acted d c.unpack_encoding-encoding.result (act_found c.args.seat.now.view c.args.s c.args.tail c.args.store.now.layout.limits c.requires.reader.seat_of.limits c.args.store.now.layout.valid.columns.1 c.word_from-word.result c.unpack_encoding-encoding.result c.unpack_encoding-encoding.ensures.encoding c.word_from-word.ensures.word d at) c.args.store.now.layout.limits.columns c.args.patch.now c.args.patch.now c.in-Del.is

pub set_under-requires-clause-version : goal.set_under-requires-clause-version
set_under-requires-clause-version c = version_on c.args.seat.now.view c.word_from-word.new.seat.view c.args.s c.args.tail c.word_from-word.ensures.watched c.requires.version

pub returns-then-is_whole-clause-watched : goal.returns-then-is_whole-clause-watched
returns-then-is_whole-clause-watched c = watched_on c.args.seat.now.view c.word_from-word.new.seat.view c.set_under.new.seat.view c.args.s c.word_from-word.ensures.watched c.set_under.ensures.watched

pub returns-else-is_whole-clause-watched : goal.returns-else-is_whole-clause-watched
returns-else-is_whole-clause-watched c = watched_on c.args.seat.now.view c.word_from-word.new.seat.view c.set_under.new.seat.view c.args.s c.word_from-word.ensures.watched c.set_under.ensures.watched

pub returns-then-is_whole-clause-acted : goal.returns-then-is_whole-clause-acted
returns-then-is_whole-clause-acted c = λ d at. set_whole d c.unpack_encoding-encoding.result (act_found c.args.seat.now.view c.args.s c.args.tail c.args.store.now.layout.limits c.requires.reader.seat_of.limits c.args.store.now.layout.valid.columns.1 c.word_from-word.result c.unpack_encoding-encoding.result c.unpack_encoding-encoding.ensures.encoding c.word_from-word.ensures.word d at) c.args.store.now.layout.limits.columns c.args.patch.now c.set_under.new.patch c.in-Set.is c.requires.wide
    (columns_of c.args.store.now.layout.limits c.args.seat.now.view c.args.s c.args.tail d c.requires.reader.seat_of.limits at)
    (c.set_under.ensures.patch d (at_on c.args.seat.now.view c.word_from-word.new.seat.view c.args.s c.args.tail d c.word_from-word.ensures.watched at))
    (sym c.is_whole.ensures ∙ c.if-is_whole.true)

pub returns-else-is_whole-clause-acted : goal.returns-else-is_whole-clause-acted
returns-else-is_whole-clause-acted c = λ d at. set_acted d c.unpack_encoding-encoding.result (act_found c.args.seat.now.view c.args.s c.args.tail c.args.store.now.layout.limits c.requires.reader.seat_of.limits c.args.store.now.layout.valid.columns.1 c.word_from-word.result c.unpack_encoding-encoding.result c.unpack_encoding-encoding.ensures.encoding c.word_from-word.ensures.word d at) c.args.store.now.layout.limits.columns c.args.patch.now c.set_under.new.patch c.in-Set.is c.requires.wide
    (columns_of c.args.store.now.layout.limits c.args.seat.now.view c.args.s c.args.tail d c.requires.reader.seat_of.limits at)
    (c.set_under.ensures.patch d (at_on c.args.seat.now.view c.word_from-word.new.seat.view c.args.s c.args.tail d c.word_from-word.ensures.watched at))

pub returns-else-is_whole-clause-leaves : goal.returns-else-is_whole-clause-leaves
returns-else-is_whole-clause-leaves c = λ d at. (
  λ column none. set_leaves d c.unpack_encoding-encoding.result (encoding_found c.args.seat.now.view c.args.s c.args.tail c.args.store.now.layout.limits c.requires.reader.seat_of.limits c.args.store.now.layout.valid.columns.1 c.word_from-word.result c.unpack_encoding-encoding.result c.unpack_encoding-encoding.ensures.encoding c.word_from-word.ensures.word d at) c.args.store.now.layout.limits.columns c.args.patch.now c.set_under.new.patch c.in-Set.is c.requires.wide
      (columns_of c.args.store.now.layout.limits c.args.seat.now.view c.args.s c.args.tail d c.requires.reader.seat_of.limits at)
      (c.set_under.ensures.patch d (at_on c.args.seat.now.view c.word_from-word.new.seat.view c.args.s c.args.tail d c.word_from-word.ensures.watched at)) column none,
  inr (sym c.is_whole.ensures ∙ c.if-is_whole.false),
)

pub returns-then-is_whole-clause-loads : goal.returns-then-is_whole-clause-loads
returns-then-is_whole-clause-loads c = loads_tail c.args.seat.now.view c.word_from-word.new.seat.view c.set_under.new.seat.view c.args.s c.args.tail c.args.tail refl c.word_from-word.ensures.loads c.set_under.ensures.loads

pub returns-else-is_whole-clause-loads : goal.returns-else-is_whole-clause-loads
returns-else-is_whole-clause-loads c = loads_tail c.args.seat.now.view c.word_from-word.new.seat.view c.set_under.new.seat.view c.args.s c.args.tail c.args.tail refl c.word_from-word.ensures.loads c.set_under.ensures.loads

pub returns-then-sets_none-clause-acted : goal.returns-then-sets_none-clause-acted
returns-then-sets_none-clause-acted c = λ d at. set_acted d (encoding_of c.word_from-word.result) (act_found c.args.seat.now.view c.args.s c.args.tail c.args.store.now.layout.limits c.requires.reader.seat_of.limits c.args.store.now.layout.valid.columns.1 c.word_from-word.result (encoding_of c.word_from-word.result) refl c.word_from-word.ensures.word d at) c.args.store.now.layout.limits.columns c.args.patch.now c.args.patch.now (c.if-sets_none.ensures.0 refl).0 c.requires.wide
    (columns_of c.args.store.now.layout.limits c.args.seat.now.view c.args.s c.args.tail d c.requires.reader.seat_of.limits at)
    (sym (set_still (encoding_of c.word_from-word.result).mask c.args.set.now c.args.patch.now (cells_of (encoding_of c.word_from-word.result).nulls 0 d.values) (c.if-sets_none.ensures.0 refl).1 c.requires.set))

pub returns-then-sets_none-clause-leaves : goal.returns-then-sets_none-clause-leaves
returns-then-sets_none-clause-leaves c = λ d at. (
  λ column none. set_leaves d (encoding_of c.word_from-word.result) (encoding_found c.args.seat.now.view c.args.s c.args.tail c.args.store.now.layout.limits c.requires.reader.seat_of.limits c.args.store.now.layout.valid.columns.1 c.word_from-word.result (encoding_of c.word_from-word.result) refl c.word_from-word.ensures.word d at) c.args.store.now.layout.limits.columns c.args.patch.now c.args.patch.now (c.if-sets_none.ensures.0 refl).0 c.requires.wide
      (columns_of c.args.store.now.layout.limits c.args.seat.now.view c.args.s c.args.tail d c.requires.reader.seat_of.limits at)
      (sym (set_still (encoding_of c.word_from-word.result).mask c.args.set.now c.args.patch.now (cells_of (encoding_of c.word_from-word.result).nulls 0 d.values) (c.if-sets_none.ensures.0 refl).1 c.requires.set)) column none,
  inl refl,
)

pub returns-then-is_whole-clause-set : goal.returns-then-is_whole-clause-set
returns-then-is_whole-clause-set c = let d = c.requires.version.0 in let at = c.requires.version.1 in
    set_more c.unpack_encoding-encoding.result.mask c.args.set.now c.args.patch.now c.set_under.new.patch c.requires.set
    (set_left c.unpack_encoding-encoding.result.mask (cells_of c.unpack_encoding-encoding.result.nulls 0 d.values) c.args.patch.now c.set_under.new.patch
    (cells_wide c.args.store.now.layout.limits.columns c.args.patch.now c.unpack_encoding-encoding.result.nulls d.values (columns_of c.args.store.now.layout.limits c.args.seat.now.view c.args.s c.args.tail d c.requires.reader.seat_of.limits at) c.requires.wide)
    (c.set_under.ensures.patch d (at_on c.args.seat.now.view c.word_from-word.new.seat.view c.args.s c.args.tail d c.word_from-word.ensures.watched at)))

pub returns-else-is_whole-clause-set : goal.returns-else-is_whole-clause-set
returns-else-is_whole-clause-set c = let d = c.requires.version.0 in let at = c.requires.version.1 in
    set_more c.unpack_encoding-encoding.result.mask c.args.set.now c.args.patch.now c.set_under.new.patch c.requires.set
    (set_left c.unpack_encoding-encoding.result.mask (cells_of c.unpack_encoding-encoding.result.nulls 0 d.values) c.args.patch.now c.set_under.new.patch
    (cells_wide c.args.store.now.layout.limits.columns c.args.patch.now c.unpack_encoding-encoding.result.nulls d.values (columns_of c.args.store.now.layout.limits c.args.seat.now.view c.args.s c.args.tail d c.requires.reader.seat_of.limits at) c.requires.wide)
    (c.set_under.ensures.patch d (at_on c.args.seat.now.view c.word_from-word.new.seat.view c.args.s c.args.tail d c.word_from-word.ensures.watched at)))

pub sets_none-requires : goal.sets_none-requires
sets_none-requires c = encoded c.args.seat.now.view c.args.s c.args.tail c.args.store.now.layout.limits c.requires.reader.seat_of.limits c.args.store.now.layout.valid.columns.1 c.word_from-word.result c.word_from-word.ensures.word c.requires.version.0 c.requires.version.1

pub unpack_encoding-encoding-requires : goal.unpack_encoding-encoding-requires
unpack_encoding-encoding-requires c = encoded c.args.seat.now.view c.args.s c.args.tail c.args.store.now.layout.limits c.requires.reader.seat_of.limits c.args.store.now.layout.valid.columns.1 c.word_from-word.result c.word_from-word.ensures.word c.requires.version.0 c.requires.version.1
