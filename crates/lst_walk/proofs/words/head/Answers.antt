use Rattle.std.proofs.Common.{subst, sym, ◌<◌, ℕ}
use Rattle.lst_layout.specs.declared.limits.Limits.{Limits}
use Rattle.lst_layout.specs.declared.place.Place.TheVariants.{HeadWord}
use Rattle.lst_core_state.specs.Cells.{record_count}
use Rattle.lst_rule.specs.Rule.{knows}
use Rattle.lst_rule.specs.Loads.{ChainFound}
use Rattle.lst_walk.proofs.Reading.{looked_watched, looked_possible, reader_on}
use Rattle.lst_walk.proofs.Meanings.{head_found, head_word}
use Rattle.lst_walk.proofs.words.head.Goals as goal

pub unpack_head-requires : goal.unpack_head-requires
unpack_head-requires c = head_word c.args.seat.now.view c.load_head.new.seat.view c.args.s c.args.rec.number c.load_head.result c.args.store.now.layout.limits c.args.store.now.layout.valid
    (head_found c.args.seat.now.view c.load_head.new.seat.view c.args.s c.args.rec.number c.load_head.result c.args.store.now.layout.limits c.requires.reader.seat_of.limits c.load_head.ensures.looked.view.limits c.requires.reader.host c.requires.rec c.load_head.ensures.looked)

pub returns-clause-watched : goal.returns-clause-watched
returns-clause-watched c = looked_watched c.args.seat.now.view c.load_head.new.seat.view c.args.s c.load_head.result (HeadWord c.args.rec.number) c.requires.reader.host
    (subst (λ (l : Limits). c.args.rec.number < record_count l) (sym c.requires.reader.seat_of.limits) c.requires.rec) tt c.load_head.ensures.looked

pub returns-clause-possible : goal.returns-clause-possible
returns-clause-possible c = looked_possible c.args.seat.now.view c.load_head.new.seat.view c.args.s c.load_head.result (HeadWord c.args.rec.number) c.load_head.ensures.looked

pub returns-clause-chain : goal.returns-clause-chain
returns-clause-chain c = subst (λ (n : ℕ). ChainFound c.args.store.now.layout.limits (knows c.load_head.new.seat.view c.args.s) c.args.s c.args.rec.number n) (sym c.unpack_head.ensures.head)
    (head_found c.args.seat.now.view c.load_head.new.seat.view c.args.s c.args.rec.number c.load_head.result c.args.store.now.layout.limits c.requires.reader.seat_of.limits c.load_head.ensures.looked.view.limits c.requires.reader.host c.requires.rec c.load_head.ensures.looked)

pub returns-clause-looked : goal.returns-clause-looked
returns-clause-looked c = (c.load_head.result, c.load_head.ensures.looked, c.unpack_head.ensures.head)

pub load_head-requires-clause-seat : goal.load_head-requires-clause-seat
load_head-requires-clause-seat c = c.requires.reader.seat_of

pub load_head-requires-clause-host : goal.load_head-requires-clause-host
load_head-requires-clause-host c = c.requires.reader.host

pub load_head-requires-clause-place : goal.load_head-requires-clause-place
load_head-requires-clause-place c = (subst (λ (l : Limits). c.args.rec.number < record_count l) (sym c.requires.reader.seat_of.limits) c.requires.rec)

pub returns-clause-reader : goal.returns-clause-reader
returns-clause-reader c = reader_on c.args.store.now c.args.seat.now c.load_head.new.seat c.args.s c.requires.reader (looked_watched c.args.seat.now.view c.load_head.new.seat.view c.args.s c.load_head.result (HeadWord c.args.rec.number) c.requires.reader.host (subst (λ (l : Limits). c.args.rec.number < record_count l) (sym c.requires.reader.seat_of.limits) c.requires.rec) tt c.load_head.ensures.looked) c.load_head.ensures.seat
