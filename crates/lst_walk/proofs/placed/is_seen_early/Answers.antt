use Rattle.std.proofs.Common.{◌≡◌, ℕ, ◌*◌, ◌/◌, ◌≤◌, ◌+◌, ◌∙◌, ap, le-leb, refl, sym, subst, arith, inl}
use Rattle.lst_layout.specs.declared.place.Place.TheVariants.{CellWord}
use Rattle.lst_layout.specs.Addresses.{address}
use Rattle.lst_core_state.specs.declared.known.Known.{Known}
use Rattle.lst_rule.specs.Rule.{knows}
use Rattle.lst_rule.specs.Stores.{Looked}
use Rattle.lst_rule.specs.declared.resolutions.Resolution.TheVariants.{Stamped}
use Rattle.lst_rule.proofs.Finds.{loads_cell}
use Rattle.lst_walk.proofs.Reading.{looked_watched, reader_on}
use Rattle.lst_walk.proofs.Stamping.{at_same}
use Rattle.lst_walk.proofs.Standing.{inside, look_seen, look_timed}
use Rattle.lst_walk.proofs.placed.is_seen_early.Goals as goal

pub load_cell_from-start-requires-clause-place : goal.load_cell_from-start-requires-clause-place
load_cell_from-start-requires-clause-place c = inside c.args.store.now c.args.seat.now c.args.s c.args.range c.args.tail c.tail_of.result c.requires.reader c.requires.range c.requires.tail c.tail_of.ensures

pub load_cell_from-start-requires-clause-first : goal.load_cell_from-start-requires-clause-first
load_cell_from-start-requires-clause-first c = c.requires.first ∙ ap (λ (t : ℕ). address c.args.store.now.layout.limits (CellWord t 0)) (sym c.tail_of.ensures)

pub returns-clause-watched : goal.returns-clause-watched
returns-clause-watched c = looked_watched c.args.seat.now.view c.load_cell_from-start.new.seat.view c.args.s c.load_cell_from-start.result (CellWord c.tail_of.result 0) c.requires.reader.host
    (inside c.args.store.now c.args.seat.now c.args.s c.args.range c.args.tail c.tail_of.result c.requires.reader c.requires.range c.requires.tail c.tail_of.ensures) tt c.load_cell_from-start.ensures.looked

pub returns-clause-seen : goal.returns-clause-seen
returns-clause-seen c = λ yes d at. let stored = c.is_time_until.ensures yes in
    let begin_is : c.args.begin ≡ (knows c.load_cell_from-start.new.seat.view c.args.s).begin = c.requires.begin ∙ ap (λ (k : Known). k.begin) (sym c.load_cell_from-start.ensures.looked.view.now) in
    sym (look_seen c.args.store.now c.args.seat.now c.args.s c.args.range c.args.tail c.tail_of.result c.requires.reader c.requires.range c.requires.tail c.tail_of.ensures c.load_cell_from-start.new.seat c.load_cell_from-start.ensures.seat c.consider.ensures (Stamped (c.load_cell_from-start.result / 2))
    (stored.0, (let low = c.load_cell_from-start.type_inv in omega arith), subst (λ (x : ℕ). Looked c.args.seat.now.view c.load_cell_from-start.new.seat.view c.args.s (CellWord c.tail_of.result 0) x) stored.1 c.load_cell_from-start.ensures.looked)
    d (at_same c.args.seat.now.view c.args.s (c.args.range * c.args.store.now.layout.limits.tails + c.args.tail) c.tail_of.result d (sym c.tail_of.ensures) at))
    ∙ le-leb (c.load_cell_from-start.result / 2) (knows c.load_cell_from-start.new.seat.view c.args.s).begin (subst (λ (n : ℕ). c.load_cell_from-start.result / 2 ≤ n) begin_is stored.2)

pub returns-clause-resolved : goal.returns-clause-resolved
returns-clause-resolved c = λ yes. let stored = c.is_time_until.ensures yes in
    inl (look_timed c.args.store.now c.args.seat.now c.args.s c.args.range c.args.tail c.tail_of.result c.requires.reader c.requires.range c.requires.tail c.tail_of.ensures c.load_cell_from-start.new.seat c.load_cell_from-start.ensures.seat c.consider.ensures (Stamped (c.load_cell_from-start.result / 2)) refl
    (stored.0, (let low = c.load_cell_from-start.type_inv in omega arith), subst (λ (x : ℕ). Looked c.args.seat.now.view c.load_cell_from-start.new.seat.view c.args.s (CellWord c.tail_of.result 0) x) stored.1 c.load_cell_from-start.ensures.looked))

pub returns-clause-loads : goal.returns-clause-loads
returns-clause-loads c = loads_cell c.args.seat.now.view c.load_cell_from-start.new.seat.view c.args.s c.tail_of.result (c.args.range * c.args.store.now.layout.limits.tails + c.args.tail) 0 c.load_cell_from-start.result c.tail_of.ensures c.load_cell_from-start.ensures.looked

pub tail_of-requires-clause-range : goal.tail_of-requires-clause-range
tail_of-requires-clause-range c = c.requires.range

pub tail_of-requires-clause-number : goal.tail_of-requires-clause-number
tail_of-requires-clause-number c = c.requires.tail.1

pub load_cell_from-start-requires-clause-seat : goal.load_cell_from-start-requires-clause-seat
load_cell_from-start-requires-clause-seat c = c.requires.reader.seat_of

pub load_cell_from-start-requires-clause-host : goal.load_cell_from-start-requires-clause-host
load_cell_from-start-requires-clause-host c = c.requires.reader.host

pub returns-clause-reader : goal.returns-clause-reader
returns-clause-reader c = reader_on c.args.store.now c.args.seat.now c.load_cell_from-start.new.seat c.args.s c.requires.reader (looked_watched c.args.seat.now.view c.load_cell_from-start.new.seat.view c.args.s c.load_cell_from-start.result (CellWord c.tail_of.result 0) c.requires.reader.host (inside c.args.store.now c.args.seat.now c.args.s c.args.range c.args.tail c.tail_of.result c.requires.reader c.requires.range c.requires.tail c.tail_of.ensures) tt c.load_cell_from-start.ensures.looked) c.load_cell_from-start.ensures.seat
