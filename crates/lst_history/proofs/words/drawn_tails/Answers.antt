use Rattle.std.proofs.Common.{sym, ap, arith, inl, inr}
use Rattle.lst_layout.specs.declared.limits.Limits.{Limits}
use Rattle.lst_layout.specs.declared.place.Place.TheVariants.{TailCounter}
use Rattle.lst_history.proofs.Looks.{look_reads, look_finds, layout_limits}
use Rattle.lst_history.proofs.words.drawn_tails.Goals as goal

pub returns-then-counter-tails-clause-reads : goal.returns-then-counter-tails-clause-reads
returns-then-counter-tails-clause-reads c = look_reads c.args.store.now c.args.seat.now c.load_tail_counter-counter.new.seat c.args.s c.load_tail_counter-counter.result (TailCounter c.args.range) c.requires.reader c.load_tail_counter-counter.ensures.seat c.requires.range tt c.load_tail_counter-counter.ensures.looked

pub returns-then-counter-tails-clause-drawn : goal.returns-then-counter-tails-clause-drawn
returns-then-counter-tails-clause-drawn c = let word = look_finds c.args.store.now c.args.seat.now c.load_tail_counter-counter.new.seat c.args.s c.load_tail_counter-counter.result (TailCounter c.args.range) c.requires.reader c.load_tail_counter-counter.ensures.seat c.requires.range tt c.load_tail_counter-counter.ensures.looked in let same = ap (λ (l : Limits). l.tails) (layout_limits c.args.store.now c.args.seat.now.view c.layout.result.now c.requires.reader.seat_of.limits c.layout.ensures) in let low = c.if-counter-tails.true in
    (omega arith, omega arith, inr word)

pub returns-else-counter-tails-clause-reads : goal.returns-else-counter-tails-clause-reads
returns-else-counter-tails-clause-reads c = look_reads c.args.store.now c.args.seat.now c.load_tail_counter-counter.new.seat c.args.s c.load_tail_counter-counter.result (TailCounter c.args.range) c.requires.reader c.load_tail_counter-counter.ensures.seat c.requires.range tt c.load_tail_counter-counter.ensures.looked

pub returns-else-counter-tails-clause-drawn : goal.returns-else-counter-tails-clause-drawn
returns-else-counter-tails-clause-drawn c = let word = look_finds c.args.store.now c.args.seat.now c.load_tail_counter-counter.new.seat c.args.s c.load_tail_counter-counter.result (TailCounter c.args.range) c.requires.reader c.load_tail_counter-counter.ensures.seat c.requires.range tt c.load_tail_counter-counter.ensures.looked in let same = ap (λ (l : Limits). l.tails) (layout_limits c.args.store.now c.args.seat.now.view c.layout.result.now c.requires.reader.seat_of.limits c.layout.ensures) in let high = c.if-counter-tails.false in
    (omega arith, omega arith, inl (sym same))
