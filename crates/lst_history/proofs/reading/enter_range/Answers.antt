use Rattle.std.proofs.Common.{rules, ℕ, ◌≡◌, ◌+◌, ◌*◌, ◌<◌, sym, ap, subst, ◌∙◌, arith}
use Rattle.lst_layout.specs.declared.limits.Limits.{Limits}
use Rattle.lst_layout.specs.Words.{Words}
use Rattle.lst_core_state.specs.Cells.{tail_count}
use Rattle.lst_history.specs.Peeks.{words_in}
use Rattle.lst_history.specs.Commits.{gathered_until}
use Rattle.lst_history.proofs.Looks.{reads_on, same_words}
use Rattle.lst_history.proofs.Drawn.{range_within, range_gathered}
use Rattle.lst_history.proofs.reading.enter_range.Goals as goal

pub loop-done-init : goal.loop-done-init
loop-done-init c = let l : Limits = c.args.seat.now.view.limits in let e : c.args.range * l.tails ≡ c.args.range * l.tails + 0 = omega arith in
    (c.drawn_tails-drawn.ensures.reads, c.requires.commits ∙ ap (gathered_until l (words_in c.args.seat.now.view)) e)

pub tail_of-before-requires-clause-range : goal.tail_of-before-requires-clause-range
tail_of-before-requires-clause-range c = subst (λ (l : Limits). c.args.range < l.ranges) c.requires.reader.seat_of.limits c.requires.range

pub tail_of-before-requires-clause-number : goal.tail_of-before-requires-clause-number
tail_of-before-requires-clause-number c = let low : c.loop-done.done < c.drawn_tails-drawn.result = search rules in let few = c.drawn_tails-drawn.ensures.drawn.0 in let same = ap (λ (l : Limits). l.tails) c.requires.reader.seat_of.limits in omega arith

pub enter_tail-requires-clause-reader : goal.enter_tail-requires-clause-reader
enter_tail-requires-clause-reader c = c.loop-done.invariant.0.reader

pub enter_tail-requires-clause-done : goal.enter_tail-requires-clause-done
enter_tail-requires-clause-done c = let l : Limits = c.args.seat.now.view.limits in let low : c.loop-done.done < c.drawn_tails-drawn.result = search rules in let few = c.drawn_tails-drawn.ensures.drawn.0 in
    let inside = range_within l c.args.range c.loop-done.done c.requires.range (omega arith) in
    let before : c.tail_of-before.result ≡ c.args.range * l.tails + c.loop-done.done = c.tail_of-before.ensures ∙ ap (λ (k : Limits). c.args.range * k.tails + c.loop-done.done) (sym c.requires.reader.seat_of.limits) in
    subst (λ (k : Limits). c.tail_of-before.result < tail_count k) (sym c.loop-done.invariant.0.limits) (subst (λ (n : ℕ). n < tail_count l) (sym before) inside)

pub enter_tail-requires-clause-commits : goal.enter_tail-requires-clause-commits
enter_tail-requires-clause-commits c = let l : Limits = c.args.seat.now.view.limits in
    let before : c.tail_of-before.result ≡ c.args.range * l.tails + c.loop-done.done = c.tail_of-before.ensures ∙ ap (λ (k : Limits). c.args.range * k.tails + c.loop-done.done) (sym c.requires.reader.seat_of.limits) in
    c.loop-done.invariant.1 ∙ (λ i. gathered_until (sym c.loop-done.invariant.0.limits i) (sym (same_words c.args.store.now c.args.seat.now c.loop-done.seat c.args.s c.loop-done.invariant.0) i) (sym before i))

pub returns-in_err-enter_tail-clause-reads : goal.returns-in_err-enter_tail-clause-reads
returns-in_err-enter_tail-clause-reads c = reads_on c.args.store.now c.args.seat.now c.loop-done.seat c.enter_tail.new.seat c.args.s c.loop-done.invariant.0 c.enter_tail.ensures.reads

pub loop-done-preserved : goal.loop-done-preserved
loop-done-preserved c = let l : Limits = c.args.seat.now.view.limits in
    let next : c.tail_of-before.result + 1 ≡ c.args.range * l.tails + (c.loop-done.done + 1) = let before : c.tail_of-before.result ≡ c.args.range * l.tails + c.loop-done.done = c.tail_of-before.ensures ∙ ap (λ (k : Limits). c.args.range * k.tails + c.loop-done.done) (sym c.requires.reader.seat_of.limits) in omega arith in (
      reads_on c.args.store.now c.args.seat.now c.loop-done.seat c.enter_tail.new.seat c.args.s c.loop-done.invariant.0 c.enter_tail.ensures.reads,
      c.in_ok-enter_tail.ensures.ok ∙ (λ i. gathered_until (c.loop-done.invariant.0.limits i) (same_words c.args.store.now c.args.seat.now c.loop-done.seat c.args.s c.loop-done.invariant.0 i) (next i)),
    )

pub returns-clause-reads : goal.returns-clause-reads
returns-clause-reads c = c.loop-done.invariant.0

pub returns-clause-ok : goal.returns-clause-ok
returns-clause-ok c = let l : Limits = c.args.seat.now.view.limits in let w : Words = words_in c.args.seat.now.view in let last : c.loop-done.done ≡ c.drawn_tails-drawn.result = search rules in
    c.loop-done.invariant.1 ∙ (ap (λ (n : ℕ). gathered_until l w (c.args.range * l.tails + n)) last ∙ range_gathered c.args.seat.now.view c.consider.ensures c.requires.reader.whole c.args.range c.drawn_tails-drawn.result c.drawn_tails-drawn.ensures.drawn)
