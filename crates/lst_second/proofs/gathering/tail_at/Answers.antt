use Rattle.std.proofs.Common.{◌<◌, ℕ, subst, sym, ap, ◌∙◌, arith}
use mathlib.Core.Logic.{dite}
use native.Mathlib.Decide.{ℕ_discrete}
use Rattle.lst_bits.proofs.Cases.{some_tail, no_tail}
use Rattle.lst_layout.specs.declared.limits.Limits.{Limits}
use Rattle.lst_layout.specs.declared.layout.Layout.{Layout}
use Rattle.lst_layout.specs.Areas.{posting_positions, IsIndexed}
use Rattle.lst_core_state.specs.Postings.{postings_size, value_position}
use Rattle.lst_second.proofs.Runs.{size_is, tails_fit}
use Rattle.lst_second.proofs.Gathered.{seeks_on, look_probes, look_ends, look_stands, look_few}
use Rattle.lst_second.proofs.gathering.tail_at.Goals as goal

pub load_posting-word-requires-clause-place : goal.load_posting-word-requires-clause-place
load_posting-word-requires-clause-place c = let l : Limits = c.args.store.now.layout.limits in
    let below = subst (λ (y : Layout). c.position-at.result < postings_size y.limits) c.layout.ensures c.position-at.ensures.below in
    subst (λ (z : Limits). (c.args.sought.column < z.columns) × IsIndexed z c.args.sought.column × (c.position-at.result < posting_positions z)) (sym c.requires.seeks.seat_of.limits)
    (c.requires.seeks.low, c.requires.seeks.indexed, subst (λ (n : ℕ). c.position-at.result < n) (size_is l) below)

-- what the load finds is the word of a posting
pub unpack_posting-requires : goal.unpack_posting-requires
unpack_posting-requires c = let at = c.position-at.ensures.position ∙ ap (λ (y : Layout). value_position y.limits c.args.sought.value c.args.offset) c.layout.ensures in
    dite (ℕ_discrete c.load_posting-word.result 0) (λ e. omega arith)
    (λ ne. let few = look_few c.args.store.now c.args.seat.now c.load_posting-word.new.seat c.args.s c.args.sought c.position-at.result c.load_posting-word.result c.args.offset c.requires.seeks at c.load_posting-word.ensures.looked ne in let fit = tails_fit c.args.store.now.layout.limits c.args.store.now.layout.valid in omega arith)

pub returns-clause-probes : goal.returns-clause-probes
returns-clause-probes c = let at = c.position-at.ensures.position ∙ ap (λ (y : Layout). value_position y.limits c.args.sought.value c.args.offset) c.layout.ensures in
    look_probes c.args.store.now c.args.seat.now c.load_posting-word.new.seat c.args.s c.args.sought c.position-at.result c.load_posting-word.result c.args.offset c.requires.seeks at c.load_posting-word.ensures.looked

pub returns-clause-seeks : goal.returns-clause-seeks
returns-clause-seeks c = seeks_on c.args.store.now c.args.seat.now c.load_posting-word.new.seat c.args.s c.args.sought c.requires.seeks (returns-clause-probes c) c.load_posting-word.ensures.seat

pub returns-clause-some : goal.returns-clause-some
returns-clause-some c = let at = c.position-at.ensures.position ∙ ap (λ (y : Layout). value_position y.limits c.args.sought.value c.args.offset) c.layout.ensures in
    some_tail _ c.unpack_posting.result c.load_posting-word.result c.unpack_posting.ensures.word c.unpack_posting.ensures.range (λ some. (
      omega arith,
      look_few c.args.store.now c.args.seat.now c.load_posting-word.new.seat c.args.s c.args.sought c.position-at.result c.load_posting-word.result c.args.offset c.requires.seeks at c.load_posting-word.ensures.looked some,
      look_stands c.args.store.now c.args.seat.now c.load_posting-word.new.seat c.args.s c.args.sought c.position-at.result c.load_posting-word.result c.args.offset c.requires.seeks at c.load_posting-word.ensures.looked some,
    ))

pub returns-clause-none : goal.returns-clause-none
returns-clause-none c = let at = c.position-at.ensures.position ∙ ap (λ (y : Layout). value_position y.limits c.args.sought.value c.args.offset) c.layout.ensures in
    no_tail _ c.unpack_posting.result c.load_posting-word.result c.unpack_posting.ensures.word (λ free. look_ends c.args.store.now c.args.seat.now c.load_posting-word.new.seat c.args.s c.args.sought c.position-at.result c.load_posting-word.result c.args.offset c.requires.seeks at c.load_posting-word.ensures.looked free)
