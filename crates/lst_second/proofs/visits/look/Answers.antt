use Rattle.std.proofs.Common.{◌<◌, ℕ, subst, sym, arith}
use mathlib.Core.Logic.{dite}
use native.Mathlib.Decide.{ℕ_discrete}
use Rattle.lst_bits.proofs.Cases.{some_tail, no_tail}
use Rattle.lst_layout.specs.declared.limits.Limits.{Limits}
use Rattle.lst_layout.specs.Areas.{posting_positions, IsIndexed}
use Rattle.lst_second.proofs.Runs.{size_is, tails_fit}
use Rattle.lst_second.proofs.Looks.{posting_posts}
use Rattle.lst_second.proofs.Entries.{visits_on, look_free, look_stands, look_few}
use Rattle.lst_second.proofs.visits.look.Goals as goal

pub load_posting-word-requires-clause-place : goal.load_posting-word-requires-clause-place
load_posting-word-requires-clause-place c = let l : Limits = c.args.store.now.layout.limits in
    subst (λ (z : Limits). (c.args.entry.column < z.columns) × IsIndexed z c.args.entry.column × (c.args.position < posting_positions z)) (sym c.requires.visits.seat_of.limits)
    (c.requires.visits.entry.low, c.requires.visits.entry.indexed, subst (λ (n : ℕ). c.args.position < n) (size_is l) c.requires.below)

-- what the load finds is the word of a posting
pub unpack_posting-requires : goal.unpack_posting-requires
unpack_posting-requires c = dite (ℕ_discrete c.load_posting-word.result 0) (λ e. omega arith)
    (λ ne. let few = look_few c.args.store.now.layout.limits _ _ _ c.args.entry _ _ c.args.offset c.requires.visits.seat_of.limits c.requires.visits.host c.requires.visits.own c.requires.visits.entry c.requires.visits.passed c.requires.offset c.requires.position c.load_posting-word.ensures.looked ne in let fit = tails_fit c.args.store.now.layout.limits c.args.store.now.layout.valid in omega arith)

pub returns-clause-posts : goal.returns-clause-posts
returns-clause-posts c = posting_posts _ _ _ c.args.entry _ _ c.load_posting-word.ensures.looked c.requires.visits.host

pub returns-clause-visits : goal.returns-clause-visits
returns-clause-visits c = visits_on _ _ c.load_posting-word.new.seat _ c.args.entry _ c.requires.visits (posting_posts _ _ _ c.args.entry _ _ c.load_posting-word.ensures.looked c.requires.visits.host) c.load_posting-word.ensures.seat

pub returns-clause-some : goal.returns-clause-some
returns-clause-some c = some_tail _ c.unpack_posting.result c.load_posting-word.result c.unpack_posting.ensures.word c.unpack_posting.ensures.range (λ some. (
  omega arith,
  look_few c.args.store.now.layout.limits _ _ _ c.args.entry _ _ c.args.offset c.requires.visits.seat_of.limits c.requires.visits.host c.requires.visits.own c.requires.visits.entry c.requires.visits.passed c.requires.offset c.requires.position c.load_posting-word.ensures.looked some,
  look_stands c.args.store.now.layout.limits _ _ _ c.args.entry _ _ c.args.offset c.requires.visits.seat_of.limits c.requires.visits.host c.requires.visits.own c.requires.visits.entry c.requires.visits.passed c.requires.offset c.requires.position c.load_posting-word.ensures.looked some,
))

pub returns-clause-none : goal.returns-clause-none
returns-clause-none c = no_tail _ c.unpack_posting.result c.load_posting-word.result c.unpack_posting.ensures.word (λ free. look_free c.args.store.now.layout.limits _ _ _ c.args.entry _ _ c.args.offset c.requires.visits.seat_of.limits c.requires.visits.host c.requires.visits.own c.requires.visits.entry c.requires.visits.passed c.requires.offset c.requires.position c.load_posting-word.ensures.looked free)
