use Rattle.std.proofs.Common.{arith}
use mathlib.Core.Logic.{dite}
use native.Mathlib.Decide.{ℕ_discrete}
use Rattle.lst_bits.proofs.Cases.{some_tail, no_tail}
use Rattle.lst_second.proofs.Exchanges.{won_posts, lost_posts}
use Rattle.lst_second.proofs.Entries.{visits_on, may_stand, post_shown, post_stands, post_few}
use Rattle.lst_second.proofs.Runs.{tails_fit}
use Rattle.lst_second.proofs.visits.try_post.Goals as goal

pub step_post-word-requires-clause-stands : goal.step_post-word-requires-clause-stands
step_post-word-requires-clause-stands c = may_stand c.args.store.now.layout.limits _ c.args.seat.now.view _ c.args.entry _ 0 c.args.offset c.requires.visits.seat_of.limits c.requires.visits.host c.requires.visits.own c.requires.visits.entry c.requires.visits.passed c.requires.offset c.requires.position c.requires.may

-- what the exchange finds is the word of a posting
pub unpack_posting-requires : goal.unpack_posting-requires
unpack_posting-requires c = dite (ℕ_discrete c.step_post-word.result 0) (λ e. omega arith)
    (λ lost. let few = post_few c.args.store.now.layout.limits _ _ _ c.args.entry _ _ c.args.offset c.requires.visits.seat_of.limits c.requires.visits.host c.requires.visits.own c.requires.visits.entry c.requires.visits.passed c.requires.offset c.requires.position _ c.step_post-word.ensures.met lost in let fit = tails_fit c.args.store.now.layout.limits c.args.store.now.layout.valid in omega arith)

pub returns-clause-posts : goal.returns-clause-posts
returns-clause-posts c = dite (ℕ_discrete c.step_post-word.result 0)
    (λ free. won_posts _ _ _ c.args.entry _ _ _ c.step_post-word.ensures.met c.requires.visits.host free)
    (λ lost. lost_posts _ _ _ c.args.entry _ _ _ c.step_post-word.ensures.met c.requires.visits.host lost)

pub returns-clause-visits : goal.returns-clause-visits
returns-clause-visits c = visits_on _ _ c.step_post-word.new.seat _ c.args.entry _ c.requires.visits (returns-clause-posts c) c.step_post-word.ensures.seat

pub returns-clause-posted : goal.returns-clause-posted
returns-clause-posted c = no_tail _ c.unpack_posting.result c.step_post-word.result c.unpack_posting.ensures.word (λ free. post_shown c.args.store.now.layout.limits _ _ _ c.args.entry _ _ c.args.offset c.requires.visits.seat_of.limits c.requires.visits.host c.requires.visits.own c.requires.visits.entry c.requires.visits.passed c.requires.offset c.requires.position _ c.step_post-word.ensures.met free)

pub returns-clause-other : goal.returns-clause-other
returns-clause-other c = some_tail _ c.unpack_posting.result c.step_post-word.result c.unpack_posting.ensures.word c.unpack_posting.ensures.range (λ lost. (
  omega arith,
  post_few c.args.store.now.layout.limits _ _ _ c.args.entry _ _ c.args.offset c.requires.visits.seat_of.limits c.requires.visits.host c.requires.visits.own c.requires.visits.entry c.requires.visits.passed c.requires.offset c.requires.position _ c.step_post-word.ensures.met lost,
  post_stands c.args.store.now.layout.limits _ _ _ c.args.entry _ _ c.args.offset c.requires.visits.seat_of.limits c.requires.visits.host c.requires.visits.own c.requires.visits.entry c.requires.visits.passed c.requires.offset c.requires.position _ c.step_post-word.ensures.met lost,
))
