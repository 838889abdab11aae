use Rattle.lst_test_steps.specs.declared.stages.Stage.TheVariants.{In}
use Rattle.std.proofs.Common.{ap, ◌∙◌}
use Rattle.lst_core_state.specs.declared.known.Known.{Known}
use Rattle.lst_rule.specs.Rule.{knows}
use Rattle.lst_rule.proofs.Learning.{learns_on}
use Rattle.lst_write.proofs.Posting.{has_tail, posts_whole}
use Rattle.lst_test_steps.proofs.Stepping.{drives}
use Rattle.lst_test_steps.proofs.operations.installs.Goals as goal

pub returns : goal.returns
returns c = drives _ _ _ _ _ c.requires.crew c.install.ensures.seat (learns_on c.args.seat.now.view c.post_all.new.seat.view c.install.new.seat.view c.args.s _ _ c.post_all.ensures.posts.view c.install.ensures.word.view) In c.requires.driven.low (ap (λ (k : Known). k.placing.hand) c.post_all.ensures.posts.view.now ∙ c.requires.driven.hand) c.install.ensures.free

pub post_all-requires-clause-tail : goal.post_all-requires-clause-tail
post_all-requires-clause-tail c = let q = c.requires.driven.at in has_tail c.args.seat.now.view.limits (knows c.args.seat.now.view c.args.s) c.args.s c.args.rec q.0 c.args.tail q.1 q.2

pub install-requires-clause-whole : goal.install-requires-clause-whole
install-requires-clause-whole c = let q = c.requires.driven.at in (q.0, q.1, posts_whole c.args.seat.now.view c.post_all.new.seat.view c.args.s c.args.rec q.0 c.args.tail q.1 c.post_all.ensures.posts q.2)
