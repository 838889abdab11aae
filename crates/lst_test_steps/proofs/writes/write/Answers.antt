use Rattle.std.proofs.Common.{◌∙◌}
use Rattle.lst_write.proofs.Posting.{has_tail, posts_whole}
use Rattle.lst_test_steps.proofs.Idling.{fits_latched}
use Rattle.lst_test_steps.proofs.Writing.{sees_written}
use Rattle.lst_test_steps.proofs.writes.write.Goals as goal

pub returns-clause-writes : goal.returns-clause-writes
returns-clause-writes c = record {
  hosted = c.install.ensures.word.view.hosted ∙ (c.post_all.ensures.posts.view.hosted ∙ (c.in-Ok-append.ensures.ok.view.hosted ∙ (c.judge.ensures.watched.learns.hosted ∙ c.in-Ok.ensures.ok.view.hosted)));
  limits = c.install.ensures.word.view.limits ∙ (c.post_all.ensures.posts.view.limits ∙ (c.in-Ok-append.ensures.ok.view.limits ∙ (c.judge.ensures.watched.learns.limits ∙ c.in-Ok.ensures.ok.view.limits)));
  free = c.install.ensures.free;
  some = c.install.ensures.writes;
  sees = sees_written _ _ _ _ _ _ _ _ _ _ _ c.in-Ok.ensures.ok c.judge.ensures.watched c.judge.ensures.keeps c.in-Ok-append.ensures.ok c.post_all.ensures.posts c.install.ensures.installs;
}

pub post_all-requires-clause-tail : goal.post_all-requires-clause-tail
post_all-requires-clause-tail c = has_tail _ _ c.args.s c.args.rec.number _ _ c.args.act.now c.in-Ok-append.ensures.ok.whole

pub install-requires-clause-whole : goal.install-requires-clause-whole
install-requires-clause-whole c = (_, _, posts_whole c.append.new.seat.view c.post_all.new.seat.view c.args.s c.args.rec.number _ _ c.args.act.now c.post_all.ensures.posts c.in-Ok-append.ensures.ok.whole)

pub append-requires-clause-fits : goal.append-requires-clause-fits
append-requires-clause-fits c = fits_latched c.args.seat.now.view c.latch.new.seat.view c.judge.new.seat.view c.args.s c.args.rec.number _ c.args.act.now c.in-Ok.ensures.ok c.judge.ensures.keeps c.requires.fits
