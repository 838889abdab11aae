use Rattle.std.proofs.Common.{◌≡◌, ℕ, List, Bool, true, false, slice_index_or, ap, ◌∙◌}
use Rattle.lst_rule.specs.declared.view.View.{View}
use Rattle.lst_rule.specs.Rule.{hosts}
use Rattle.lst_write.proofs.Posting.{has_tail, posts_whole}
use Rattle.lst_test_steps.proofs.Idling.{fits_latched, released, released_full, installed}
use Rattle.lst_test_steps.proofs.read_tests.write_on.Goals as goal

hosts_still : (v w : View) (s : ℕ) → w.hosts ≡ v.hosts → hosts v s ≡ true → hosts w s ≡ true
hosts_still v w s same hosted = ap (λ (bs : List Bool). slice_index_or bs s false) same ∙ hosted

pub append-requires-clause-host : goal.append-requires-clause-host
append-requires-clause-host c = hosts_still c.args.seat.now.view c.judge.new.seat.view c.args.s (c.judge.ensures.watched.learns.hosted ∙ c.in-Ok.ensures.ok.view.hosted) (c.requires.pair.hosted c.args.s c.requires.session)

pub release-requires-in_default-append-clause-host : goal.release-requires-in_default-append-clause-host
release-requires-in_default-append-clause-host c = hosts_still c.args.seat.now.view c.append.new.seat.view c.args.s (c.in_default-append.ensures.err.counts.view.hosted ∙ (c.judge.ensures.watched.learns.hosted ∙ c.in-Ok.ensures.ok.view.hosted)) (c.requires.pair.hosted c.args.s c.requires.session)

pub post_all-requires-clause-host : goal.post_all-requires-clause-host
post_all-requires-clause-host c = hosts_still c.args.seat.now.view c.append.new.seat.view c.args.s (c.in-Ok-append.ensures.ok.view.hosted ∙ (c.judge.ensures.watched.learns.hosted ∙ c.in-Ok.ensures.ok.view.hosted)) (c.requires.pair.hosted c.args.s c.requires.session)

pub install-requires-clause-host : goal.install-requires-clause-host
install-requires-clause-host c = hosts_still c.args.seat.now.view c.post_all.new.seat.view c.args.s (c.post_all.ensures.posts.view.hosted ∙ (c.in-Ok-append.ensures.ok.view.hosted ∙ (c.judge.ensures.watched.learns.hosted ∙ c.in-Ok.ensures.ok.view.hosted))) (c.requires.pair.hosted c.args.s c.requires.session)

pub returns-in_default-judge : goal.returns-in_default-judge
returns-in_default-judge c = released c.args.store.now c.args.seat.now c.args.s c.requires.pair c.requires.session c.latch.new.seat.view c.judge.new.seat.view _ _ c.in-Ok.ensures.ok c.judge.ensures.watched c.release.new.seat c.release.ensures.seat c.release.ensures.view

pub append-requires-clause-fits : goal.append-requires-clause-fits
append-requires-clause-fits c = fits_latched c.args.seat.now.view c.latch.new.seat.view c.judge.new.seat.view c.args.s c.args.rec.number _ c.args.act.now c.in-Ok.ensures.ok c.judge.ensures.keeps c.requires.fits

pub returns-in_default-append : goal.returns-in_default-append
returns-in_default-append c = released_full c.args.store.now c.args.seat.now c.args.s c.requires.pair c.requires.session c.latch.new.seat.view c.judge.new.seat.view _ _ c.in-Ok.ensures.ok c.judge.ensures.watched
    c.append.new.seat.view c.release-in_default-append.new.seat _ c.release-in_default-append.ensures.seat c.in_default-append.ensures.err c.release-in_default-append.ensures.view

pub returns : goal.returns
returns c = installed c.args.store.now c.args.seat.now c.args.s c.requires.pair c.requires.session c.latch.new.seat.view c.judge.new.seat.view _ _ c.in-Ok.ensures.ok c.judge.ensures.watched
    c.append.new.seat.view c.post_all.new.seat.view c.install.new.seat _ _ c.install.ensures.seat (fits_latched c.args.seat.now.view c.latch.new.seat.view c.judge.new.seat.view c.args.s c.args.rec.number _ c.args.act.now c.in-Ok.ensures.ok c.judge.ensures.keeps c.requires.fits) c.in-Ok-append.ensures.ok c.post_all.ensures.posts c.install.ensures.installs

pub post_all-requires-clause-tail : goal.post_all-requires-clause-tail
post_all-requires-clause-tail c = has_tail _ _ c.args.s c.args.rec.number _ _ c.args.act.now c.in-Ok-append.ensures.ok.whole

pub install-requires-clause-whole : goal.install-requires-clause-whole
install-requires-clause-whole c = (_, _, posts_whole c.append.new.seat.view c.post_all.new.seat.view c.args.s c.args.rec.number _ _ c.args.act.now c.post_all.ensures.posts c.in-Ok-append.ensures.ok.whole)
