use Rattle.std.proofs.Common.{Ok, Err, ◌∙◌}
use Rattle.lst_session.proofs.Agreeing.{hosted_on, key_on, judges, fits_sight, newest_is}
use Rattle.lst_rule.specs.Rule.{knows}
use Rattle.lst_write.proofs.Walking.{judged_at}
use Rattle.lst_write.proofs.Posting.{has_tail, posts_whole}
use Rattle.lst_session.proofs.Tried.{misfit_prepares}
use Rattle.lst_session.proofs.writes.prepare.Goals as goal

pub append-requires-clause-judged : goal.append-requires-clause-judged
append-requires-clause-judged c = (judges c.args.seat.now.view c.judged_version.new.seat.view c.agree.new.seat.view c.args.s c.args.rec.number c.args.head c.args.key c.args.act.now (Ok tt) c.consider-2.ensures
    (hosted_on c.args.seat.now.view c.judged_version.new.seat.view c.args.s c.judged_version.ensures.watched c.requires.host) (c.judged_version.ensures.keeps.is_open ∙ c.requires.opened) c.judged_version.ensures.watched (judged_at c.judged_version.new.seat.view.limits (knows c.judged_version.new.seat.view c.args.s) c.args.s c.args.rec.number c.args.head _ c.in-Ok.ensures.ok) c.in_default.ensures.agrees).judged

pub append-requires-clause-fits : goal.append-requires-clause-fits
append-requires-clause-fits c = let host = hosted_on c.args.seat.now.view c.judged_version.new.seat.view c.args.s c.judged_version.ensures.watched c.requires.host in let opened = c.judged_version.ensures.keeps.is_open ∙ c.requires.opened in
    fits_sight c.args.seat.now.view c.agree.new.seat.view c.args.s c.args.rec.number c.args.head c.args.key c.args.act.now
    (key_on c.judged_version.new.seat.view c.agree.new.seat.view c.args.s c.args.rec.number c.args.key c.consider-2.ensures host opened c.agree.ensures.agrees.watched (c.requires.placed.0, c.judged_version.ensures.keeps.facts _ c.requires.placed.1))
    (judges c.args.seat.now.view c.judged_version.new.seat.view c.agree.new.seat.view c.args.s c.args.rec.number c.args.head c.args.key c.args.act.now (Ok tt) c.consider-2.ensures host opened c.judged_version.ensures.watched (judged_at c.judged_version.new.seat.view.limits (knows c.judged_version.new.seat.view c.args.s) c.args.s c.args.rec.number c.args.head _ c.in-Ok.ensures.ok) c.in_default.ensures.agrees)

pub returns-in-Err-clause-prepares : goal.returns-in-Err-clause-prepares
returns-in-Err-clause-prepares c = misfit_prepares c.args.seat.now.view c.agree.new.seat.view c.args.s c.args.rec.number c.args.head c.args.key c.args.act.now c.in-Err.refusal
    (judges c.args.seat.now.view c.judged_version.new.seat.view c.agree.new.seat.view c.args.s c.args.rec.number c.args.head c.args.key c.args.act.now (Err c.in-Err.refusal) c.consider-2.ensures
    (hosted_on c.args.seat.now.view c.judged_version.new.seat.view c.args.s c.judged_version.ensures.watched c.requires.host) (c.judged_version.ensures.keeps.is_open ∙ c.requires.opened) c.judged_version.ensures.watched (judged_at c.judged_version.new.seat.view.limits (knows c.judged_version.new.seat.view c.args.s) c.args.s c.args.rec.number c.args.head _ c.in-Ok.ensures.ok) c.in-Err.ensures.agrees)

pub returns-in-Ok-append-clause-prepares : goal.returns-in-Ok-append-clause-prepares
returns-in-Ok-append-clause-prepares c = record {
  between = c.agree.new.seat.view;
  possible = c.consider-3.ensures;
  judges = judges c.args.seat.now.view c.judged_version.new.seat.view c.agree.new.seat.view c.args.s c.args.rec.number c.args.head c.args.key c.args.act.now (Ok tt) c.consider-2.ensures
      (hosted_on c.args.seat.now.view c.judged_version.new.seat.view c.args.s c.judged_version.ensures.watched c.requires.host) (c.judged_version.ensures.keeps.is_open ∙ c.requires.opened) c.judged_version.ensures.watched (judged_at c.judged_version.new.seat.view.limits (knows c.judged_version.new.seat.view c.args.s) c.args.s c.args.rec.number c.args.head _ c.in-Ok.ensures.ok) c.in_default.ensures.agrees;
  appended = c.append.new.seat.view;
  appends = c.in-Ok-append.ensures.ok;
  posts = c.post_all.ensures.posts;
  whole = posts_whole c.append.new.seat.view c.post_all.new.seat.view c.args.s c.args.rec.number c.args.head c.in-Ok-append.tail c.args.act.now c.post_all.ensures.posts c.in-Ok-append.ensures.ok.whole;
  posted = c.post_all.ensures.posted;
}

pub post_all-requires-clause-tail : goal.post_all-requires-clause-tail
post_all-requires-clause-tail c = has_tail c.append.new.seat.view.limits (knows c.append.new.seat.view c.args.s) c.args.s c.args.rec.number c.args.head c.in-Ok-append.tail c.args.act.now c.in-Ok-append.ensures.ok.whole

pub returns-in-Err-append-clause-prepares : goal.returns-in-Err-append-clause-prepares
returns-in-Err-append-clause-prepares c = record {
  between = c.agree.new.seat.view;
  possible = c.consider-3.ensures;
  judges = judges c.args.seat.now.view c.judged_version.new.seat.view c.agree.new.seat.view c.args.s c.args.rec.number c.args.head c.args.key c.args.act.now (Ok tt) c.consider-2.ensures
      (hosted_on c.args.seat.now.view c.judged_version.new.seat.view c.args.s c.judged_version.ensures.watched c.requires.host) (c.judged_version.ensures.keeps.is_open ∙ c.requires.opened) c.judged_version.ensures.watched (judged_at c.judged_version.new.seat.view.limits (knows c.judged_version.new.seat.view c.args.s) c.args.s c.args.rec.number c.args.head _ c.in-Ok.ensures.ok) c.in_default.ensures.agrees;
  full = c.in-Err-append.ensures.err;
}

pub judged_version-requires-clause-chain : goal.judged_version-requires-clause-chain
judged_version-requires-clause-chain c = (c.requires.chain.copy, c.requires.chain.is)

pub agree-requires-clause-newest : goal.agree-requires-clause-newest
agree-requires-clause-newest c = newest_is c.args.seat.now.view c.judged_version.new.seat.view c.args.s c.args.rec.number c.args.head c.consider.ensures c.consider-2.ensures c.requires.host c.requires.opened c.requires.latch c.requires.chain c.judged_version.ensures.watched _ c.in-Ok.ensures.ok
