use Rattle.lst_rule.proofs.PostingViews.{posts_none, posts_on}
use Rattle.lst_second.proofs.Entries.{columns_none}
use Rattle.lst_second.proofs.posting.post_all.Goals as goal

pub returns-then-layout-eq0-clause-posts : goal.returns-then-layout-eq0-clause-posts
returns-then-layout-eq0-clause-posts c = posts_none c.args.seat.now.view c.args.s

pub loop-column-init : goal.loop-column-init
loop-column-init c = (posts_none c.args.seat.now.view c.args.s, columns_none c.args.store.now c.args.seat.now c.args.s c.requires.seat c.requires.host c.requires.own c.requires.tail)

pub loop-column-preserved : goal.loop-column-preserved
loop-column-preserved c = (posts_on _ _ _ _ c.loop-column.invariant.0 c.post_if_indexed.ensures.posts, c.post_if_indexed.ensures.columns)

pub returns-then-layout-eq0-clause-seat : goal.returns-then-layout-eq0-clause-seat
returns-then-layout-eq0-clause-seat c = c.requires.seat
