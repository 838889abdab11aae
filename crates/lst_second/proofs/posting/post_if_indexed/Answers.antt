use Rattle.lst_rule.proofs.PostingViews.{posts_none}
use Rattle.lst_second.proofs.Entries.{columns_on}
use Rattle.lst_second.proofs.posting.post_if_indexed.Goals as goal

pub returns-then-is_indexed-clause-columns : goal.returns-then-is_indexed-clause-columns
returns-then-is_indexed-clause-columns c = columns_on _ _ c.post.new.seat _ _ c.requires.columns c.post.ensures.posts c.post.ensures.seat (λ _. c.post.ensures.posted)

pub returns-else-is_indexed-clause-posts : goal.returns-else-is_indexed-clause-posts
returns-else-is_indexed-clause-posts c = posts_none c.args.seat.now.view c.args.s

pub post-requires-clause-host : goal.post-requires-clause-host
post-requires-clause-host c = c.requires.columns.host

pub post-requires-clause-own : goal.post-requires-clause-own
post-requires-clause-own c = c.requires.columns.own

pub returns-then-is_indexed-clause-posts : goal.returns-then-is_indexed-clause-posts
returns-then-is_indexed-clause-posts c = c.post.ensures.posts
