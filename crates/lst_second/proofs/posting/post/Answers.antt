use Rattle.lst_rule.proofs.PostingViews.{posts_on}
use Rattle.lst_second.proofs.posting.post.Goals as goal

pub returns-in-Some-clause-posts : goal.returns-in-Some-clause-posts
returns-in-Some-clause-posts c = posts_on _ _ _ _ c.entry.ensures.posts c.post_entry.ensures.posts

pub entry-requires-clause-seat : goal.entry-requires-clause-seat
entry-requires-clause-seat c = c.requires.seat

pub entry-requires-clause-host : goal.entry-requires-clause-host
entry-requires-clause-host c = c.requires.host

pub entry-requires-clause-own : goal.entry-requires-clause-own
entry-requires-clause-own c = c.requires.own

pub entry-requires-clause-tail : goal.entry-requires-clause-tail
entry-requires-clause-tail c = c.requires.tail

pub entry-requires-clause-column : goal.entry-requires-clause-column
entry-requires-clause-column c = c.requires.column

pub entry-requires-clause-indexed : goal.entry-requires-clause-indexed
entry-requires-clause-indexed c = c.requires.indexed

pub returns-in-Some-clause-seat : goal.returns-in-Some-clause-seat
returns-in-Some-clause-seat c = c.post_entry.ensures.seat

pub returns-in_default-clause-seat : goal.returns-in_default-clause-seat
returns-in_default-clause-seat c = c.entry.ensures.seat

pub returns-in_default-clause-posts : goal.returns-in_default-clause-posts
returns-in_default-clause-posts c = c.entry.ensures.posts
