use Rattle.lst_rule.proofs.PostingViews.{posts_on}
use Rattle.lst_second.proofs.visits.settle.Goals as goal

pub returns-in-Some-clause-posts : goal.returns-in-Some-clause-posts
returns-in-Some-clause-posts c = posts_on _ _ _ _ c.try_post.ensures.posts c.compare.ensures.posts

pub try_post-requires-clause-visits : goal.try_post-requires-clause-visits
try_post-requires-clause-visits c = c.requires.visits

pub try_post-requires-clause-offset : goal.try_post-requires-clause-offset
try_post-requires-clause-offset c = c.requires.offset

pub try_post-requires-clause-position : goal.try_post-requires-clause-position
try_post-requires-clause-position c = c.requires.position

pub try_post-requires-clause-below : goal.try_post-requires-clause-below
try_post-requires-clause-below c = c.requires.below

pub try_post-requires-clause-may : goal.try_post-requires-clause-may
try_post-requires-clause-may c = c.requires.may

pub compare-requires-clause-visits : goal.compare-requires-clause-visits
compare-requires-clause-visits c = c.try_post.ensures.visits

pub compare-requires-clause-offset : goal.compare-requires-clause-offset
compare-requires-clause-offset c = c.requires.offset

pub returns-in-None-clause-posts : goal.returns-in-None-clause-posts
returns-in-None-clause-posts c = c.try_post.ensures.posts

pub returns-in-Some-clause-seat : goal.returns-in-Some-clause-seat
returns-in-Some-clause-seat c = c.compare.ensures.seat

pub returns-in-Some-clause-shown : goal.returns-in-Some-clause-shown
returns-in-Some-clause-shown c = c.compare.ensures.shown

pub returns-in-Some-clause-next : goal.returns-in-Some-clause-next
returns-in-Some-clause-next c = c.compare.ensures.next
