use Rattle.std.proofs.Common.{rules}
use Rattle.lst_rule.proofs.PostingViews.{posts_on}
use Rattle.lst_second.proofs.visits.visit.Goals as goal

pub returns-in-Some-clause-posts : goal.returns-in-Some-clause-posts
returns-in-Some-clause-posts c = posts_on _ _ _ _ c.look.ensures.posts c.compare.ensures.posts

pub returns-clause-posts : goal.returns-clause-posts
returns-clause-posts c = posts_on _ _ _ _ c.look.ensures.posts c.settle.ensures.posts

pub look-requires-clause-visits : goal.look-requires-clause-visits
look-requires-clause-visits c = c.requires.visits

pub look-requires-clause-offset : goal.look-requires-clause-offset
look-requires-clause-offset c = c.requires.offset

pub compare-requires-clause-visits : goal.compare-requires-clause-visits
compare-requires-clause-visits c = c.look.ensures.visits

pub compare-requires-clause-offset : goal.compare-requires-clause-offset
compare-requires-clause-offset c = c.requires.offset

pub returns-in-Some-clause-seat : goal.returns-in-Some-clause-seat
returns-in-Some-clause-seat c = c.compare.ensures.seat

pub returns-in-Some-clause-shown : goal.returns-in-Some-clause-shown
returns-in-Some-clause-shown c = c.compare.ensures.shown

pub returns-in-Some-clause-next : goal.returns-in-Some-clause-next
returns-in-Some-clause-next c = c.compare.ensures.next

pub settle-requires-clause-visits : goal.settle-requires-clause-visits
settle-requires-clause-visits c = c.look.ensures.visits

pub settle-requires-clause-offset : goal.settle-requires-clause-offset
settle-requires-clause-offset c = c.requires.offset

pub returns-clause-seat : goal.returns-clause-seat
returns-clause-seat c = c.settle.ensures.seat

pub returns-clause-shown : goal.returns-clause-shown
returns-clause-shown c = c.settle.ensures.shown

pub returns-clause-next : goal.returns-clause-next
returns-clause-next c = c.settle.ensures.next

pub settle-requires-clause-may : goal.settle-requires-clause-may
settle-requires-clause-may c = search rules
