use Rattle.lst_core_state.proofs.PostingsLaws.{postings_have_room, versions_are_shown, postings_are_tails, marked_are_posted}
use Rattle.lst_core_state.proofs.laws.postings_are_complete.Goals as goal

pub returns-clause-room : goal.returns-clause-room
returns-clause-room c = postings_have_room

pub returns-clause-shown : goal.returns-clause-shown
returns-clause-shown c = versions_are_shown

pub returns-clause-tails : goal.returns-clause-tails
returns-clause-tails c = postings_are_tails

pub returns-clause-marked : goal.returns-clause-marked
returns-clause-marked c = marked_are_posted
