use Rattle.lst_work.proofs.SeenAlike.{parted_have_seen_alike, gathered_have_seen_alike, phases_see_alike, lines_see_alike, tellers_know, hearers_know, knowers_have_seen_alike, seen_alike_is_kept, hearers_have_grown, summers_have_grown}
use Rattle.lst_work.proofs.par_sums.sessions_see_alike.Goals as goal

pub returns-clause-parted : goal.returns-clause-parted
returns-clause-parted c = parted_have_seen_alike

pub returns-clause-gathered : goal.returns-clause-gathered
returns-clause-gathered c = gathered_have_seen_alike

pub returns-clause-phase : goal.returns-clause-phase
returns-clause-phase c = phases_see_alike

pub returns-clause-line : goal.returns-clause-line
returns-clause-line c = lines_see_alike

pub returns-clause-teller : goal.returns-clause-teller
returns-clause-teller c = tellers_know

pub returns-clause-hearer : goal.returns-clause-hearer
returns-clause-hearer c = hearers_know

pub returns-clause-told : goal.returns-clause-told
returns-clause-told c = knowers_have_seen_alike

pub returns-clause-kept : goal.returns-clause-kept
returns-clause-kept c = seen_alike_is_kept

pub returns-clause-heard : goal.returns-clause-heard
returns-clause-heard c = hearers_have_grown

pub returns-clause-summed : goal.returns-clause-summed
returns-clause-summed c = summers_have_grown
