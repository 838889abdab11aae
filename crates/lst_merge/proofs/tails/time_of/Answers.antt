use Rattle.std.proofs.Common.{◌≡◌, ℕ, true, ◌≤◌, subst, sym, arith}
use Rattle.lst_layout.specs.declared.limits.Limits.{Limits}
use Rattle.lst_core_state.specs.Cells.{tail_count}
use Rattle.lst_rule.specs.Rule.{hosts}
use Rattle.lst_merge.proofs.Statuses.{start_named, tail_merger, inspects_status, found_closed, found_committed, found_empty, found_unfinished}
use Rattle.lst_merge.proofs.tails.time_of.Goals as goal

pub status_of-requires-clause-named : goal.status_of-requires-clause-named
status_of-requires-clause-named c = start_named c.args.seat.now.view _ _ c.args.tail.identifier _ (subst (λ (j : ℕ). hosts c.args.seat.now.view j ≡ true) (sym (tail_merger c.args.store.now c.args.seat.now c.args.tail c.requires.seat c.requires.tail)) c.requires.host) c.requires.tail.some (subst (λ (l : Limits). c.args.tail.identifier ≤ tail_count l) (sym c.requires.seat.limits) c.requires.tail.few) c.load_cell_from-start.ensures.looked

pub returns-in-Closed-clause-inspects : goal.returns-in-Closed-clause-inspects
returns-in-Closed-clause-inspects c = inspects_status c.args.seat.now.view _ _ _ c.args.tail.identifier _ (tail_merger c.args.store.now c.args.seat.now c.args.tail c.requires.seat c.requires.tail) c.requires.host c.requires.tail.some (subst (λ (l : Limits). c.args.tail.identifier ≤ tail_count l) (sym c.requires.seat.limits) c.requires.tail.few) c.load_cell_from-start.ensures.looked c.status_of.ensures.asked

pub returns-in-Closed-clause-some : goal.returns-in-Closed-clause-some
returns-in-Closed-clause-some c = found_closed c.args.seat.now.view _ _ _ c.args.tail.identifier _ (tail_merger c.args.store.now c.args.seat.now c.args.tail c.requires.seat c.requires.tail) c.requires.host c.requires.tail.some (subst (λ (l : Limits). c.args.tail.identifier ≤ tail_count l) (sym c.requires.seat.limits) c.requires.tail.few) c.load_cell_from-start.ensures.looked c.status_of.ensures.asked c.in-Closed.ensures.status

pub returns-in-Committed-clause-inspects : goal.returns-in-Committed-clause-inspects
returns-in-Committed-clause-inspects c = inspects_status c.args.seat.now.view _ _ _ c.args.tail.identifier _ (tail_merger c.args.store.now c.args.seat.now c.args.tail c.requires.seat c.requires.tail) c.requires.host c.requires.tail.some (subst (λ (l : Limits). c.args.tail.identifier ≤ tail_count l) (sym c.requires.seat.limits) c.requires.tail.few) c.load_cell_from-start.ensures.looked c.status_of.ensures.asked

pub returns-in-Committed-clause-some : goal.returns-in-Committed-clause-some
returns-in-Committed-clause-some c = found_committed c.args.seat.now.view _ _ _ c.args.tail.identifier _ (tail_merger c.args.store.now c.args.seat.now c.args.tail c.requires.seat c.requires.tail) c.requires.host c.requires.tail.some (subst (λ (l : Limits). c.args.tail.identifier ≤ tail_count l) (sym c.requires.seat.limits) c.requires.tail.few) c.load_cell_from-start.ensures.looked c.status_of.ensures.asked c.in-Committed.time (omega arith) c.in-Committed.ensures.status

pub returns-in-Empty-clause-inspects : goal.returns-in-Empty-clause-inspects
returns-in-Empty-clause-inspects c = inspects_status c.args.seat.now.view _ _ _ c.args.tail.identifier _ (tail_merger c.args.store.now c.args.seat.now c.args.tail c.requires.seat c.requires.tail) c.requires.host c.requires.tail.some (subst (λ (l : Limits). c.args.tail.identifier ≤ tail_count l) (sym c.requires.seat.limits) c.requires.tail.few) c.load_cell_from-start.ensures.looked c.status_of.ensures.asked

pub returns-in-Empty-clause-none : goal.returns-in-Empty-clause-none
returns-in-Empty-clause-none c = found_empty c.args.seat.now.view _ _ _ c.args.tail.identifier _ (tail_merger c.args.store.now c.args.seat.now c.args.tail c.requires.seat c.requires.tail) c.requires.host c.requires.tail.some (subst (λ (l : Limits). c.args.tail.identifier ≤ tail_count l) (sym c.requires.seat.limits) c.requires.tail.few) c.load_cell_from-start.ensures.looked c.status_of.ensures.asked c.in-Empty.ensures.status

pub returns-in-Unfinished-clause-inspects : goal.returns-in-Unfinished-clause-inspects
returns-in-Unfinished-clause-inspects c = inspects_status c.args.seat.now.view _ _ _ c.args.tail.identifier _ (tail_merger c.args.store.now c.args.seat.now c.args.tail c.requires.seat c.requires.tail) c.requires.host c.requires.tail.some (subst (λ (l : Limits). c.args.tail.identifier ≤ tail_count l) (sym c.requires.seat.limits) c.requires.tail.few) c.load_cell_from-start.ensures.looked c.status_of.ensures.asked

pub returns-in-Unfinished-clause-none : goal.returns-in-Unfinished-clause-none
returns-in-Unfinished-clause-none c = found_unfinished c.args.seat.now.view _ _ _ c.args.tail.identifier _ (tail_merger c.args.store.now c.args.seat.now c.args.tail c.requires.seat c.requires.tail) c.requires.host c.requires.tail.some (subst (λ (l : Limits). c.args.tail.identifier ≤ tail_count l) (sym c.requires.seat.limits) c.requires.tail.few) c.load_cell_from-start.ensures.looked c.status_of.ensures.asked _ _ c.consider.ensures c.in-Unfinished.ensures.status
