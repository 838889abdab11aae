use Rattle.std.proofs.Common.{◌+◌, ◌*◌, ◌/◌, ◌<◌, sym, subst, ap, ◌∙◌, arith}
use Rattle.lst_layout.specs.declared.limits.Limits.{Limits}
use Rattle.lst_core_state.specs.Cells.{record_count}
use Rattle.lst_rule.proofs.Watching.{watches_join, watchers_keep}
use Rattle.lst_write.proofs.Walking.{latched_on, turn_kept, starts_walk, walk_ends, hand, walk_version, walk_seen, walk_newer, walk_unfinished, walk_again, walk_falls, walk_on}
use Rattle.lst_write.proofs.judgement.judged_version.Goals as goal

pub loop-number-init : goal.loop-number-init
loop-number-init c = starts_walk _ _ _ _ _ c.requires.seat c.requires.host (latched_on _ _ _ _ c.consider.ensures c.requires.host c.requires.own c.requires.latch) c.requires.chain

pub tail_of-tail-requires-clause-range : goal.tail_of-tail-requires-clause-range
tail_of-tail-requires-clause-range c = let low = c.loop-number.invariant.copy.low in let e = ap record_count c.loop-number.invariant.seat_of.limits in omega arith

pub tail_of-tail-requires-clause-number : goal.tail_of-tail-requires-clause-number
tail_of-tail-requires-clause-number c = let few = (hand _ _ _ _ _ _ _ c.loop-number.invariant c.loop-number-test.true).few in let e = ap (λ (l : Limits). l.tails) c.loop-number.invariant.seat_of.limits in omega arith

pub standing_of-requires-clause-own : goal.standing_of-requires-clause-own
standing_of-requires-clause-own c = subst (λ (l : Limits). c.args.s < l.sessions) (sym c.loop-number.invariant.watched.learns.limits) c.requires.own

pub standing_of-requires-clause-range : goal.standing_of-requires-clause-range
standing_of-requires-clause-range c = let low = c.loop-number.invariant.copy.low in omega arith

pub standing_of-requires-clause-number : goal.standing_of-requires-clause-number
standing_of-requires-clause-number c = (c.loop-number-test.true, (hand _ _ _ _ _ _ _ c.loop-number.invariant c.loop-number-test.true).few)

pub standing_of-requires-clause-tail : goal.standing_of-requires-clause-tail
standing_of-requires-clause-tail c = c.tail_of-tail.ensures ∙ ap (λ (l : Limits). c.args.rec.number / 256 * l.tails + c.loop-number.number) (sym c.loop-number.invariant.seat_of.limits)

pub standing_of-requires-clause-version : goal.standing_of-requires-clause-version
standing_of-requires-clause-version c = walk_version _ _ _ _ _ _ _ c.loop-number.invariant c.loop-number-test.true _ (c.tail_of-tail.ensures)

pub returns-in-Seen-clause-watched : goal.returns-in-Seen-clause-watched
returns-in-Seen-clause-watched c = watches_join _ _ _ _ c.loop-number.invariant.watched c.standing_of.ensures.watched

pub returns-in-Seen-clause-turn : goal.returns-in-Seen-clause-turn
returns-in-Seen-clause-turn c = turn_kept _ _ _ _ _ c.consider.ensures c.requires.host c.requires.own c.requires.latch (watches_join _ _ _ _ c.loop-number.invariant.watched c.standing_of.ensures.watched)

pub returns-in-Newer-clause-watched : goal.returns-in-Newer-clause-watched
returns-in-Newer-clause-watched c = watches_join _ _ _ _ c.loop-number.invariant.watched c.standing_of.ensures.watched

pub returns-in-Newer-clause-turn : goal.returns-in-Newer-clause-turn
returns-in-Newer-clause-turn c = turn_kept _ _ _ _ _ c.consider.ensures c.requires.host c.requires.own c.requires.latch (watches_join _ _ _ _ c.loop-number.invariant.watched c.standing_of.ensures.watched)

pub returns-in-Unfinished-clause-watched : goal.returns-in-Unfinished-clause-watched
returns-in-Unfinished-clause-watched c = watches_join _ _ _ _ c.loop-number.invariant.watched c.standing_of.ensures.watched

pub returns-in-Unfinished-clause-turn : goal.returns-in-Unfinished-clause-turn
returns-in-Unfinished-clause-turn c = turn_kept _ _ _ _ _ c.consider.ensures c.requires.host c.requires.own c.requires.latch (watches_join _ _ _ _ c.loop-number.invariant.watched c.standing_of.ensures.watched)

pub returns-in-Seen-clause-ok : goal.returns-in-Seen-clause-ok
returns-in-Seen-clause-ok c = walk_seen _ _ _ _ _ _ _ c.loop-number.invariant c.loop-number-test.true _ (c.tail_of-tail.ensures) _ c.standing_of.ensures.watched c.in-Seen.ensures.stands

pub returns-in-Seen-clause-settled : goal.returns-in-Seen-clause-settled
returns-in-Seen-clause-settled c = c.in-Seen.ensures.settled

pub returns-in-Newer-clause-err : goal.returns-in-Newer-clause-err
returns-in-Newer-clause-err c = walk_newer _ _ _ _ _ _ _ c.loop-number.invariant c.loop-number-test.true _ (c.tail_of-tail.ensures) _ c.standing_of.ensures.watched c.in-Newer.time c.consider-in-Newer.ensures c.in-Newer.ensures.stands

pub returns-in-Unfinished-clause-err : goal.returns-in-Unfinished-clause-err
returns-in-Unfinished-clause-err c = walk_unfinished _ _ _ _ _ _ _ c.loop-number.invariant c.loop-number-test.true _ (c.tail_of-tail.ensures) _ c.standing_of.ensures.watched c.in-Unfinished.session c.in-Unfinished.number c.in-Unfinished.ensures.stands

pub version_below-number-requires-clause-version : goal.version_below-number-requires-clause-version
version_below-number-requires-clause-version c = walk_again _ _ _ _ _ _ _ c.loop-number.invariant c.loop-number-test.true _ (c.tail_of-tail.ensures) _ c.standing_of.ensures.watched

pub loop-number-smaller : goal.loop-number-smaller
loop-number-smaller c = walk_falls _ _ _ _ _ _ _ c.loop-number.invariant c.loop-number-test.true _ (c.tail_of-tail.ensures) _ c.standing_of.ensures.watched c.version_below-number.new.seat c.version_below-number.result c.version_below-number.ensures.seat c.version_below-number.ensures.watched c.version_below-number.ensures.back

pub loop-number-preserved : goal.loop-number-preserved
loop-number-preserved c = walk_on _ _ _ _ _ _ _ c.loop-number.invariant c.loop-number-test.true _ (c.tail_of-tail.ensures) _ c.standing_of.ensures.watched c.version_below-number.new.seat c.version_below-number.result c.version_below-number.ensures.seat c.version_below-number.ensures.watched c.version_below-number.ensures.back c.in-Closed.ensures.stands

pub returns-clause-turn : goal.returns-clause-turn
returns-clause-turn c = turn_kept _ _ _ _ _ c.consider.ensures c.requires.host c.requires.own c.requires.latch c.loop-number.invariant.watched

pub returns-clause-ok : goal.returns-clause-ok
returns-clause-ok c = walk_ends _ _ _ _ _ _ _ c.loop-number.invariant (let h = c.loop-number-test.false in omega arith)

pub returns-in-Seen-clause-keeps : goal.returns-in-Seen-clause-keeps
returns-in-Seen-clause-keeps c = watchers_keep _ _ _ c.consider.ensures c.requires.host (latched_on _ _ _ _ c.consider.ensures c.requires.host c.requires.own c.requires.latch) (watches_join _ _ _ _ c.loop-number.invariant.watched c.standing_of.ensures.watched)

pub returns-in-Newer-clause-keeps : goal.returns-in-Newer-clause-keeps
returns-in-Newer-clause-keeps c = watchers_keep _ _ _ c.consider.ensures c.requires.host (latched_on _ _ _ _ c.consider.ensures c.requires.host c.requires.own c.requires.latch) (watches_join _ _ _ _ c.loop-number.invariant.watched c.standing_of.ensures.watched)

pub returns-in-Unfinished-clause-keeps : goal.returns-in-Unfinished-clause-keeps
returns-in-Unfinished-clause-keeps c = watchers_keep _ _ _ c.consider.ensures c.requires.host (latched_on _ _ _ _ c.consider.ensures c.requires.host c.requires.own c.requires.latch) (watches_join _ _ _ _ c.loop-number.invariant.watched c.standing_of.ensures.watched)

pub returns-clause-keeps : goal.returns-clause-keeps
returns-clause-keeps c = watchers_keep _ _ _ c.consider.ensures c.requires.host (latched_on _ _ _ _ c.consider.ensures c.requires.host c.requires.own c.requires.latch) c.loop-number.invariant.watched
