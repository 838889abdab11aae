use Rattle.std.proofs.Common.{rules, ◌≡◌, ℕ, ◌+◌, ◌*◌, ◌<◌, List, ◌++◌, length, map, take, drop, sym, ap, subst, ◌∙◌, arith}
use Rattle.std.proofs.Math.Seq.{take-append_seam}
use Rattle.lst_layout.specs.declared.limits.Limits.{Limits}
use Rattle.lst_layout.specs.Words.{Words}
use Rattle.lst_model.specs.declared.commits.Commit.{Commit}
use Rattle.lst_model.specs.Histories.{Extends}
use Rattle.lst_core_state.specs.Cells.{tail_count}
use Rattle.lst_core_state.specs.State.{history_of}
use Rattle.lst_core_state.proofs.Histories.{starts_trans}
use Rattle.lst_rule.specs.Rule.{knows}
use Rattle.lst_history.specs.Peeks.{words_in}
use Rattle.lst_history.specs.Commits.{gathered_until, in_order}
use Rattle.lst_history.proofs.Looks.{reads_on, same_words, seen_grows, seen_all, layout_limits}
use Rattle.lst_history.proofs.InOrder.{gathered_in_order}
use Rattle.lst_history.proofs.reading.recount.Goals as goal

pub commits_until-requires-clause-reader : goal.commits_until-requires-clause-reader
commits_until-requires-clause-reader c = c.clock-clock.ensures.reads.reader

pub enter_range-requires-clause-range : goal.enter_range-requires-clause-range
enter_range-requires-clause-range c = let low : c.loop-range.range < c.layout.result.now.limits.ranges = search rules in
    subst (λ (n : ℕ). c.loop-range.range < n) (ap (λ (k : Limits). k.ranges) (sym (layout_limits c.args.store.now c.args.seat.now.view c.layout.result.now c.requires.reader.seat_of.limits c.layout.ensures)) ∙ ap (λ (k : Limits). k.ranges) (sym c.loop-range.invariant.0.limits)) low

pub enter_range-requires-clause-commits : goal.enter_range-requires-clause-commits
enter_range-requires-clause-commits c = let l : Limits = c.args.seat.now.view.limits in
    c.loop-range.invariant.1 ∙ (λ i. gathered_until (sym c.loop-range.invariant.0.limits i) (sym (same_words c.args.store.now c.args.seat.now c.loop-range.seat c.args.s c.loop-range.invariant.0) i) (c.loop-range.range * (sym c.loop-range.invariant.0.limits i).tails))

pub enter_range-requires-clause-reader : goal.enter_range-requires-clause-reader
enter_range-requires-clause-reader c = c.loop-range.invariant.0.reader

pub returns-in_err-sort_all-clause-reads : goal.returns-in_err-sort_all-clause-reads
returns-in_err-sort_all-clause-reads c = c.loop-range.invariant.0

pub returns-clause-reads : goal.returns-clause-reads
returns-clause-reads c = c.loop-range.invariant.0

pub returns-in_err-commits-clause-reads : goal.returns-in_err-commits-clause-reads
returns-in_err-commits-clause-reads c = reads_on c.args.store.now c.args.seat.now c.clock-clock.new.seat c.commits_until.new.seat c.args.s c.clock-clock.ensures.reads c.commits_until.ensures.reads

pub loop-range-init : goal.loop-range-init
loop-range-init c = (
  reads_on c.args.store.now c.args.seat.now c.clock-clock.new.seat c.commits_until.new.seat c.args.s c.clock-clock.ensures.reads c.commits_until.ensures.reads,
  c.in_ok-commits.ensures.ok ∙ (λ i. gathered_until (c.clock-clock.ensures.reads.limits i) (same_words c.args.store.now c.args.seat.now c.clock-clock.new.seat c.args.s c.clock-clock.ensures.reads i) ((let e : 0 ≡ 0 * c.args.seat.now.view.limits.tails = omega arith in e) i)),
  subst (Extends (knows c.commits_until.new.seat.view c.args.s).seen) c.clock-clock.ensures.seen (seen_grows c.args.store.now c.clock-clock.new.seat c.commits_until.new.seat c.args.s c.commits_until.ensures.reads),
)

pub returns-in_err-enter_range-clause-reads : goal.returns-in_err-enter_range-clause-reads
returns-in_err-enter_range-clause-reads c = reads_on c.args.store.now c.args.seat.now c.loop-range.seat c.enter_range.new.seat c.args.s c.loop-range.invariant.0 c.enter_range.ensures.reads

pub loop-range-preserved : goal.loop-range-preserved
loop-range-preserved c = (
  reads_on c.args.store.now c.args.seat.now c.loop-range.seat c.enter_range.new.seat c.args.s c.loop-range.invariant.0 c.enter_range.ensures.reads,
  c.in_ok-enter_range.ensures.ok ∙ (λ i. gathered_until (c.loop-range.invariant.0.limits i) (same_words c.args.store.now c.args.seat.now c.loop-range.seat c.args.s c.loop-range.invariant.0 i) ((c.loop-range.range + 1) * (c.loop-range.invariant.0.limits i).tails)),
  starts_trans (knows c.enter_range.new.seat.view c.args.s).seen (knows c.loop-range.seat.view c.args.s).seen (history_of c.args.seat.now.view.limits (words_in c.args.seat.now.view)) (seen_grows c.args.store.now c.loop-range.seat c.enter_range.new.seat c.args.s c.enter_range.ensures.reads) c.loop-range.invariant.2,
)

pub returns-clause-ok : goal.returns-clause-ok
returns-clause-ok c = let l : Limits = c.args.seat.now.view.limits in let w : Words = words_in c.args.seat.now.view in
    let last : c.loop-range.range ≡ c.layout.result.now.limits.ranges = search rules in
    let all : c.loop-range.range * l.tails ≡ tail_count l = ap (λ (n : ℕ). n * l.tails) (last ∙ ap (λ (k : Limits). k.ranges) (sym (layout_limits c.args.store.now c.args.seat.now.view c.layout.result.now c.requires.reader.seat_of.limits c.layout.ensures))) in
    let commits : List Commit = c.sort_all.new.commits in
    let back = ap (λ (n : ℕ). take n (commits ++ drop (length commits) c.loop-range.commits.items)) (sym (c.sort_all.auto.commits ∙ c.as_mut_slice.ensures.len)) ∙ take-append_seam commits (drop (length commits) c.loop-range.commits.items) in
    c.from_items.ensures ∙ (back ∙ c.in_ok-sort_all.ensures.ok ∙ (ap (map in_order) (c.as_mut_slice.ensures.value ∙ c.loop-range.invariant.1 ∙ ap (gathered_until l w) all) ∙ gathered_in_order l w))

pub returns-clause-seen : goal.returns-clause-seen
returns-clause-seen c = seen_all c.args.store.now c.args.seat.now c.loop-range.seat c.args.s c.loop-range.invariant.0 c.consider-2.ensures c.loop-range.invariant.2
