use Rattle.std.proofs.Common.{subst, ◌∙◌}
use Rattle.lst_layout.specs.Words.{Words}
use Rattle.lst_layout.specs.declared.limits.Limits.{Limits}
use Rattle.lst_model.specs.Histories.{Extends}
use Rattle.lst_core_state.specs.State.{writes_of}
use Rattle.lst_rule.specs.Rule.{knows}
use Rattle.lst_history.specs.Peeks.{words_in}
use Rattle.lst_history.specs.Commits.{gathered_until}
use Rattle.lst_history.proofs.Looks.{reads_on, same_words, seen_grows, seen_all}
use Rattle.lst_history.proofs.Recounting.{bare_history}
use Rattle.lst_history.proofs.bare.recount_bare.Goals as goal

pub returns-in_err-commits-clause-reads : goal.returns-in_err-commits-clause-reads
returns-in_err-commits-clause-reads c = reads_on c.args.store.now c.args.seat.now c.clock-clock.new.seat c.commits_until.new.seat c.args.s c.clock-clock.ensures.reads c.commits_until.ensures.reads

pub returns-clause-reads : goal.returns-clause-reads
returns-clause-reads c = reads_on c.args.store.now c.args.seat.now c.clock-clock.new.seat c.commits_until.new.seat c.args.s c.clock-clock.ensures.reads c.commits_until.ensures.reads

pub returns-clause-ok : goal.returns-clause-ok
returns-clause-ok c = let l : Limits = c.args.seat.now.view.limits in let w : Words = words_in c.args.seat.now.view in
    c.from_items.ensures ∙ (c.in_ok-commits.ensures.ok ∙ ((λ i. gathered_until (c.clock-clock.ensures.reads.limits i) (same_words c.args.store.now c.args.seat.now c.clock-clock.new.seat c.args.s c.clock-clock.ensures.reads i) 0)
    ∙ bare_history w.clock w.log w.begins (writes_of l w)))

pub returns-clause-seen : goal.returns-clause-seen
returns-clause-seen c = seen_all c.args.store.now c.args.seat.now c.commits_until.new.seat c.args.s
    (reads_on c.args.store.now c.args.seat.now c.clock-clock.new.seat c.commits_until.new.seat c.args.s c.clock-clock.ensures.reads c.commits_until.ensures.reads) c.consider-2.ensures
    (subst (Extends (knows c.commits_until.new.seat.view c.args.s).seen) c.clock-clock.ensures.seen (seen_grows c.args.store.now c.clock-clock.new.seat c.commits_until.new.seat c.args.s c.commits_until.ensures.reads))
