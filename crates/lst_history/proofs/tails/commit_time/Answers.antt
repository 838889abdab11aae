use Rattle.std.proofs.Common.{sym, subst}
use Rattle.lst_layout.specs.declared.limits.Limits.{Limits}
use Rattle.lst_rule.specs.declared.status.Status.TheVariants as status
use Rattle.lst_rule.specs.Statuses.{IsNamed}
use Rattle.lst_history.proofs.Looks.{reads_on}
use Rattle.lst_history.proofs.Naming.{status_named, asked_reads, asked_tells}
use Rattle.lst_history.proofs.tails.commit_time.Goals as goal

pub status_of-requires-clause-named : goal.status_of-requires-clause-named
status_of-requires-clause-named c = subst (λ (l : Limits). IsNamed l c.cell_word-start.result) (sym c.cell_word-start.ensures.reads.limits) (status_named c.args.seat.now.view c.consider.ensures c.requires.reader.whole c.args.tail c.cell_word-start.result c.cell_word-start.ensures.word)

pub returns-in-Committed-clause-reads : goal.returns-in-Committed-clause-reads
returns-in-Committed-clause-reads c = reads_on c.args.store.now c.args.seat.now c.cell_word-start.new.seat c.status_of.new.seat c.args.s c.cell_word-start.ensures.reads
    (asked_reads c.args.store.now c.args.seat.now c.cell_word-start.new.seat c.status_of.new.seat c.args.s c.args.tail c.cell_word-start.result (status.Committed c.in-Committed.time) c.consider.ensures c.requires.reader c.cell_word-start.ensures.reads c.cell_word-start.ensures.word c.status_of.ensures.seat c.in-Committed.ensures.status c.status_of.ensures.asked)

pub returns-in-Committed-clause-time : goal.returns-in-Committed-clause-time
returns-in-Committed-clause-time c = asked_tells c.args.store.now c.args.seat.now c.cell_word-start.new.seat c.status_of.new.seat c.args.s c.args.tail c.cell_word-start.result (status.Committed c.in-Committed.time) c.consider.ensures c.requires.reader c.cell_word-start.ensures.reads c.cell_word-start.ensures.word c.status_of.ensures.seat c.in-Committed.ensures.status c.status_of.ensures.asked

pub returns-in-Closed-clause-reads : goal.returns-in-Closed-clause-reads
returns-in-Closed-clause-reads c = reads_on c.args.store.now c.args.seat.now c.cell_word-start.new.seat c.status_of.new.seat c.args.s c.cell_word-start.ensures.reads
    (asked_reads c.args.store.now c.args.seat.now c.cell_word-start.new.seat c.status_of.new.seat c.args.s c.args.tail c.cell_word-start.result (status.Closed) c.consider.ensures c.requires.reader c.cell_word-start.ensures.reads c.cell_word-start.ensures.word c.status_of.ensures.seat c.in-Closed.ensures.status c.status_of.ensures.asked)

pub returns-in-Closed-clause-time : goal.returns-in-Closed-clause-time
returns-in-Closed-clause-time c = asked_tells c.args.store.now c.args.seat.now c.cell_word-start.new.seat c.status_of.new.seat c.args.s c.args.tail c.cell_word-start.result (status.Closed) c.consider.ensures c.requires.reader c.cell_word-start.ensures.reads c.cell_word-start.ensures.word c.status_of.ensures.seat c.in-Closed.ensures.status c.status_of.ensures.asked

pub returns-in-Unfinished-clause-reads : goal.returns-in-Unfinished-clause-reads
returns-in-Unfinished-clause-reads c = reads_on c.args.store.now c.args.seat.now c.cell_word-start.new.seat c.status_of.new.seat c.args.s c.cell_word-start.ensures.reads
    (asked_reads c.args.store.now c.args.seat.now c.cell_word-start.new.seat c.status_of.new.seat c.args.s c.args.tail c.cell_word-start.result (status.Unfinished c.in-Unfinished.session c.in-Unfinished.number) c.consider.ensures c.requires.reader c.cell_word-start.ensures.reads c.cell_word-start.ensures.word c.status_of.ensures.seat c.in-Unfinished.ensures.status c.status_of.ensures.asked)

pub returns-in-Unfinished-clause-time : goal.returns-in-Unfinished-clause-time
returns-in-Unfinished-clause-time c = asked_tells c.args.store.now c.args.seat.now c.cell_word-start.new.seat c.status_of.new.seat c.args.s c.args.tail c.cell_word-start.result (status.Unfinished c.in-Unfinished.session c.in-Unfinished.number) c.consider.ensures c.requires.reader c.cell_word-start.ensures.reads c.cell_word-start.ensures.word c.status_of.ensures.seat c.in-Unfinished.ensures.status c.status_of.ensures.asked

pub returns-in-Empty-clause-reads : goal.returns-in-Empty-clause-reads
returns-in-Empty-clause-reads c = reads_on c.args.store.now c.args.seat.now c.cell_word-start.new.seat c.status_of.new.seat c.args.s c.cell_word-start.ensures.reads
    (asked_reads c.args.store.now c.args.seat.now c.cell_word-start.new.seat c.status_of.new.seat c.args.s c.args.tail c.cell_word-start.result (status.Empty) c.consider.ensures c.requires.reader c.cell_word-start.ensures.reads c.cell_word-start.ensures.word c.status_of.ensures.seat c.in-Empty.ensures.status c.status_of.ensures.asked)

pub returns-in-Empty-clause-time : goal.returns-in-Empty-clause-time
returns-in-Empty-clause-time c = asked_tells c.args.store.now c.args.seat.now c.cell_word-start.new.seat c.status_of.new.seat c.args.s c.args.tail c.cell_word-start.result (status.Empty) c.consider.ensures c.requires.reader c.cell_word-start.ensures.reads c.cell_word-start.ensures.word c.status_of.ensures.seat c.in-Empty.ensures.status c.status_of.ensures.asked
