use Rattle.std.proofs.Common.{ℕ, ◌≡◌, ◌+◌, ◌-◌, length, ap, ◌∙◌, arith}
use Rattle.lst_layout.specs.declared.limits.Limits.{Limits}
use Rattle.lst_layout.specs.Words.{Words}
use Rattle.lst_history.specs.Peeks.{words_in}
use Rattle.lst_history.specs.Commits.{write_at, entered}
use Rattle.lst_history.proofs.Looks.{reads_on, same_words}
use Rattle.lst_history.proofs.Joining.{on_ok, length-gathered_until, entered_tail, passed_tail}
use Rattle.lst_history.proofs.reading.enter_tail.Goals as goal

pub enter-requires : goal.enter-requires
enter-requires c = let of = c.in-Some.ensures.time in let a = of.some in let b = of.past in let wide = ap length c.requires.commits ∙ length-gathered_until c.args.seat.now.view.limits (words_in c.args.seat.now.view) c.args.done in record { time = (a, omega arith) }

pub returns-in-Some-clause-reads : goal.returns-in-Some-clause-reads
returns-in-Some-clause-reads c = reads_on c.args.store.now c.args.seat.now c.commit_time.new.seat c.tail_write-write.new.seat c.args.s c.commit_time.ensures.reads c.tail_write-write.ensures.reads

pub returns-in-Some-clause-ok : goal.returns-in-Some-clause-ok
returns-in-Some-clause-ok c = on_ok c.enter.result (λ is. let l : Limits = c.args.seat.now.view.limits in let w : Words = words_in c.args.seat.now.view in let n : ℕ = c.args.done in
    let made : c.tail_write-write.result ≡ write_at l w (n + 1) = c.tail_write-write.ensures.write ∙ (λ i. write_at (c.commit_time.ensures.reads.limits i) (same_words c.args.store.now c.args.seat.now c.commit_time.new.seat c.args.s c.commit_time.ensures.reads i) (n + 1)) in
    is ∙ ((λ i. entered (c.requires.commits i) (c.in-Some.time - 1) (made i)) ∙ entered_tail l w n c.in-Some.time c.in-Some.ensures.time)) c.enter.ensures.ok

pub returns-in-None-clause-ok : goal.returns-in-None-clause-ok
returns-in-None-clause-ok c = c.requires.commits ∙ passed_tail c.args.seat.now.view.limits (words_in c.args.seat.now.view) c.args.done c.in-None.ensures.time
