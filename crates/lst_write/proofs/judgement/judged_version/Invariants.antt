use Rattle.lst_write.specs.Judgements.{Judges}
use Rattle.lst_write.proofs.judgement.judged_version.Given as goal

abbrev pub invariant-loop-number : goal.invariant-loop-number
invariant-loop-number l = Judges l.store l.fn.seat.view l.seat l.s l.fn.rec.number l.head l.number

abbrev pub decreases-loop-number : goal.decreases-loop-number
decreases-loop-number l = l.number
