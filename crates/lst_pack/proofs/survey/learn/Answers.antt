use Rattle.std.proofs.Common.{arith}
use Rattle.lst_pack.proofs.Inserting.{above_known, inserted_rises, inserted_new}
use Rattle.lst_pack.proofs.survey.learn.Goals as goal
use Rattle.lst_pack.proofs.survey.learn.Goals.{else-at-count-via-then-at-count+else-known-at, else-at-count-via-else-at-count}

pub returns-clause-rising : goal.returns-clause-rising
returns-clause-rising c =
    let at = c.place_of-at.result in
    inserted_rises c.args.known.now c.insert.new.known c.args.count at c.args.value
    (record { within = c.place_of-at.ensures.within; below = c.insert.ensures.below; here = c.insert.ensures.here; above = c.insert.ensures.above })
    c.requires.rising c.place_of-at.ensures.below
    (λ code from low. elim c.else-at-count.branch [
      | else-at-count-via-then-at-count+else-known-at w ↦ above_known c.args.known.now c.args.count at c.args.value code c.requires.rising (omega arith) (c.place_of-at.ensures.from at (omega arith) (omega arith)) w.if-known-at.false from low
      | else-at-count-via-else-at-count w ↦ absurd (omega arith)
    ])

pub returns-clause-others : goal.returns-clause-others
returns-clause-others c =
    inserted_new c.args.known.now c.insert.new.known c.args.count c.place_of-at.result c.args.value
    (record { within = c.place_of-at.ensures.within; below = c.insert.ensures.below; here = c.insert.ensures.here; above = c.insert.ensures.above })
