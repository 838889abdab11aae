use Rattle.std.proofs.Common.{arith}
use Rattle.lst_session.proofs.Telling.{hear_on, have_next}
use Rattle.lst_session.proofs.phases.hear_all.Goals as goal

pub loop-hearer-preserved : goal.loop-hearer-preserved
loop-hearer-preserved c = let at = c.loop-hearer in let count = at.invariant.more.count in let more = c.loop-hearer-test.true in record {
  low = omega arith;
  more = hear_on c.args.store.now c.args.sessions.now at.sessions c.hear_each.new.sessions at.invariant.more c.hear_each.ensures.more;
  heard = have_next c.args.store.now c.args.sessions.now at.sessions c.hear_each.new.sessions at.hearer (omega arith) at.invariant.more at.invariant.heard c.hear_each.ensures.more c.hear_each.ensures.heard;
}
