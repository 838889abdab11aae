use Rattle.std.proofs.Common.{arith}
use Rattle.lst_session.proofs.Telling.{hear_on, heard_next}
use Rattle.lst_session.proofs.phases.hear_each.Goals as goal

pub loop-teller-preserved : goal.loop-teller-preserved
loop-teller-preserved c = let at = c.loop-teller in let count = at.invariant.more.count in let more = c.loop-teller-test.true in let hearer = c.requires.hearer in record {
  low = omega arith;
  more = hear_on c.args.store.now c.args.sessions.now at.sessions c.hear_from.new.sessions at.invariant.more c.hear_from.ensures.more;
  heard = heard_next c.args.store.now c.args.sessions.now at.sessions c.hear_from.new.sessions c.args.hearer at.teller c.requires.sessions (omega arith) (omega arith) at.invariant.more at.invariant.heard c.hear_from.ensures.more c.hear_from.ensures.heard;
}
