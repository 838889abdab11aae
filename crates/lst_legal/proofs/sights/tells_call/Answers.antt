use Rattle.std.proofs.Common.{sym, ◌∙◌}
use Rattle.lst_legal.proofs.Sighting.{shown, tells_open}
use Rattle.lst_legal.proofs.sights.tells_call.Goals as goal

pub returns-in_default-sight : goal.returns-in_default-sight
returns-in_default-sight c = λ state is current. absurd (shown c.args.snapshots.now c.args.sight.now state c.in-Some.current is (sym c.in-Some.is ∙ current) c.in_default-sight.is)

pub returns : goal.returns
returns c = λ state is current.
    tells_open c.args.snapshots.now c.args.limits.now c.args.sight.now c.in-Some-sight.sight state c.in-Some.current c.args.call.now c.args.reply.now c.is_open_answered.result is (sym c.in-Some.is ∙ current) c.in-Some-sight.is c.is_open_answered.ensures
