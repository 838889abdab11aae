use Rattle.lst_work.proofs.AfterCalls.{after_result, stale_result}
use Rattle.lst_work.proofs.lines.line_reply.Goals as goal

pub returns-clause-after : goal.returns-clause-after
returns-clause-after g c =
    let s = c.args.session.now.number in let v = c.args.session.now.seat.view in let w = c.session_line.new.session.seat.view in
    after_result v w s c.args.call.now c.session_line.result c.session_line.ensures.after

pub returns-clause-stale : goal.returns-clause-stale
returns-clause-stale g c =
    let s = c.args.session.now.number in let v = c.args.session.now.seat.view in let w = c.session_line.new.session.seat.view in
    stale_result v w s c.args.call.now c.session_line.result c.session_line.ensures.after
