use Rattle.std.proofs.Common.{ℕ, sym, subst}
use Rattle.lst_rule.specs.Rule.{knows}
use Rattle.lst_serial.specs.Keys.{has}
use Rattle.lst_work_laws.specs.Keeping.{LineReads}
use Rattle.lst_work.specs.Reads.{pass_of}
use Rattle.lst_work.proofs.EndLines.{line_reads}
use Rattle.lst_work.proofs.serials.serial_line.Goals as goal

pub returns-clause-reads : goal.returns-clause-reads
returns-clause-reads g c = let s = c.args.session.now.number in let v = c.args.session.now.seat.view in let w = c.serial_reply.new.session.seat.view in
    let old = c.args.reads.now in let mid = c.join.new.self in let new = c.pass.new.self in let e = c.in_ok-reply.ensures in
    subst (λ (n : ℕ). LineReads c.args.call.now c.in_ok-reply.reply (pass_of c.args.session.now old) (record { known = knows w n; reads = has new.keys; whole = new.all })) (sym e.number)
    (line_reads c.args.call.now c.in_ok-reply.reply v w s old mid new e.after.kind c.in_ok-join.ensures.keys c.in_ok-join.ensures.all c.pass.ensures.keys c.pass.ensures.all e.ends)
