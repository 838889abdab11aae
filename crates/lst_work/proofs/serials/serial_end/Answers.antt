use Rattle.std.proofs.Common.{refl, sym, subst}
use Rattle.lst_model.specs.declared.lines.Call.TheVariants as calls
use Rattle.lst_model.specs.declared.replies.Reply.{Reply}
use Rattle.lst_session.proofs.Growing.{begun_early}
use Rattle.lst_work_laws.specs.Lines.{AfterLine}
use Rattle.lst_work.specs.Reads.{EndsRead}
use Rattle.lst_work.proofs.EndLines.{end_line, end_read, not_idle}
use Rattle.lst_work.proofs.Refusing.{idle_line}
use Rattle.lst_work.proofs.serials.serial_end.Goals as goal

pub returns-then-is_idle-clause-after : goal.returns-then-is_idle-clause-after
returns-then-is_idle-clause-after g c = let v = c.args.session.now.seat.view in
    idle_line v v c.args.session.now.number refl calls.Commit refl (c.is_idle.ensures.0 c.if-is_idle.true)

pub returns-clause-after : goal.returns-clause-after
returns-clause-after g c = let s = c.args.session.now.number in let v = c.args.session.now.seat.view in let w = c.end_at_last.new.session.seat.view in
    let on = not_idle c.is_idle.result _ c.is_idle.ensures c.if-is_idle.false in
    subst (λ (r : Reply). AfterLine s calls.Commit r v w) (sym c.end_reply.ensures)
    (end_line v w s c.args.reads.now.keys c.args.reads.now.all on (begun_early v s c.consider.ensures c.requires.ready.host on) c.end_at_last.result c.end_at_last.ensures.end)

pub returns-clause-ends : goal.returns-clause-ends
returns-clause-ends g c = let s = c.args.session.now.number in let v = c.args.session.now.seat.view in let w = c.end_at_last.new.session.seat.view in
    subst (λ (r : Reply). EndsRead v w s c.args.reads.now.keys c.args.reads.now.all r) (sym c.end_reply.ensures)
    (end_read v w s c.args.reads.now.keys c.args.reads.now.all c.end_at_last.result c.end_at_last.ensures.end)
