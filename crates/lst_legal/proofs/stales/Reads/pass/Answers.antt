use Rattle.std.proofs.Common.{◌||◌, sym, ap, ◌∙◌}
use Rattle.lst_legal.proofs.Rereading.{reads_none, reads_nothing, reads_more}
use Rattle.lst_legal.proofs.stales.Reads.pass.Goals as goal

pub returns-then-is_begun : goal.returns-then-is_begun
returns-then-is_begun c = λ history session front are.
    reads_none history c.args.self.now c.forget.new.self session c.args.call.now c.args.reply.now front (sym c.is_begun.ensures ∙ c.if-is_begun.true)
    (reads_nothing history c.forget.new.self c.forget.ensures.keys c.forget.ensures.named c.forget.ensures.told c.forget.ensures.whole)

pub returns : goal.returns
returns c = λ history session front are.
    reads_more history c.args.self.now c.note.new.self session c.args.call.now c.args.reply.now front c.key_of_call.result (sym c.is_begun.ensures ∙ c.if-is_begun.false) c.key_of_call.ensures
    c.in_ok-note.ensures.keys c.in_ok-note.ensures.named c.in_ok-note.ensures.told (c.in_ok-note.ensures.whole ∙ ap (λ b. c.args.self.now.whole || b) c.reads_table.ensures) are
