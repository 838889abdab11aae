use Rattle.std.proofs.Common.{List, ◌∷◌, [], ◌++◌, ap, ◌∙◌}
use Rattle.lst_reply_queue.specs.declared.kinds.Kind.{Kind}
use Rattle.lst_model.specs.declared.replies.Reply.{Reply}
use Rattle.lst_reply_queue.proofs.Keeping.{are_kept, are_told}
use Rattle.lst_reply_queue.proofs.queue.ReplyQueue.push.Goals as goal

pub invariant_of-self-2 : goal.invariant_of-self-2
invariant_of-self-2 c = are_kept c.self.inside.kinds.items _ c.self.inside.numbers.items _ c.self.inside.taken c.self.inside.others.items _ c.in_ok-kind.kind c.args.reply c.self.invariant
    c.in_ok-kind.ensures.ok (c.in-Ok.ensures.items ∙ ap (λ (ks : List Kind). ks ++ c.in_ok-kind.kind ∷ []) c.in_ok-reserve.ensures.items)

pub returns-clause-ok : goal.returns-clause-ok
returns-clause-ok c = are_told c.self.inside.kinds.items _ c.self.inside.numbers.items _ c.self.inside.taken c.self.inside.others.items _ c.in_ok-kind.kind c.args.reply c.self.invariant
    c.in_ok-kind.ensures.ok (c.in-Ok.ensures.items ∙ ap (λ (ks : List Kind). ks ++ c.in_ok-kind.kind ∷ []) c.in_ok-reserve.ensures.items)
    ∙ ap (λ (rs : List Reply). rs ++ c.args.reply ∷ []) c.self.view_is
