use Rattle.lst_replies.specs.Explained.{FullnessIsExplained}
use Rattle.lst_legal_runs.proofs.Writing.{at_write}
use Rattle.lst_legal_runs.proofs.fullness.Fullness.explains_write.Goals as goal

pub returns : goal.returns
returns c = λ history run before transaction write fullness written current key.
    at_write c.explains.result (λ t w. FullnessIsExplained c.args.limits.now history run before c.args.session t w c.args.reply.now) transaction write c.args.current.now c.args.key c.in-Some.current c.in-Some-key.key
    current c.in-Some.is key c.in-Some-key.is (λ t w same same_key. c.explains.ensures history run before t w fullness written same same_key)
