use Rattle.std.proofs.Common.{sym, ◌∙◌, arith}
use Rattle.lst_replies.proofs.Placed.{not_four, differs, stamp_other}
use Rattle.lst_replies.proofs.parse.stamp_in.Goals as goal

pub returns-in_default : goal.returns-in_default
returns-in_default c = sym (not_four c.args.time c.args.words.now (λ e. omega arith))

pub returns-in_default-2 : goal.returns-in_default-2
returns-in_default-2 c = sym (not_four c.args.time c.args.words.now (λ e. omega arith))

pub returns-then-ne : goal.returns-then-ne
returns-then-ne c = sym (stamp_other c.args.time c.args.words.now _ (omega arith) (differs _ _ _ _ c.ne.ensures (c.as_bytes.ensures.value ∙ c.format.ensures.text) c.if-ne.true))
