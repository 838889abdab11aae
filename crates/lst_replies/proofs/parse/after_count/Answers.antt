use Rattle.std.proofs.Common.{◌≡◌, length, ap, ◌∙◌, arith}
use Rattle.lst_replies.specs.Reading.{texts, stamps_front}
use Rattle.lst_replies.proofs.Fronts.{length-texts}
use Rattle.lst_replies.proofs.Counted.{stamps_whole, stamps_short}
use Rattle.lst_replies.proofs.parse.after_count.Goals as goal
use Rattle.lst_replies.proofs.parse.after_count.Goals.{else-len-count-via-then-len-count+else-lines-count, else-len-count-via-else-len-count}

pub returns-then-lines-count : goal.returns-then-lines-count
returns-then-lines-count c =
    stamps_whole c.args.replies c.args.count _ c.in_ok-history.history (length (texts c.args.lines.now)) (c.in_ok-history.ensures ∙ ap stamps_front c.front_of.ensures) (omega arith)
    (length-texts c.args.lines.now ∙ c.if-lines-count.true)

pub returns-else-len-count : goal.returns-else-len-count
returns-else-len-count c =
    let other : length c.in_ok-history.history ≡ c.args.count → length c.args.lines.now ≡ c.args.count → ⊥ = elim c.else-len-count.branch [
      | else-len-count-via-then-len-count+else-lines-count w ↦ λ p q. absurd (omega arith)
      | else-len-count-via-else-len-count w ↦ λ p q. absurd (omega arith)
    ] in
    let many : length (texts c.args.lines.now) ≡ length c.args.lines.now = length-texts c.args.lines.now in
    stamps_short c.args.replies c.args.count _ c.in_ok-history.history (length (texts c.args.lines.now)) _ _ (c.in_ok-history.ensures ∙ ap stamps_front c.front_of.ensures)
    (λ p q. other p (omega arith)) c.len-else-len-count.ensures c.len-else-len-count-2.ensures
