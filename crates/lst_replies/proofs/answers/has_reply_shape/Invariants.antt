use Rattle.lst_replies.proofs.Shapes.{ShapeOn}
use Rattle.lst_replies.proofs.answers.has_reply_shape.Given as goal

abbrev pub invariant-loop-line : goal.invariant-loop-line
invariant-loop-line l = ShapeOn l.lines l.replies l.line-index l.rest
