use Rattle.lst_replies.specs.Seen.{seen_all}
use Rattle.lst_replies.proofs.Shapes.{PairsOn}
use Rattle.lst_replies.proofs.answers.paired.Given as goal

abbrev pub invariant-loop-line : goal.invariant-loop-line
invariant-loop-line l = PairsOn l.lines l.replies (seen_all l.run.items) l.line-index l.rest
