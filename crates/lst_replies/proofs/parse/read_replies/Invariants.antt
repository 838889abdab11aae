use Rattle.lst_replies.specs.Reading.{reply_of}
use Rattle.lst_replies.proofs.Fronts.{FrontOn}
use Rattle.lst_replies.proofs.parse.read_replies.Given as goal

abbrev pub invariant-loop-line : goal.invariant-loop-line
invariant-loop-line l = FrontOn (λ place line. reply_of l.columns line) 0 l.lines l.replies l.line-index
