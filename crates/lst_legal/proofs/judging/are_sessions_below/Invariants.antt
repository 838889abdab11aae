use Rattle.std.proofs.Common.{take, ◌<◌, IfSome}
use Rattle.std.specs.List.{All}
use Rattle.lst_replies.specs.Runs.{speaker_of}
use Rattle.lst_legal.proofs.judging.are_sessions_below.Given as goal

abbrev pub invariant-loop-line : goal.invariant-loop-line
invariant-loop-line l = All (λ line. IfSome (speaker_of line) (λ session. session < l.sessions)) (take l.line-index l.lines)
