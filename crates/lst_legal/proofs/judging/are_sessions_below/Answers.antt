use Rattle.std.proofs.Common.{IfSome, ◌<◌, subst, sym}
use Rattle.std.proofs.lemmas.List.Elements.{All-more, All-get_or}
use Rattle.lst_model.specs.declared.lines.Line.{Line}
use Rattle.lst_replies.specs.Runs.{speaker_of}
use Rattle.lst_legal_runs.proofs.Deciding.{is_false, passes, refuses}
use Rattle.lst_legal.proofs.judging.are_sessions_below.Goals as goal

pub returns-then-not-is_session_below : goal.returns-then-not-is_session_below
returns-then-not-is_session_below c =
    let Below : Line → Type 0 = λ line. IfSome (speaker_of line) (λ session. session < c.args.sessions) in
    is_false (λ all. refuses c.is_session_below.result c.if-not-is_session_below.true c.is_session_below.ensures
    (subst Below (sym c.line-item.is) (All-get_or Below c.args.lines.now c.loop-line.line-index c.line-item.result c.loop-line-test.true all)))

pub loop-line-preserved : goal.loop-line-preserved
loop-line-preserved c =
    let Below : Line → Type 0 = λ line. IfSome (speaker_of line) (λ session. session < c.args.sessions) in
    All-more Below c.args.lines.now c.loop-line.line-index c.line-item.result c.loop-line-test.true c.loop-line.invariant
    (subst Below c.line-item.is (passes c.is_session_below.result c.if-not-is_session_below.false c.is_session_below.ensures))
