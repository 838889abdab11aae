use Rattle.std.proofs.Common.{◌≡◌, ◌↔◌, ◌∙◌, IsTrue, List, sym, ap, subst}
use Rattle.std.specs.List.{All}
use Rattle.lst_replies.specs.Runs.{run_of}
use Rattle.lst_replies.specs.ReplyKinds.{HaveReplyShape}
use Rattle.lst_replies.specs.Seen.{seen_all}
use Rattle.lst_replies.specs.declared.reports.Stamp.{Stamp}
use Rattle.lst_legal.specs.Judged.{IsJudged}
use Rattle.lst_legal_runs.specs.Places.{AreWithin, run_at}
use Rattle.lst_legal_runs.specs.Gathering.{CommitsNothing}
use Rattle.lst_legal_runs.proofs.Deciding.{passes}
use Rattle.lst_legal.proofs.Shaped.{commits_of_calls, within_lines}
use Rattle.lst_legal.proofs.Composed.{legal_at_is}
use Rattle.lst_legal.proofs.judging.legal_at.Goals as goal

pub trace-requires : goal.trace-requires
trace-requires c =
    let limits = c.args.limits.now in
    let same : run_of c.args.lines.now c.args.report.now.replies ≡ seen_all c.deref.result.now =
    ap (run_of c.args.lines.now) (sym c.items-2.ensures) ∙ sym c.in_ok-run.ensures ∙ ap seen_all (sym c.deref.ensures.value) in
    subst (AreWithin limits.sessions) same (within_lines limits.sessions c.args.lines.now c.args.report.now.replies c.requires)

pub judge-requires-clause-within : goal.judge-requires-clause-within
judge-requires-clause-within c =
    let limits = c.args.limits.now in
    let same : run_of c.args.lines.now c.args.report.now.replies ≡ run_at c.deref-2.result.now =
    ap (run_of c.args.lines.now) (sym c.items-2.ensures) ∙ sym c.in_ok-run.ensures ∙ ap seen_all (sym c.deref.ensures.value) ∙ sym c.in_ok-places.ensures.run ∙ ap run_at (sym c.deref-2.ensures.value) in
    subst (AreWithin limits.sessions) same (within_lines limits.sessions c.args.lines.now c.args.report.now.replies c.requires)

pub judge-requires-clause-calls : goal.judge-requires-clause-calls
judge-requires-clause-calls c =
    let same : run_of c.args.lines.now c.args.report.now.replies ≡ run_at c.deref-2.result.now =
    ap (run_of c.args.lines.now) (sym c.items-2.ensures) ∙ sym c.in_ok-run.ensures ∙ ap seen_all (sym c.deref.ensures.value) ∙ sym c.in_ok-places.ensures.run ∙ ap run_at (sym c.deref-2.ensures.value) in
    let shape = subst (HaveReplyShape c.args.lines.now) c.items.ensures (passes c.has_reply_shape.result c.if-not-has_reply_shape.false c.has_reply_shape.ensures) in
    subst (All CommitsNothing) same (commits_of_calls c.args.lines.now c.args.report.now.replies shape)

pub returns : goal.returns
returns c =
    let same : run_at c.deref-2.result.now ≡ run_of c.args.lines.now c.args.report.now.replies =
    ap run_at c.deref-2.ensures.value ∙ c.in_ok-places.ensures.run ∙ ap seen_all c.deref.ensures.value ∙ c.in_ok-run.ensures ∙ ap (run_of c.args.lines.now) c.items-2.ensures in
    let shape = subst (HaveReplyShape c.args.lines.now) c.items.ensures (passes c.has_reply_shape.result c.if-not-has_reply_shape.false c.has_reply_shape.ensures) in
    legal_at_is c.in_ok-judged.judged c.args.limits.now c.args.lines.now c.args.report.now (run_at c.deref-2.result.now) c.args.level shape same
    (subst (λ (stamps : List Stamp). IsTrue c.in_ok-judged.judged ↔ IsJudged c.args.level c.args.limits.now (run_at c.deref-2.result.now) stamps) c.items-3.ensures c.in_ok-judged.ensures)
