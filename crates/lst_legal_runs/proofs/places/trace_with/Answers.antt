use Rattle.std.proofs.Common.{◌≡◌, ℕ, ◌<◌, length, IfSome, take, sym, ◌∙◌, subst, arith}
use Rattle.std.proofs.lemmas.List.{length-map, length-take-le}
use Rattle.lst_replies.specs.Seen.{seen, seen_all}
use Rattle.lst_replies.specs.Runs.{speaker_of}
use Rattle.lst_legal_runs.proofs.Behind.{outlines_few}
use Rattle.lst_legal_runs.proofs.Placing.{traced_step, within_read}
use Rattle.lst_legal_runs.proofs.places.trace_with.Goals as goal

pub pass-outline-requires-clause-within : goal.pass-outline-requires-clause-within
pass-outline-requires-clause-within c =
    subst (λ (n : ℕ). IfSome (speaker_of (seen c.answer-item.result).line) (λ session. session < n)) (sym c.loop-answer.auto.outlines)
    (within_read (length c.args.outlines.now) c.args.run.now c.loop-answer.answer-index c.answer-item.result c.loop-answer-test.true c.answer-item.is c.requires.within)

pub pass-outline-requires-clause-few : goal.pass-outline-requires-clause-few
pass-outline-requires-clause-few c = λ session none below.
    let run = c.args.run.now in
    let i = c.loop-answer.answer-index in
    let short : length (seen_all (take i run)) ≡ i = length-map (take i run) seen ∙ length-take-le i run (omega arith) in
    outlines_few c.loop-answer.outlines (seen_all (take i run)) session 18446744073709551615 none c.loop-answer.invariant.behind below (omega (arith, short))

pub loop-answer-preserved : goal.loop-answer-preserved
loop-answer-preserved c =
    traced_step (length c.args.outlines.now) c.args.run.now c.loop-answer.answer-index c.answer-item.result c.loop-answer.outlines c.pass-outline.new.outlines c.loop-answer.places.items c.push.new.self.items c.pass-outline.result
    c.loop-answer-test.true c.answer-item.is c.loop-answer.invariant c.pass-outline.auto.outlines c.pass-outline.ensures.after c.pass-outline.ensures.before c.in_ok-push.ensures.items
