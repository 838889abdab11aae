use Rattle.std.proofs.Common.{◌+◌, drop, sym, ◌∙◌, subst, arith}
use Rattle.std.proofs.lemmas.Option.{get_or_from_slice_get}
use Rattle.lst_layout.specs.declared.limits.Limits.{Limits}
use Rattle.lst_layout.specs.Limits.{IsValid}
use Rattle.lst_crash.specs.Crashes.{IsTaken}
use Rattle.lst_redo.specs.Journals.{view_of}
use Rattle.lst_crash.proofs.Steps.{at_line, behind_all}
use Rattle.lst_crash.proofs.running.run_lines.Goals as goal

pub answer-requires-clause-journal : goal.answer-requires-clause-journal
answer-requires-clause-journal c =
    let was = c.requires.running in
    let now = c.loop-place.invariant.running was.0 was.1 was.2 was.3 in (now.run.state.store.history, now.at.journal)

pub answer-requires-clause-sound : goal.answer-requires-clause-sound
answer-requires-clause-sound c = let was = c.requires.running in (c.loop-place.invariant.running was.0 was.1 was.2 was.3).at.sound

pub answer-requires-clause-valid : goal.answer-requires-clause-valid
answer-requires-clause-valid c =
    let was = c.requires.running in
    let now = c.loop-place.invariant.running was.0 was.1 was.2 was.3 in subst IsValid (was.3.at.opened ∙ sym now.at.opened) c.requires.valid

pub answer-requires-clause-taken : goal.answer-requires-clause-taken
answer-requires-clause-taken c =
    let was = c.requires.running in
    let now = c.loop-place.invariant.running was.0 was.1 was.2 was.3 in
    let at = sym (get_or_from_slice_get c.args.script.now c.loop-place.place c.line.result c.line.result c.line.ensures) in
    subst (λ (limits : Limits). IsTaken limits c.line.result) (was.3.at.opened ∙ sym now.at.opened)
    (subst (IsTaken (view_of c.args.redo.now).limits) (sym at) (c.requires.taken c.loop-place.place c.line.result (omega arith)))

pub loop-place-preserved : goal.loop-place-preserved
loop-place-preserved c = record {
  torn = c.answer.ensures.torn ∙ c.loop-place.invariant.torn;
  running = λ limits bytes ending running.
      let at = sym (get_or_from_slice_get c.args.script.now c.loop-place.place c.line.result c.line.result c.line.ensures) in
      rw c.if-branch.false at
      (c.in_ok-answer.ensures.goes limits bytes (drop (c.loop-place.place + 1) c.args.script.now) ending
      (at_line limits bytes c.loop-place.redo c.loop-place.text c.args.script.now c.loop-place.place c.line.result ending (omega arith) at (c.loop-place.invariant.running limits bytes ending running)));
}

pub returns-then-branch-clause-ended : goal.returns-then-branch-clause-ended
returns-then-branch-clause-ended c = λ limits bytes ending running.
    let at = sym (get_or_from_slice_get c.args.script.now c.loop-place.place c.line.result c.line.result c.line.ensures) in
    rw c.if-branch.true at
    (c.in_ok-answer.ensures.goes limits bytes (drop (c.loop-place.place + 1) c.args.script.now) ending
    (at_line limits bytes c.loop-place.redo c.loop-place.text c.args.script.now c.loop-place.place c.line.result ending (omega arith) at (c.loop-place.invariant.running limits bytes ending running)))

pub returns-clause-ended : goal.returns-clause-ended
returns-clause-ended c = λ limits bytes ending running.
    let columns = (subst IsValid running.at.opened c.requires.valid).columns.0 in
    behind_all limits bytes c.loop-place.redo c.loop-place.text c.args.script.now c.loop-place.place ending (omega arith) (omega (arith, columns)) (c.loop-place.invariant.running limits bytes ending running)

pub returns-then-branch-clause-torn : goal.returns-then-branch-clause-torn
returns-then-branch-clause-torn c = c.answer.ensures.torn ∙ c.loop-place.invariant.torn

pub returns-clause-torn : goal.returns-clause-torn
returns-clause-torn c = c.loop-place.invariant.torn
