use Rattle.std.proofs.Common.{◌≡◌, ◌≤◌, ◌+◌, ℕ, length-append, List, [], ◌∷◌, ◌++◌, length, drop, refl, sym, ap, ◌∙◌, subst, arith}
use Rattle.std.specs.List.{AllByRecursion}
use Rattle.std.proofs.lemmas.List.{drop_all, drop_more}
use Rattle.lst_layout.specs.declared.limits.Limits.{Limits}
use Rattle.lst_model.specs.Lines.{LineFits}
use Rattle.lst_model.specs.declared.lines.Line.{Line}
use Rattle.lst_redo.specs.declared.journal.Kept.{Kept}
use Rattle.lst_redo.specs.Answers.{commits_after}
use Rattle.lst_redo.specs.Ahead.{AreRun}
use Rattle.lst_redo.specs.Journals.{view_of}
use Rattle.lst_redo.proofs.Ahead.{none_ahead, next_ahead, last_ahead, run_next, run_wants, run_done, limits_same}
use Rattle.lst_redo.proofs.Crewing.{crew_for, has_crew}
use Rattle.lst_redo.proofs.journal.Redo.run.Goals as goal

pub line_ahead-requires-clause-open : goal.line_ahead-requires-clause-open
line_ahead-requires-clause-open g c =
    let journal = c.requires.journal in (journal.0, c.loop-line.invariant.ahead.keeps journal.0 journal.1.keeps)

pub line_ahead-requires-clause-crew : goal.line_ahead-requires-clause-crew
line_ahead-requires-clause-crew g c =
    let journal = c.requires.journal in
    let now = c.loop-line.invariant in (journal.0 ++ now.made, now.ahead.crew journal.0 (crew_for g.D.Disk.content g.D.Disk.images c.args.self.now journal.0 journal.1))

pub line_ahead-requires-clause-staged : goal.line_ahead-requires-clause-staged
line_ahead-requires-clause-staged g c = (c.loop-line.invariant.made, c.loop-line.invariant.ahead.staged)

pub line_ahead-requires-clause-fits : goal.line_ahead-requires-clause-fits
line_ahead-requires-clause-fits g c =
    let before = c.args.self.now in
    let now = c.loop-line.invariant in
    let mid = c.loop-line.self in
    let i : ℕ = c.loop-line.line-index in
    let lines : List Line = c.args.lines.now in
    let line : Line = c.line-item.result in
    let limits = (view_of before).limits in
    let more : drop i lines ≡ line ∷ drop (i + 1) lines = drop_more lines i line c.loop-line-test.true ∙ ap (λ (x : Line). x ∷ drop (i + 1) lines) (sym c.line-item.is) in
    let fits = subst (AllByRecursion (LineFits limits.sessions limits.ranges limits.columns)) more now.fits in
    let same = limits_same g.D.Disk.content g.D.Disk.images g.D.Disk.clock g.D.Disk.images_since g.D.Disk.room_calls g.D.Disk.room_bytes g.D.Disk.calls_left g.D.Disk.faults before mid now.made c.loop-line.batch.items now.ahead c.requires.journal.1.crew_of in
    subst (λ (l : Limits). LineFits l.sessions l.ranges l.columns line) (sym same) fits.0

pub loop-line-init : goal.loop-line-init
loop-line-init g c =
    let before = c.args.self.now in
    let columns : ℕ = before.log.columns in
    let end : ℕ = before.log.end in
    let size : ℕ = length (g.D.Disk.content before.log.disk) in record {
      made = [];
      runs = λ rest w all more. subst (λ (ks : List Kept). AreRun columns end size (view_of before) [] c.args.lines.now (ks ++ rest) w all) (sym c.requires.answers) more;
      ahead = none_ahead g.D.Disk.content g.D.Disk.images g.D.Disk.clock g.D.Disk.images_since g.D.Disk.room_calls g.D.Disk.room_bytes g.D.Disk.calls_left g.D.Disk.faults before c.args.batch.now.items c.requires.batch (g.met.D.Disk.only_now before.log.disk)
          (has_crew g.D.Disk.content g.D.Disk.images before c.requires.journal);
      fits = c.requires.fits;
      count = ap length c.requires.answers;
      capacity = c.requires.capacity;
    }

pub loop-line-preserved : goal.loop-line-preserved
loop-line-preserved g c =
    let before = c.args.self.now in
    let now = c.loop-line.invariant in
    let mid = c.loop-line.self in
    let after = c.line_ahead.new.self in
    let i : ℕ = c.loop-line.line-index in
    let lines : List Line = c.args.lines.now in
    let line : Line = c.line-item.result in
    let kept : Kept = c.in-Ok.kept in
    let limits = (view_of before).limits in
    let more : drop i lines ≡ line ∷ drop (i + 1) lines = drop_more lines i line c.loop-line-test.true ∙ ap (λ (x : Line). x ∷ drop (i + 1) lines) (sym c.line-item.is) in
    let fits = subst (AllByRecursion (LineFits limits.sessions limits.ranges limits.columns)) more now.fits in
    let goes = c.in-Ok.ensures now.made now.ahead.staged in
    let was = c.loop-line.batch.items in
    let batch = c.line_ahead.new.batch.items in
    let runs = run_next g.D.Disk.content g.D.Disk.images g.D.Disk.clock g.D.Disk.images_since g.D.Disk.room_calls g.D.Disk.room_bytes g.D.Disk.calls_left g.D.Disk.faults before mid after now.made was batch lines (drop i lines) (drop (i + 1) lines) line c.loop-line.answers.items kept more now.ahead goes now.runs in record {
      made = commits_after (view_of mid) now.made line kept;
      runs = λ rest w all left. subst (λ (ks : List Kept). AreRun before.log.columns before.log.end (length (g.D.Disk.content before.log.disk)) (view_of before) [] lines (ks ++ rest) w all) (sym c.in-Ok-push.ensures.items) (runs rest w all left);
      ahead = next_ahead g.D.Disk.content g.D.Disk.images g.D.Disk.clock g.D.Disk.images_since g.D.Disk.room_calls g.D.Disk.room_bytes g.D.Disk.calls_left g.D.Disk.faults before mid after now.made was batch line kept now.ahead goes;
      fits = fits.1;
      count = ap length c.in-Ok-push.ensures.items ∙ length-append c.loop-line.answers.items (kept ∷ []) ∙ ap (λ (n : ℕ). n + 1) now.count;
      capacity = omega (arith, now.capacity, c.in-Ok-push.ensures.capacity);
    }

pub returns-in-Err : goal.returns-in-Err
returns-in-Err g c =
    let before = c.args.self.now in
    let now = c.loop-line.invariant in
    let mid = c.loop-line.self in
    let after = c.line_ahead.new.self in
    let i : ℕ = c.loop-line.line-index in
    let lines : List Line = c.args.lines.now in
    let line : Line = c.line-item.result in
    let more : drop i lines ≡ line ∷ drop (i + 1) lines = drop_more lines i line c.loop-line-test.true ∙ ap (λ (x : Line). x ∷ drop (i + 1) lines) (sym c.line-item.is) in
    let goes = c.in-Err.ensures now.made now.ahead.staged in
    let was = c.loop-line.batch.items in
    let batch = c.line_ahead.new.batch.items in (
      now.made,
      run_wants g.D.Disk.content g.D.Disk.images g.D.Disk.clock g.D.Disk.images_since g.D.Disk.room_calls g.D.Disk.room_bytes g.D.Disk.calls_left g.D.Disk.faults before mid after now.made batch lines (drop i lines) (drop (i + 1) lines) line c.loop-line.answers.items _ more goes now.runs,
      last_ahead g.D.Disk.content g.D.Disk.images g.D.Disk.clock g.D.Disk.images_since g.D.Disk.room_calls g.D.Disk.room_bytes g.D.Disk.calls_left g.D.Disk.faults before mid after now.made was batch line _ now.ahead goes,
    )

pub returns : goal.returns
returns g c =
    let before = c.args.self.now in
    let now = c.loop-line.invariant in
    let mid = c.loop-line.self in
    let lines : List Line = c.args.lines.now in (
      now.made,
      run_done g.D.Disk.content g.D.Disk.images g.D.Disk.clock g.D.Disk.images_since g.D.Disk.room_calls g.D.Disk.room_bytes g.D.Disk.calls_left g.D.Disk.faults before mid now.made lines (drop c.loop-line.line-index lines) c.loop-line.answers.items (drop_all c.loop-line.line-index lines c.loop-line-test.false) now.runs,
      now.ahead,
    )
