use Rattle.std.proofs.Common.{◌≡◌, ◌<◌, ◌≤◌, ℕ, Bool, true, List, length, Ok, Err, refl, sym, ap, ◌∙◌, subst, arith}
use Rattle.lst_redo.specs.Ahead.{IsAhead}
use Rattle.lst_redo.proofs.Ran.{ran_none, ran_ok, ran_err}
use Rattle.lst_redo.proofs.journal.Redo.lines.Goals as goal

pub returns-then-waiting-eq0-clause-ran : goal.returns-then-waiting-eq0-clause-ran
returns-then-waiting-eq0-clause-ran g c = λ no_memory.
    let before = c.args.self.now in
    let mid = c.run.new.self in
    let ran = c.run.ensures in
    let answers = c.run.new.answers.items in (
      answers,
      ran.0,
      refl,
      ran_none g.D.Disk.content g.D.Disk.images g.D.Disk.clock g.D.Disk.images_since g.D.Disk.room_calls g.D.Disk.room_bytes g.D.Disk.calls_left g.D.Disk.faults before mid c.args.lines.now answers ran.0 c.run.new.batch.items ran.1 ran.2
          c.run.new.answers (omega arith),
    )

pub returns-in-Ok-write_staged-clause-ran : goal.returns-in-Ok-write_staged-clause-ran
returns-in-Ok-write_staged-clause-ran g c = λ no_memory.
    let before = c.args.self.now in
    let mid = c.run.new.self in
    let ran = c.run.ensures in
    let answers = c.run.new.answers.items in
    let log = c.write_staged.new.self in
    let same : c.as_slice.result.now ≡ c.run.new.batch.items = c.as_slice.ensures.value in
    let batch = c.as_slice.result.now in
    let some : 0 < length batch = omega (arith, c.as_slice.ensures.len) in
    let ahead = subst (λ (b : List ℕ). IsAhead g.D.Disk.content g.D.Disk.images g.D.Disk.clock g.D.Disk.images_since g.D.Disk.room_calls g.D.Disk.room_bytes g.D.Disk.calls_left g.D.Disk.faults before mid ran.0 b) (sym same) ran.2 in (
      answers,
      ran.0,
      refl,
      ran_ok g.D.Disk.content g.D.Disk.images g.D.Disk.clock g.D.Disk.images_since g.D.Disk.room_calls g.D.Disk.room_bytes g.D.Disk.calls_left g.D.Disk.faults before mid c.args.lines.now answers ran.0 batch ran.1 ahead
          log some c.write_staged.ensures.columns (c.write_staged.ensures.any_moment) c.write_staged.result mid.failed c.run.new.answers _ c.in-Ok-write_staged.is c.in-Ok-write_staged.ensures.kept c.in-Ok-write_staged.ensures.written
          c.write_staged.ensures.left,
    )

pub returns-in-Err-clause-ran : goal.returns-in-Err-clause-ran
returns-in-Err-clause-ran g c = λ no_memory.
    let before = c.args.self.now in
    let mid = c.run.new.self in
    let ran = c.run.ensures in
    let answers = c.run.new.answers.items in
    let log = c.write_staged.new.self in
    let same : c.as_slice.result.now ≡ c.run.new.batch.items = c.as_slice.ensures.value in
    let batch = c.as_slice.result.now in
    let some : 0 < length batch = omega (arith, c.as_slice.ensures.len) in
    let ahead = subst (λ (b : List ℕ). IsAhead g.D.Disk.content g.D.Disk.images g.D.Disk.clock g.D.Disk.images_since g.D.Disk.room_calls g.D.Disk.room_bytes g.D.Disk.calls_left g.D.Disk.faults before mid ran.0 b) (sym same) ran.2 in (
      answers,
      ran.0,
      tt,
      ran_err g.D.Disk.content g.D.Disk.images g.D.Disk.clock g.D.Disk.images_since g.D.Disk.room_calls g.D.Disk.room_bytes g.D.Disk.calls_left g.D.Disk.faults before mid c.args.lines.now answers ran.0 batch ran.1 ahead
          log some c.write_staged.ensures.columns c.write_staged.ensures.any_moment _ c.write_staged.result true _ c.in-Err.is c.write_staged.ensures.left,
    )
