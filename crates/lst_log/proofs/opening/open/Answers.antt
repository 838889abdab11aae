use Rattle.std.proofs.Common.{◌≡◌, ℕ, List, Option, Err, inl, inr, sym, ap, ◌∙◌, subst, arith}
use Rattle.std.specs.Prelude.{IsSome, is_ok}
use Rattle.lst_disk.specs.Disk.{tears}
use Rattle.lst_log.specs.Journals.{StandsFor, IsDamagedAt}
use Rattle.lst_log.specs.declared.opening.LogCause.{LogCause}
use Rattle.lst_log.specs.declared.opening.LogCause.TheVariants.{Disk}
use Rattle.lst_log.proofs.Looking.{lasts_on, before_on, left_behind, told_behind, memory_behind, told_before, keeps_on, none_before}
use Rattle.lst_log.proofs.Opens.{rose_since}
use Rattle.lst_log.proofs.opening.open.Goals as goal

-- ---- it was opened

pub returns-in-Ok-scan-clause-ok : goal.returns-in-Ok-scan-clause-ok
returns-in-Ok-scan-clause-ok g c =
    let content = g.D.Disk.content in
    let found = c.in-Ok-scan.ensures.found in (
      found.0,
      subst (λ (bytes : List ℕ). StandsFor c.args.columns bytes found.0) c.settle.ensures.content found.1,
      keeps_on content g.D.Disk.images g.D.Disk.clock g.D.Disk.images_since g.D.Disk.calls_left g.D.Disk.outcome g.D.Disk.faults c.args.disk c.settle.new.disk c.scan.new.disk _ c.settle.ensures.content c.in-Ok.ensures.lasts c.scan.ensures.reads
          c.args.columns c.in-Ok-scan.end found.0 found.1 found.3,
      found.2,
    )

pub returns-in-Ok-scan-clause-before : goal.returns-in-Ok-scan-clause-before
returns-in-Ok-scan-clause-before g c =
    before_on g.D.Disk.content g.D.Disk.images g.D.Disk.clock g.D.Disk.images_since g.D.Disk.calls_left g.D.Disk.outcome g.D.Disk.faults c.args.disk c.settle.new.disk c.scan.new.disk _ c.settle.ensures.before
    (none_before g.D.Disk.content g.D.Disk.images g.D.Disk.clock g.D.Disk.images_since g.D.Disk.calls_left g.D.Disk.outcome g.D.Disk.faults c.args.disk c.settle.new.disk c.scan.new.disk _ c.settle.ensures.content c.in-Ok.ensures.lasts c.scan.ensures.reads
    (g.met.D.Disk.content_counts c.args.disk)) c.scan.ensures.reads

pub returns-in-Ok-scan-clause-after : goal.returns-in-Ok-scan-clause-after
returns-in-Ok-scan-clause-after g c =
    lasts_on g.D.Disk.content g.D.Disk.images g.D.Disk.clock g.D.Disk.images_since g.D.Disk.calls_left g.D.Disk.outcome g.D.Disk.faults c.args.disk c.settle.new.disk c.scan.new.disk _ c.in-Ok.ensures.after c.in-Ok.ensures.lasts c.scan.ensures.reads

pub returns-in-Ok-scan-clause-told : goal.returns-in-Ok-scan-clause-told
returns-in-Ok-scan-clause-told g c =
    left_behind c.settle.result (g.D.Disk.calls_left c.args.disk) (g.D.Disk.calls_left c.settle.new.disk) (g.D.Disk.calls_left c.scan.new.disk) (ap is_ok c.in-Ok.is) c.settle.ensures.told (c.settle.ensures.one (λ e. let clash = sym c.in-Ok.is ∙ e in cc)) c.scan.ensures.reads.left

pub returns-in-Ok-scan-clause-torn : goal.returns-in-Ok-scan-clause-torn
returns-in-Ok-scan-clause-torn g c = ap tears c.scan.ensures.reads.turns ∙ c.settle.ensures.torn

pub returns-in-Ok-scan-clause-faults : goal.returns-in-Ok-scan-clause-faults
returns-in-Ok-scan-clause-faults g c = omega (arith, c.settle.ensures.faults, c.scan.ensures.reads.rises)

-- ---- the sync was made, and it wasn't

pub returns-in-Err-scan-clause-before_err : goal.returns-in-Err-scan-clause-before_err
returns-in-Err-scan-clause-before_err g c =
    before_on g.D.Disk.content g.D.Disk.images g.D.Disk.clock g.D.Disk.images_since g.D.Disk.calls_left g.D.Disk.outcome g.D.Disk.faults c.args.disk c.settle.new.disk c.scan.new.disk _ c.settle.ensures.before
    (none_before g.D.Disk.content g.D.Disk.images g.D.Disk.clock g.D.Disk.images_since g.D.Disk.calls_left g.D.Disk.outcome g.D.Disk.faults c.args.disk c.settle.new.disk c.scan.new.disk _ c.settle.ensures.content c.in-Ok.ensures.lasts c.scan.ensures.reads
    (g.met.D.Disk.content_counts c.args.disk)) c.scan.ensures.reads

pub returns-in-Err-scan-clause-after_err : goal.returns-in-Err-scan-clause-after_err
returns-in-Err-scan-clause-after_err g c = λ at same.
    lasts_on g.D.Disk.content g.D.Disk.images g.D.Disk.clock g.D.Disk.images_since g.D.Disk.calls_left g.D.Disk.outcome g.D.Disk.faults c.args.disk c.settle.new.disk c.scan.new.disk _ c.in-Ok.ensures.after c.in-Ok.ensures.lasts c.scan.ensures.reads

pub returns-in-Err-scan-clause-wanting : goal.returns-in-Err-scan-clause-wanting
returns-in-Err-scan-clause-wanting g c = λ memory. inr record {
  lasts = lasts_on g.D.Disk.content g.D.Disk.images g.D.Disk.clock g.D.Disk.images_since g.D.Disk.calls_left g.D.Disk.outcome g.D.Disk.faults c.args.disk c.settle.new.disk c.scan.new.disk _ c.in-Ok.ensures.after c.in-Ok.ensures.lasts c.scan.ensures.reads;
  left = left_behind c.settle.result (g.D.Disk.calls_left c.args.disk) (g.D.Disk.calls_left c.settle.new.disk) (g.D.Disk.calls_left c.scan.new.disk) (ap is_ok c.in-Ok.is) c.settle.ensures.told (c.settle.ensures.one (λ e. let clash = sym c.in-Ok.is ∙ e in cc)) c.scan.ensures.reads.left;
}

pub returns-in-Err-scan-clause-content : goal.returns-in-Err-scan-clause-content
returns-in-Err-scan-clause-content g c = c.scan.ensures.reads.same ∙ c.settle.ensures.content

pub returns-in-Err-scan-clause-damaged : goal.returns-in-Err-scan-clause-damaged
returns-in-Err-scan-clause-damaged g c = λ at same.
    subst (λ (bytes : List ℕ). IsDamagedAt c.args.columns bytes at) c.settle.ensures.content (c.scan.ensures.damaged at (c.in-Err-scan.is ∙ ap (λ (e : LogCause). Err e) same))

pub returns-in-Err-scan-clause-fault : goal.returns-in-Err-scan-clause-fault
returns-in-Err-scan-clause-fault g c = λ same. rose_since _ _ _ c.settle.ensures.faults (c.scan.ensures.reads.fault (c.in-Err-scan.is ∙ ap (λ (e : LogCause). Err e) same))

pub returns-in-Err-scan-clause-told_err : goal.returns-in-Err-scan-clause-told_err
returns-in-Err-scan-clause-told_err g c =
    let left =
    left_behind c.settle.result (g.D.Disk.calls_left c.args.disk) (g.D.Disk.calls_left c.settle.new.disk) (g.D.Disk.calls_left c.scan.new.disk) (ap is_ok c.in-Ok.is) c.settle.ensures.told (c.settle.ensures.one (λ e. let clash = sym c.in-Ok.is ∙ e in cc)) c.scan.ensures.reads.left in
    told_behind c.in-Err-scan.cause (g.D.Disk.calls_left c.args.disk) (g.D.Disk.calls_left c.scan.new.disk) left
    (subst (λ (o : Option ℕ). IsSome o → ¬ (c.in-Err-scan.cause ≡ Disk)) (sym c.scan.ensures.reads.left) (λ told same. c.scan.ensures.reads.told told (c.in-Err-scan.is ∙ ap (λ (e : LogCause). Err e) same)))

pub returns-in-Err-scan-clause-told_memory : goal.returns-in-Err-scan-clause-told_memory
returns-in-Err-scan-clause-told_memory g c =
    memory_behind c.in-Err-scan.cause (g.D.Disk.calls_left c.args.disk) (g.D.Disk.calls_left c.scan.new.disk)
    (left_behind c.settle.result (g.D.Disk.calls_left c.args.disk) (g.D.Disk.calls_left c.settle.new.disk) (g.D.Disk.calls_left c.scan.new.disk) (ap is_ok c.in-Ok.is) c.settle.ensures.told (c.settle.ensures.one (λ e. let clash = sym c.in-Ok.is ∙ e in cc)) c.scan.ensures.reads.left)

pub returns-in-Err-scan-clause-torn_err : goal.returns-in-Err-scan-clause-torn_err
returns-in-Err-scan-clause-torn_err g c = ap tears c.scan.ensures.reads.turns ∙ c.settle.ensures.torn

pub returns-in-Err-scan-clause-faults_err : goal.returns-in-Err-scan-clause-faults_err
returns-in-Err-scan-clause-faults_err g c = omega (arith, c.settle.ensures.faults, c.scan.ensures.reads.rises)

-- ---- the sync wasn't made

pub returns-in-Err-clause-before_err : goal.returns-in-Err-clause-before_err
returns-in-Err-clause-before_err g c = c.settle.ensures.before

pub returns-in-Err-clause-after_err : goal.returns-in-Err-clause-after_err
returns-in-Err-clause-after_err g c = λ at same. absurd (c.settle.ensures.never at (c.in-Err.is ∙ ap (λ (e : LogCause). Err e) same))

pub returns-in-Err-clause-damaged : goal.returns-in-Err-clause-damaged
returns-in-Err-clause-damaged g c = λ at same. absurd (c.settle.ensures.never at (c.in-Err.is ∙ ap (λ (e : LogCause). Err e) same))

pub returns-in-Err-clause-wanting : goal.returns-in-Err-clause-wanting
returns-in-Err-clause-wanting g c = λ same. inl (c.settle.ensures.wanting (c.in-Err.is ∙ ap (λ (e : LogCause). Err e) same))

pub returns-in-Err-clause-fault : goal.returns-in-Err-clause-fault
returns-in-Err-clause-fault g c = λ same. c.settle.ensures.fault (c.in-Err.is ∙ ap (λ (e : LogCause). Err e) same)

pub returns-in-Err-clause-content : goal.returns-in-Err-clause-content
returns-in-Err-clause-content g c = c.settle.ensures.content

pub returns-in-Err-clause-told_err : goal.returns-in-Err-clause-told_err
returns-in-Err-clause-told_err g c =
    told_before c.settle.result c.in-Err.cause (g.D.Disk.calls_left c.args.disk) (g.D.Disk.calls_left c.settle.new.disk) c.in-Err.is c.settle.ensures.never c.settle.ensures.told c.settle.ensures.one

pub returns-in-Err-clause-torn_err : goal.returns-in-Err-clause-torn_err
returns-in-Err-clause-torn_err g c = c.settle.ensures.torn

pub returns-in-Err-clause-faults_err : goal.returns-in-Err-clause-faults_err
returns-in-Err-clause-faults_err g c = c.settle.ensures.faults
