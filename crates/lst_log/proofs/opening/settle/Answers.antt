use Rattle.std.proofs.Common.{refl, ap, ◌∙◌, arith}
use Rattle.std.specs.Prelude.{is_ok, is_err}
use Rattle.lst_disk.specs.Disk.{tears}
use Rattle.lst_log.proofs.Moments.{fewer_at, fewer_on}
use Rattle.lst_log.proofs.Opens.{ok_err, memory_disk, disk_memory, memory_damaged, disk_damaged, rose_since, tells_memory, one_call, tells_sync, tells_opened}
use Rattle.lst_log.proofs.Stopping.{tears_after}
use Rattle.lst_log.proofs.opening.settle.Goals as goal

pub returns-clause-after : goal.returns-clause-after
returns-clause-after g c = record {
  moment = g.D.Disk.clock c.sync.new.self;
  began = omega (arith, c.room.ensures.time.later, c.sync.ensures.time.later);
  past = omega arith;
  only = λ image since. c.in-Ok-sync.ensures.durable image (g.met.D.Disk.only_now c.sync.new.self image since) ∙ c.room.ensures.content;
}

pub returns-in_default-clause-lasts : goal.returns-in_default-clause-lasts
returns-in_default-clause-lasts g c = tt

pub returns-in_default-clause-after : goal.returns-in_default-clause-after
returns-in_default-clause-after g c = tt

pub returns-in_default-clause-content : goal.returns-in_default-clause-content
returns-in_default-clause-content g c = c.room.ensures.content

pub returns-in_default-clause-before : goal.returns-in_default-clause-before
returns-in_default-clause-before g c =
    let none = fewer_at g.D.Disk.clock g.D.Disk.images_since g.D.Disk.images c.args.disk.now (λ image left. g.met.D.Disk.only_now c.args.disk.now image left) in
    let room = fewer_on g.D.Disk.clock g.D.Disk.images_since g.D.Disk.images c.args.disk.now c.args.disk.now c.room.new.self none c.room.ensures.time c.room.ensures.crash in
    room.0

pub returns-in_default-clause-never : goal.returns-in_default-clause-never
returns-in_default-clause-never g c = λ at. memory_damaged _ _ at refl

pub returns-in_default-clause-fault : goal.returns-in_default-clause-fault
returns-in_default-clause-fault g c = λ same. absurd (memory_disk _ _ refl same)

pub returns-in_default-clause-told : goal.returns-in_default-clause-told
returns-in_default-clause-told g c = tells_memory _ _ _ refl

pub returns-in_default-clause-one : goal.returns-in_default-clause-one
returns-in_default-clause-one g c = λ no. absurd (no refl)

pub returns-in_default-clause-faults : goal.returns-in_default-clause-faults
returns-in_default-clause-faults g c = omega (arith, c.room.ensures.faults)

pub returns-in_default-sync-clause-lasts : goal.returns-in_default-sync-clause-lasts
returns-in_default-sync-clause-lasts g c = tt

pub returns-in_default-sync-clause-after : goal.returns-in_default-sync-clause-after
returns-in_default-sync-clause-after g c = tt

pub returns-in_default-sync-clause-content : goal.returns-in_default-sync-clause-content
returns-in_default-sync-clause-content g c = c.sync.ensures.content ∙ c.room.ensures.content

pub returns-in_default-sync-clause-before : goal.returns-in_default-sync-clause-before
returns-in_default-sync-clause-before g c =
    let none = fewer_at g.D.Disk.clock g.D.Disk.images_since g.D.Disk.images c.args.disk.now (λ image left. g.met.D.Disk.only_now c.args.disk.now image left) in
    let room = fewer_on g.D.Disk.clock g.D.Disk.images_since g.D.Disk.images c.args.disk.now c.args.disk.now c.room.new.self none c.room.ensures.time c.room.ensures.crash in
    let sync = fewer_on g.D.Disk.clock g.D.Disk.images_since g.D.Disk.images c.args.disk.now c.room.new.self c.sync.new.self room c.sync.ensures.time c.sync.ensures.crash in
    sync.0

pub returns-in_default-sync-clause-never : goal.returns-in_default-sync-clause-never
returns-in_default-sync-clause-never g c = λ at. disk_damaged _ _ at refl

pub returns-in_default-sync-clause-wanting : goal.returns-in_default-sync-clause-wanting
returns-in_default-sync-clause-wanting g c = λ same. absurd (disk_memory _ _ refl same)

pub returns-in_default-sync-clause-fault : goal.returns-in_default-sync-clause-fault
returns-in_default-sync-clause-fault g c = λ _. rose_since _ _ _ (omega (arith, c.room.ensures.faults)) c.in_default-sync.ensures.cause.failed

pub returns-in_default-sync-clause-told : goal.returns-in_default-sync-clause-told
returns-in_default-sync-clause-told g c = tells_sync _ _ _ _ _ _ _ _ c.room.ensures.left c.sync.ensures.left refl (ap is_err c.in_default-sync.is)

pub returns-in_default-sync-clause-one : goal.returns-in_default-sync-clause-one
returns-in_default-sync-clause-one g c = λ _. one_call _ _ _ _ _ _ _ c.room.ensures.left c.sync.ensures.left refl

pub returns-in_default-sync-clause-faults : goal.returns-in_default-sync-clause-faults
returns-in_default-sync-clause-faults g c = omega (arith, c.room.ensures.faults, c.sync.ensures.cause.later)

pub returns-in_default-clause-wanting : goal.returns-in_default-clause-wanting
returns-in_default-clause-wanting g c = λ _. record { crash = λ image. (c.room.ensures.crash image, c.room.ensures.kept image); left = c.room.ensures.left; unfailed = c.room.ensures.faults }

pub returns-clause-content : goal.returns-clause-content
returns-clause-content g c = c.sync.ensures.content ∙ c.room.ensures.content

pub returns-clause-before : goal.returns-clause-before
returns-clause-before g c =
    let none = fewer_at g.D.Disk.clock g.D.Disk.images_since g.D.Disk.images c.args.disk.now (λ image left. g.met.D.Disk.only_now c.args.disk.now image left) in
    let room = fewer_on g.D.Disk.clock g.D.Disk.images_since g.D.Disk.images c.args.disk.now c.args.disk.now c.room.new.self none c.room.ensures.time c.room.ensures.crash in
    let sync = fewer_on g.D.Disk.clock g.D.Disk.images_since g.D.Disk.images c.args.disk.now c.room.new.self c.sync.new.self room c.sync.ensures.time c.sync.ensures.crash in
    sync.0

pub returns-clause-lasts : goal.returns-clause-lasts
returns-clause-lasts g c = λ image left. c.in-Ok-sync.ensures.durable image left ∙ c.room.ensures.content

pub returns-clause-fault : goal.returns-clause-fault
returns-clause-fault g c = λ same. absurd (ok_err _ _ _ _ same)

pub returns-clause-wanting : goal.returns-clause-wanting
returns-clause-wanting g c = λ same. absurd (ok_err _ _ _ _ same)

pub returns-clause-never : goal.returns-clause-never
returns-clause-never g c = λ at same. absurd (ok_err _ _ _ _ same)

pub returns-clause-told : goal.returns-clause-told
returns-clause-told g c = tells_opened _ _ _ _ _ _ _ _ c.room.ensures.left c.sync.ensures.left refl (ap is_ok c.in-Ok-sync.is)

pub returns-clause-one : goal.returns-clause-one
returns-clause-one g c = λ _. one_call _ _ _ _ _ _ _ c.room.ensures.left c.sync.ensures.left refl

pub returns-clause-faults : goal.returns-clause-faults
returns-clause-faults g c = omega (arith, c.room.ensures.faults, c.sync.ensures.cause.later)

pub returns-in_default-clause-torn : goal.returns-in_default-clause-torn
returns-in_default-clause-torn g c = ap tears c.room.ensures.outcome

pub returns-in_default-sync-clause-torn : goal.returns-in_default-sync-clause-torn
returns-in_default-sync-clause-torn g c = ap tears c.sync.ensures.outcome ∙ tears_after _ _ c.sync.result ∙ ap tears c.room.ensures.outcome

pub returns-clause-torn : goal.returns-clause-torn
returns-clause-torn g c = ap tears c.sync.ensures.outcome ∙ tears_after _ _ c.sync.result ∙ ap tears c.room.ensures.outcome
