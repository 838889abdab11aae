use Rattle.std.proofs.Common.{rules}
use Rattle.std.proofs.Common.{ℕ, List, length, refl, sym, subst, ap, ◌∙◌}
use Rattle.std.specs.Prelude.{is_ok, is_err}
use Rattle.lst_disk.specs.Disk.{Torn, tears}
use Rattle.lst_log.proofs.Moments.{started, goes_on}
use Rattle.lst_log.proofs.Stopping.{on_err, write_failed, sync_failed, tears_after}
use Rattle.lst_log.proofs.store.store.Goals as goal

pub returns-in_err-sync-clause-any_moment : goal.returns-in_err-sync-clause-any_moment
returns-in_err-sync-clause-any_moment g c =
    let disk = c.args.disk.now in
    let P = Torn c.args.at (length c.args.piece.now) (g.D.Disk.content disk) in
    let first = λ (image : List ℕ) (left : g.D.Disk.images c.write_at.new.self image). let from = c.write_at.ensures.crash image left in subst (λ (d : List ℕ). Torn c.args.at (length c.args.piece.now) d image) (c.requires.lasts from.0 from.1) from.2 in
    let at_start = started g.D.Disk.clock g.D.Disk.images_since disk P (λ image left. subst P (sym (c.requires.lasts image (g.met.D.Disk.only_now disk image left))) (record { size = refl; before = refl; behind = refl })) in
    let written = goes_on g.D.Disk.clock g.D.Disk.images_since disk disk c.write_at.new.self P (g.D.Disk.images c.write_at.new.self) at_start c.write_at.ensures.time first in
    goes_on g.D.Disk.clock g.D.Disk.images_since disk c.write_at.new.self c.sync.new.self P (g.D.Disk.images c.sync.new.self) written c.sync.ensures.time (λ image left. first image (c.sync.ensures.crash image left))

pub returns-clause-any_moment : goal.returns-clause-any_moment
returns-clause-any_moment g c =
    let disk = c.args.disk.now in
    let P = Torn c.args.at (length c.args.piece.now) (g.D.Disk.content disk) in
    let first = λ (image : List ℕ) (left : g.D.Disk.images c.write_at.new.self image). let from = c.write_at.ensures.crash image left in subst (λ (d : List ℕ). Torn c.args.at (length c.args.piece.now) d image) (c.requires.lasts from.0 from.1) from.2 in
    let at_start = started g.D.Disk.clock g.D.Disk.images_since disk P (λ image left. subst P (sym (c.requires.lasts image (g.met.D.Disk.only_now disk image left))) (record { size = refl; before = refl; behind = refl })) in
    let written = goes_on g.D.Disk.clock g.D.Disk.images_since disk disk c.write_at.new.self P (g.D.Disk.images c.write_at.new.self) at_start c.write_at.ensures.time first in
    goes_on g.D.Disk.clock g.D.Disk.images_since disk c.write_at.new.self c.sync.new.self P (g.D.Disk.images c.sync.new.self) written c.sync.ensures.time (λ image left. first image (c.sync.ensures.crash image left))

pub returns-clause-lasts : goal.returns-clause-lasts
returns-clause-lasts g c = search rules

pub returns-in_err-write_at-clause-stopped : goal.returns-in_err-write_at-clause-stopped
returns-in_err-write_at-clause-stopped g c =
    let disk = c.args.disk.now in
    let new = c.write_at.new.self in
    on_err _ _ (write_failed (g.D.Disk.content disk) c.args.at c.args.piece.now (g.D.Disk.calls_left disk) (g.D.Disk.calls_left new) (g.D.Disk.outcome disk) (g.D.Disk.outcome new) (g.D.Disk.content new) c.write_at.result
    c.write_at.ensures.left (ap is_err c.in_err-write_at.was) c.write_at.ensures.outcome (c.write_at.ensures.refused (ap is_err c.in_err-write_at.was))
    (λ o is. c.requires.lasts o.synced (g.met.D.Disk.synced_counts disk o is)))

pub returns-in_err-sync-clause-stopped : goal.returns-in_err-sync-clause-stopped
returns-in_err-sync-clause-stopped g c =
    let disk = c.args.disk.now in
    let mid = c.write_at.new.self in
    let new = c.sync.new.self in
    on_err _ _ (sync_failed (g.D.Disk.content disk) c.args.at c.args.piece.now (g.D.Disk.calls_left disk) (g.D.Disk.calls_left mid) (g.D.Disk.outcome disk) (g.D.Disk.outcome mid) (g.D.Disk.outcome new) (g.D.Disk.content new)
    c.write_at.result c.sync.result (g.D.Disk.content mid)
    c.write_at.ensures.left (ap is_ok c.in_ok-write_at.was) c.write_at.ensures.outcome c.sync.ensures.outcome (ap is_err c.in_err-sync.was) (c.sync.ensures.content ∙ c.in_ok-write_at.ensures.written)
    (λ o is. c.requires.lasts o.synced (g.met.D.Disk.synced_counts disk o is)))

pub returns-in_err-write_at-clause-torn : goal.returns-in_err-write_at-clause-torn
returns-in_err-write_at-clause-torn g c = ap tears c.write_at.ensures.outcome

pub returns-in_err-sync-clause-torn : goal.returns-in_err-sync-clause-torn
returns-in_err-sync-clause-torn g c = ap tears c.sync.ensures.outcome ∙ tears_after _ _ c.sync.result ∙ ap tears c.write_at.ensures.outcome

pub returns-clause-torn : goal.returns-clause-torn
returns-clause-torn g c = ap tears c.sync.ensures.outcome ∙ tears_after _ _ c.sync.result ∙ ap tears c.write_at.ensures.outcome
