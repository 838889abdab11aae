use Rattle.std.proofs.Common.{◌≡◌, List, false, sym, ap, subst, arith}
use Rattle.std.specs.List.{AllByRecursion}
use Rattle.lst_model.specs.declared.commits.Commit.{Commit}
use Rattle.lst_layout.specs.declared.layout.Layout.{Layout}
use Rattle.lst_snapshots.specs.Replays.{IsRecovered}
use Rattle.lst_replay_laws.specs.Rests.{HasRoomFor}
use Rattle.lst_replay_laws.specs.Runs.{HasWrites, IsFullAt}
use Rattle.lst_redo.specs.Recoveries.{HasRunAgain}
use Rattle.lst_redo.specs.declared.recovery.RecoveryFault.TheVariants.{Full}
use Rattle.lst_redo.proofs.Opened.{is_recovered, has_writes, has_opened, too_full, has_room}
use Rattle.lst_redo.proofs.opening.open_redo.Goals as goal

pub recovered-requires-clause-recovered : goal.recovered-requires-clause-recovered
recovered-requires-clause-recovered g c =
    subst (λ (cs : List Commit). IsRecovered cs) (sym c.commits.ensures) (is_recovered g.D.Disk.content g.D.Disk.images c.args.layout.now.limits c.args.disk c.in-Ok.log c.in-Ok.snapshots c.in-Ok.ensures.ok)

pub recovered-requires-clause-writes : goal.recovered-requires-clause-writes
recovered-requires-clause-writes g c =
    subst (λ (cs : List Commit). AllByRecursion (HasWrites c.args.layout.now.limits.columns) cs) (sym c.commits.ensures)
    (has_writes g.D.Disk.content g.D.Disk.images c.args.layout.now.limits c.args.disk c.in-Ok.log c.in-Ok.snapshots c.in-Ok.ensures.ok)

pub returns-in-Ok-recovered-clause-opened : goal.returns-in-Ok-recovered-clause-opened
returns-in-Ok-recovered-clause-opened g c =
    let limits = c.args.layout.now.limits in
    has_opened g.D.Disk.content g.D.Disk.images limits c.args.disk c.in-Ok.log c.in-Ok.snapshots c.in-Ok.ensures.ok c.in-Ok-recovered.store c.in-Ok-recovered.crew c.in-Ok-recovered.own false c.in-Ok.ensures.columns (omega arith)
    (ap (λ (l : Layout). l.limits) c.in-Ok-recovered.ensures.store) (subst (λ (cs : List Commit). HasRunAgain c.in-Ok-recovered.store limits cs c.in-Ok-recovered.crew) c.commits.ensures c.in-Ok-recovered.ensures.crew) c.in-Ok-recovered.ensures.own

pub returns-in-Ok-clause-full : goal.returns-in-Ok-clause-full
returns-in-Ok-clause-full g c = λ time is.
    let limits = c.args.layout.now.limits in
    let fault : c.in-Err-recovered.fault ≡ Full time = (c.cause_of.ensures.full time).0 is in
    too_full g.D.Disk.content g.D.Disk.images limits c.args.disk c.in-Ok.log c.in-Ok.snapshots c.in-Ok.ensures.ok time
    (subst (λ (cs : List Commit). IsFullAt limits cs time) c.commits.ensures (c.in-Err-recovered.ensures.full time cc))

pub returns-in-Ok-clause-never : goal.returns-in-Ok-clause-never
returns-in-Ok-clause-never g c = λ commits stands room time is.
    let limits = c.args.layout.now.limits in
    let fault : c.in-Err-recovered.fault ≡ Full time = (c.cause_of.ensures.full time).0 is in
    c.in-Err-recovered.ensures.never
    (subst (λ (cs : List Commit). HasRoomFor limits cs) (sym c.commits.ensures) (has_room g.D.Disk.content g.D.Disk.images limits c.args.disk c.in-Ok.log c.in-Ok.snapshots c.in-Ok.ensures.ok c.image_has_one_history.ensures.one commits stands room)) time cc

pub returns-clause-damaged : goal.returns-clause-damaged
returns-clause-damaged g c = λ at is. c.in-Err.ensures.damaged at ((c.refused.ensures.damaged at).0 is)
