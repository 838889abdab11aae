use Rattle.std.proofs.Common.{rules, ℕ, List, [], ◌∷◌, ap, subst}
use Rattle.std.specs.Prelude.{is_ok, is_err}
use Rattle.lst_log.specs.Stores.{IsLeftSo, written_once}
use Rattle.lst_log.proofs.Stopping.{on_err, piece_failed, gate_failed}
use Rattle.lst_log.proofs.store.store_gated.Goals as goal

pub store-requires-clause-lasts : goal.store-requires-clause-lasts
store-requires-clause-lasts g c = search rules

pub returns-in_err-store-clause-any_moment : goal.returns-in_err-store-clause-any_moment
returns-in_err-store-clause-any_moment g c = search rules

pub returns-in_err-store-clause-stopped : goal.returns-in_err-store-clause-stopped
returns-in_err-store-clause-stopped g c =
    let disk = c.args.disk.now in
    let new = c.store.new.disk in
    on_err _ _ (piece_failed (g.D.Disk.content disk) c.args.gate c.args.piece.now (g.D.Disk.calls_left disk) (g.D.Disk.calls_left new) (g.D.Disk.outcome new) (g.D.Disk.content new) c.store.result
    c.store.ensures.left (ap is_err c.in_err-store.was) c.in_err-store.ensures.stopped)

pub returns-in_err-store-2-clause-stopped : goal.returns-in_err-store-2-clause-stopped
returns-in_err-store-2-clause-stopped g c =
    let disk = c.args.disk.now in
    let mid = c.store.new.disk in
    let new = c.store-2.new.disk in
    on_err _ _ (gate_failed (g.D.Disk.content disk) c.args.gate c.args.piece.now (g.D.Disk.calls_left disk) (g.D.Disk.calls_left mid) (g.D.Disk.calls_left new) (g.D.Disk.outcome new) (g.D.Disk.content new)
    c.store.result c.store-2.result
    c.store.ensures.left (ap is_ok c.in_ok-store.was) c.store-2.ensures.left (ap is_err c.in_err-store-2.was)
    (subst (λ (s : List ℕ). IsLeftSo (g.D.Disk.calls_left mid) (g.D.Disk.outcome new) (g.D.Disk.content new) (λ left. written_once left s c.args.gate (1 ∷ [])) (λ left. s)) c.in_ok-store.ensures.stored c.in_err-store-2.ensures.stopped))
