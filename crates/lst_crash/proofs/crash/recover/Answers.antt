use Rattle.std.proofs.Common.{sym, ap, subst, ◌∙◌}
use Rattle.lst_layout.specs.declared.layout.Layout.{Layout}
use Rattle.lst_layout.specs.declared.limits.Limits.{Limits}
use Rattle.lst_rule.specs.declared.store.Store.{Store}
use Rattle.lst_disk.specs.Memory.{disk_content, disk_left}
use Rattle.lst_redo.specs.Journals.{view_of}
use Rattle.lst_crash.specs.Recovering.{IsRecoverable}
use Rattle.lst_crash.proofs.Reopened.{recovered, stands_again, has_room_for, never_damaged, calls_left, is_sound, is_wide}
use Rattle.lst_crash.proofs.crash.recover.Goals as goal

pub history-requires-clause-crew : goal.history-requires-clause-crew
history-requires-clause-crew c = c.in-Ok.ensures.opened.1.ran.crew_of

pub history-requires-clause-tells : goal.history-requires-clause-tells
history-requires-clause-tells c = c.in-Ok.ensures.opened.1.ran.tells

pub push_recovered-requires-clause-sound : goal.push_recovered-requires-clause-sound
push_recovered-requires-clause-sound c =
    is_sound (view_of c.in-Ok.redo) (view_of c.history.new.self) (c.history.ensures.state c.in-Ok.ensures.opened.1.ran.tells) c.in_ok-history-in-Ok.history c.in_ok-history-in-Ok.ensures.told c.consider.ensures

pub push_recovered-requires-clause-wide : goal.push_recovered-requires-clause-wide
push_recovered-requires-clause-wide c =
    is_wide (view_of c.in-Ok.redo) (view_of c.history.new.self) (c.history.ensures.state c.in-Ok.ensures.opened.1.ran.tells) c.in_ok-history-in-Ok.history c.in_ok-history-in-Ok.ensures.told c.args.layout.now.limits.columns
    (ap (λ (l : Limits). l.columns) (c.history.ensures.crew.seat_of.limits ∙ ap (λ (s : Store). s.layout.limits) c.history.ensures.store ∙ ap (λ (l : Layout). l.limits) c.in-Ok.ensures.layout ∙ c.layout_again.ensures))

pub returns-in_ok-push_recovered-in-Ok : goal.returns-in_ok-push_recovered-in-Ok
returns-in_ok-push_recovered-in-Ok c =
    recovered c.args.layout.now.limits c.crash.result c.args.stopped.disk c.crash.ensures.content c.in-Ok.redo c.layout_again.result.limits c.layout_again.ensures c.in-Ok.ensures.opened c.image_has_one_history.ensures.one
    c.args.stopped.text c.push_recovered.new.text c.in_ok-history-in-Ok.history c.history.new.self.store c.history.new.self.crew c.in_ok-history-in-Ok.ensures.told c.in_ok-push_recovered-in-Ok.ensures c.history.ensures.store
    (ap (λ (l : Layout). l.limits) c.in-Ok.ensures.layout) c.history.ensures.crew c.history.ensures.state

pub unreachable-requires : goal.unreachable-requires
unreachable-requires c =
    calls_left (disk_left c.crash.result) c.crash.ensures.left ((c.in-Err.ensures.told_err (λ memory. let clash = sym c.in-Disk.is ∙ memory in cc)).0.0 c.in-Disk.is)

pub unreachable-requires-in-Damaged : goal.unreachable-requires-in-Damaged
unreachable-requires-in-Damaged c =
    let commits = c.requires.recoverable.0 in
    let can : IsRecoverable c.args.layout.now.limits commits (disk_content c.crash.result) = subst (IsRecoverable c.args.layout.now.limits commits) (sym c.crash.ensures.content) c.requires.recoverable.1 in
    never_damaged c.args.layout.now.limits c.layout_again.result.limits (disk_content c.crash.result) c.layout_again.ensures commits can c.image_has_one_history.ensures.damaged c.in-Damaged.at
    (c.in-Err.ensures.damaged c.in-Damaged.at c.in-Damaged.is)

pub unreachable-requires-in-Full : goal.unreachable-requires-in-Full
unreachable-requires-in-Full c =
    let commits = c.requires.recoverable.0 in
    let can : IsRecoverable c.args.layout.now.limits commits (disk_content c.crash.result) = subst (IsRecoverable c.args.layout.now.limits commits) (sym c.crash.ensures.content) c.requires.recoverable.1 in
    c.in-Err.ensures.never commits (stands_again c.args.layout.now.limits c.layout_again.result.limits (disk_content c.crash.result) c.layout_again.ensures commits can)
    (has_room_for c.args.layout.now.limits c.layout_again.result.limits (disk_content c.crash.result) c.layout_again.ensures commits can) c.in-Full.time c.in-Full.is
