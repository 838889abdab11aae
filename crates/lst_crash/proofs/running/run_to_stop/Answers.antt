use Rattle.std.proofs.Common.{◌-◌, ◌++◌, ℕ, List, [], codes, length, sym, ap, ◌∙◌, subst}
use Rattle.lst_layout.specs.declared.limits.Limits.{Limits}
use Rattle.lst_layout.specs.Limits.{IsValid}
use Rattle.lst_disk.specs.Memory.{disk_content, disk_left, disk_torn}
use Rattle.std.specs.Prelude.{All}
use Rattle.lst_crash.specs.Crashes.{IsTaken, ending_from, start_of}
use Rattle.lst_disk.specs.declared.memory.MemDisk.{MemDisk}
use Rattle.lst_crash.proofs.Images.{none_need_room, torn_stays}
use Rattle.lst_crash.proofs.Opening.{none_stand, begins_running, ends_so, stopped_at_once}
use Rattle.lst_crash.proofs.running.run_to_stop.Goals as goal

pub run_lines-requires-clause-running : goal.run_lines-requires-clause-running
run_lines-requires-clause-running c =
    let limits = c.args.layout.now.limits in
    let disk = c.args.disk in (
      limits,
      length (disk_content disk),
      ending_from limits (length (disk_content disk)) (start_of (disk_left disk - 1)) [] c.args.script.now,
      begins_running limits disk c.requires.zeros c.image_has_one_history.ensures.one c.in-Ok.redo c.in-Ok.ensures.opened c.in-Ok.ensures.after c.in-Ok.ensures.told.1 c.in-Ok.ensures.failed c.requires.few c.new-text.result c.args.script.now c.new-text.ensures,
    )

pub run_lines-requires-clause-valid : goal.run_lines-requires-clause-valid
run_lines-requires-clause-valid c = subst IsValid (sym c.in-Ok.ensures.opened.1.ran.limits_are) c.requires.valid

pub run_lines-requires-clause-taken : goal.run_lines-requires-clause-taken
run_lines-requires-clause-taken c = subst (λ (l : Limits). All (IsTaken l) c.args.script.now) (sym c.in-Ok.ensures.opened.1.ran.limits_are) c.requires.taken

pub unreachable-requires : goal.unreachable-requires
unreachable-requires c =
    c.image_has_one_history.ensures.damaged c.args.layout.now.limits.columns (disk_content c.args.disk) c.in-Damaged.at [] (c.in-Err.ensures.damaged c.in-Damaged.at c.in-Damaged.is) (none_stand c.args.layout.now.limits c.args.disk c.requires.zeros)

pub unreachable-requires-in-Full : goal.unreachable-requires-in-Full
unreachable-requires-in-Full c = c.in-Err.ensures.never [] (none_stand c.args.layout.now.limits c.args.disk c.requires.zeros) (none_need_room c.args.layout.now.limits) c.in-Full.time c.in-Full.is

pub returns-in_ok-run_lines-in-Ok-clause-ended : goal.returns-in_ok-run_lines-in-Ok-clause-ended
returns-in_ok-run_lines-in-Ok-clause-ended c =
    let limits = c.args.layout.now.limits in
    let disk = c.args.disk in
    ends_so limits (length (disk_content disk)) (disk_left disk) c.args.script.now c.run_lines.new.redo.log.disk c.close.result c.run_lines.new.text c.in-Ok.ensures.told.0 c.close.ensures.disk
    (c.in_ok-run_lines-in-Ok.ensures.ended limits (length (disk_content disk)) (ending_from limits (length (disk_content disk)) (start_of (disk_left disk - 1)) [] c.args.script.now)
    (begins_running limits disk c.requires.zeros c.image_has_one_history.ensures.one c.in-Ok.redo c.in-Ok.ensures.opened c.in-Ok.ensures.after c.in-Ok.ensures.told.1 c.in-Ok.ensures.failed c.requires.few c.new-text.result c.args.script.now c.new-text.ensures))

pub returns-in_ok-push_bytes-in-Disk-clause-ended : goal.returns-in_ok-push_bytes-in-Disk-clause-ended
returns-in_ok-push_bytes-in-Disk-clause-ended c =
    let disk = c.args.disk in
    stopped_at_once c.args.layout.now.limits disk c.requires.zeros c.in-Err.refusal.disk c.args.script.now (length (disk_content disk)) (disk_left disk) c.push_bytes.new.self c.requires.lasts c.in-Err.ensures.before_err
    ((c.in-Err.ensures.told_err (λ memory. let clash = sym c.in-Disk.is ∙ memory in cc)).0.0 c.in-Disk.is)
    (c.in_ok-push_bytes-in-Disk.ensures.ok ∙ ap (λ (t : List ℕ). t ++ codes "stopped\n") c.new-text.ensures)

pub returns-in_ok-run_lines-in-Ok-clause-torn : goal.returns-in_ok-run_lines-in-Ok-clause-torn
returns-in_ok-run_lines-in-Ok-clause-torn c = ap (λ (d : MemDisk). disk_torn d) c.close.ensures.disk ∙ c.in_ok-run_lines-in-Ok.ensures.torn ∙ torn_stays c.args.disk c.in-Ok.redo.log.disk c.in-Ok.ensures.torn

pub returns-in_ok-push_bytes-in-Disk-clause-torn : goal.returns-in_ok-push_bytes-in-Disk-clause-torn
returns-in_ok-push_bytes-in-Disk-clause-torn c = torn_stays c.args.disk c.in-Err.refusal.disk c.in-Err.ensures.torn_err
