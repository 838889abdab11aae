use Rattle.std.proofs.Common.{ℕ, length, subst, sym, ◌∙◌}
use Rattle.std.proofs.lemmas.Result.{IfOk-weaker}
use Rattle.lst_disk.specs.Memory.{disk_content, disk_torn}
use Rattle.lst_crash.specs.Crashes.{ending_of, recovered}
use Rattle.lst_crash.specs.Recovering.{IsStopped}
use Rattle.lst_crash.proofs.Opening.{new_size}
use Rattle.lst_crash.proofs.Reopened.{can_recover, is_crashed}
use Rattle.lst_crash.proofs.crash.crash_lines.Goals as goal

pub recover-requires-clause-recoverable : goal.recover-requires-clause-recoverable
recover-requires-clause-recoverable c =
    let disk = c.in_ok-disk.disk in
    let stopped = c.in_ok-stopped.stopped in
    let ending = ending_of c.args.layout.now.limits (length (disk_content disk)) _ c.args.script.now in
    (recovered (disk_torn stopped.disk) ending, can_recover c.args.layout.now.limits stopped.disk stopped.text ending c.in_ok-stopped.ensures.ended)

pub returns : goal.returns
returns c =
    let disk = c.in_ok-disk.disk in
    let stopped = c.in_ok-stopped.stopped in
    let has_ended =
    subst (λ (n : ℕ). IsStopped c.args.layout.now.limits n c.args.stop c.args.script.now stopped.text stopped.disk) (new_size disk c.args.bytes c.in_ok-disk.ensures.content)
    (subst (λ (n : ℕ). IsStopped c.args.layout.now.limits (length (disk_content disk)) n c.args.script.now stopped.text stopped.disk) c.in_ok-disk.ensures.left c.in_ok-stopped.ensures.ended) in
    IfOk-weaker c.recover.result _ _
    (λ crashed found. is_crashed c.args.layout.now.limits c.args.bytes c.args.stop c.args.torn c.args.script.now stopped.disk stopped.text crashed.text crashed.left (c.in_ok-stopped.ensures.torn ∙ c.in_ok-disk.ensures.torn) has_ended found) c.recover.ensures
