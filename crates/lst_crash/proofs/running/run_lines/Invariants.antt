use Rattle.std.proofs.Common.{◌≡◌, ℕ, drop}
use Rattle.lst_disk.specs.Memory.{disk_torn}
use Rattle.lst_layout.specs.declared.limits.Limits.{Limits}
use Rattle.lst_crash.specs.Crashes.{Ending}
use Rattle.lst_crash.specs.Recovering.{IsRunning}
use Rattle.lst_crash.proofs.running.run_lines.Given as goal

abbrev pub invariant-loop-place : goal.invariant-loop-place
invariant-loop-place l = record {
  torn : disk_torn l.redo.log.disk ≡ disk_torn l.fn.redo.log.disk;
  running : (limits : Limits) (bytes : ℕ) (ending : Ending) → IsRunning limits bytes l.fn.redo l.fn.text l.script ending → IsRunning limits bytes l.redo l.text (drop l.place l.script) ending;
}
