-- A run that is crashed: its output, and why there is none.
use Rattle.std.proofs.Common.{◌≡◌, ℕ, List, sym, subst, ◌∙◌}
use Rattle.lst_layout.specs.declared.limits.Limits.{Limits}
use Rattle.lst_model.specs.declared.lines.Line.{Line}
use Rattle.lst_rule.specs.declared.store.Store.{Store}
use Rattle.lst_session.specs.declared.crew.Crew.{Crew}
use Rattle.lst_crash.specs.Crashes.{ending_of, recovered, crash_text}
use Rattle.lst_crash.specs.Recovering.{IsCrashed}
use Rattle.lst_options.specs.declared.crash.DiskOptions.{DiskOptions}
use Rattle.lst_script.specs.Scripts.{IsScript, Explains}
use Rattle.lst_script.specs.declared.faults.ScriptFault.{ScriptFault}
use Rattle.lst_script.specs.declared.faults.ScriptFault.TheVariants as faults
use Rattle.lst_command.specs.declared.command.Task.TheVariants.{Crash}
use Rattle.lst_command.specs.declared.output.Output.{Output}
use Rattle.lst_command.specs.declared.status.Status.{Status}
use Rattle.lst_command.specs.declared.status.Status.TheVariants.{Done}
use Rattle.lst_command.specs.Outputs.{HasSaid, IsOutputFor, IsRefusalFor}
use Rattle.lst_command.specs.Statuses.{fault_status}

refused : (disk : DiskOptions) (limits : Limits) (input : List ℕ) (fault : ScriptFault) → Explains limits input fault → IsRefusalFor (Crash disk) limits input (fault_status fault)
refused disk limits input (faults.Bad line kind) is = is
refused disk limits input faults.OutOfMemory is = tt

pub crash_fault : (disk : DiskOptions) (limits : Limits) (input bytes : List ℕ) (fault : ScriptFault) (status : Status) → status ≡ fault_status fault → bytes ≡ input → Explains limits bytes fault → IsRefusalFor (Crash disk) limits input status
crash_fault disk limits input bytes fault status same same_input is =
    subst (IsRefusalFor (Crash disk) limits input) (sym same) (refused disk limits input fault (subst (λ (text : List ℕ). Explains limits text fault) same_input is))

-- the text of a run that is crashed is the output
pub crash_output : (disk : DiskOptions) (limits opened : Limits) (stop : ℕ) (input bytes : List ℕ) (script : List Line) (text : List ℕ) (both : Store × Crew) (output : Output) → HasSaid text Done output
    → bytes ≡ input → IsScript limits bytes script → opened ≡ limits → stop ≡ disk.stop → IsCrashed opened disk.bytes stop disk.torn script text both → IsOutputFor (Crash disk) limits input output
crash_output disk limits opened stop input bytes script text both output made same_input is_script limited counted by = (
  record {
    script = script;
    is_script = subst (λ (bytes : List ℕ). IsScript limits bytes script) same_input is_script;
    is_text = made.said ∙ by.is_text ∙ (λ i. text_of (limited i) (counted i));
  },
  made.ended,
  made.alone,
)
  where
    text_of : Limits → ℕ → List ℕ
    text_of l calls = crash_text (ending_of l disk.bytes calls script) (recovered disk.torn (ending_of l disk.bytes calls script))
