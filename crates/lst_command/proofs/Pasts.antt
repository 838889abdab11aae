-- A look at a past table: its output, and why there is none.
use Rattle.std.proofs.Common.{◌≡◌, ℕ, List, sym, subst, ◌∙◌}
use Rattle.lst_layout.specs.declared.limits.Limits.{Limits}
use Rattle.lst_model.specs.declared.lines.Line.{Line}
use Rattle.lst_rule.specs.declared.store.Store.{Store}
use Rattle.lst_script.specs.Scripts.{IsScript, Explains}
use Rattle.lst_script.specs.declared.faults.ScriptFault.{ScriptFault}
use Rattle.lst_script.specs.declared.faults.ScriptFault.TheVariants as faults
use Rattle.lst_session.specs.declared.crew.Crew.{Crew}
use Rattle.lst_command.specs.declared.command.Task.TheVariants.{AsOf}
use Rattle.lst_command.specs.declared.output.Output.{Output}
use Rattle.lst_command.specs.declared.status.Status.{Status}
use Rattle.lst_command.specs.Outputs.{HasMade, IsOutputFor, IsRefusalFor}
use Rattle.lst_command.specs.Owed.{as_of_text}
use Rattle.lst_command.specs.Runs.{LeftBy}
use Rattle.lst_command.specs.Statuses.{fault_status}

refused : (time : ℕ) (limits : Limits) (input : List ℕ) (fault : ScriptFault) → Explains limits input fault → IsRefusalFor (AsOf time) limits input (fault_status fault)
refused time limits input (faults.Bad line kind) is = is
refused time limits input faults.OutOfMemory is = tt

pub past_fault : (time : ℕ) (limits : Limits) (input bytes : List ℕ) (fault : ScriptFault) (status : Status) → status ≡ fault_status fault → bytes ≡ input → Explains limits bytes fault → IsRefusalFor (AsOf time) limits input status
past_fault time limits input bytes fault status same same_input is =
    subst (IsRefusalFor (AsOf time) limits input) (sym same) (refused time limits input fault (subst (λ (text : List ℕ). Explains limits text fault) same_input is))

-- the text of a past table, with what the run leaves, is the output
pub past_output : (time : ℕ) (limits : Limits) (input bytes : List ℕ) (script : List Line) (text : List ℕ) (both : Store × Crew) (output : Output) → HasMade text both output
    → bytes ≡ input → IsScript limits bytes script → text ≡ as_of_text limits script time → LeftBy limits script both → IsOutputFor (AsOf time) limits input output
past_output time limits input bytes script text both output made same_input is_script is_text by = (
  record {
    script = script;
    is_script = subst (λ (bytes : List ℕ). IsScript limits bytes script) same_input is_script;
    is_text = made.said ∙ is_text;
    both = both;
    is_left = made.left;
    by = by;
  },
  made.ended,
)
