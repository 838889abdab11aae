-- An import, and the table that a run leaves.
use Rattle.std.proofs.Common.{◌≡◌, ℕ, List, None, sym, subst, ◌∙◌}
use Rattle.lst_layout.specs.declared.limits.Limits.{Limits}
use Rattle.lst_rule.specs.declared.store.Store.{Store}
use Rattle.lst_session.specs.declared.crew.Crew.{Crew}
use Rattle.lst_csv.specs.declared.faults.TableRefusal.{TableRefusal}
use Rattle.lst_csv.specs.declared.faults.TableRefusal.TheVariants as refusals
use Rattle.lst_csv.specs.Importing.{import_of}
use Rattle.lst_csv.specs.Records.{records_of}
use Rattle.lst_csv.specs.Tables.{Explains as ExplainsTable, table_fault}
use Rattle.lst_script.specs.Scripts.{IsNamed, Explains}
use Rattle.lst_script.specs.declared.scripts.Named.{Named}
use Rattle.lst_script.specs.declared.faults.ScriptFault.{ScriptFault}
use Rattle.lst_script.specs.declared.faults.ScriptFault.TheVariants as faults
use Rattle.lst_command.specs.declared.command.Task.TheVariants.{Import, Dump}
use Rattle.lst_command.specs.declared.output.Output.{Output}
use Rattle.lst_command.specs.declared.status.Status.{Status}
use Rattle.lst_command.specs.declared.status.Status.TheVariants.{Done}
use Rattle.lst_command.specs.Outputs.{HasMade, HasSaid, IsOutputFor, IsRefusalFor}
use Rattle.lst_command.specs.Owed.{dump_of}
use Rattle.lst_command.specs.Runs.{LeftBy}
use Rattle.lst_command.specs.Statuses.{fault_status, refusal_status}

-- ---- an import

-- the script that stands for the records of the input is the output
pub import_output : (limits : Limits) (input bytes text : List ℕ) (output : Output) → HasSaid text Done output → bytes ≡ input
    → (table_fault limits.columns (records_of bytes) ≡ None) × (text ≡ import_of (records_of bytes)) → IsOutputFor Import limits input output
import_output limits input bytes text output made same is = (
  record {
    faultless = subst (λ (bytes : List ℕ). table_fault limits.columns (records_of bytes) ≡ None) same is.0;
    is_text = made.said ∙ subst (λ (bytes : List ℕ). text ≡ import_of (records_of bytes)) same is.1;
  },
  made.ended,
  made.alone,
)

table_refused : (limits : Limits) (input : List ℕ) (refusal : TableRefusal) → ExplainsTable limits.columns (records_of input) refusal → IsRefusalFor Import limits input (refusal_status refusal)
table_refused limits input (refusals.Bad place kind) is = is
table_refused limits input refusals.OutOfMemory is = tt

-- a faulty record is why there is none
pub import_refusal : (limits : Limits) (input bytes : List ℕ) (refusal : TableRefusal) (status : Status) → status ≡ refusal_status refusal → bytes ≡ input → ExplainsTable limits.columns (records_of bytes) refusal
    → IsRefusalFor Import limits input status
import_refusal limits input bytes refusal status same same_input is =
    subst (IsRefusalFor Import limits input) (sym same) (table_refused limits input refusal (subst (λ (text : List ℕ). ExplainsTable limits.columns (records_of text) refusal) same_input is))

-- ---- a dump

refused : (limits : Limits) (input : List ℕ) (fault : ScriptFault) → Explains limits input fault → IsRefusalFor Dump limits input (fault_status fault)
refused limits input (faults.Bad line kind) is = is
refused limits input faults.OutOfMemory is = tt

pub dump_fault : (limits : Limits) (input bytes : List ℕ) (fault : ScriptFault) (status : Status) → status ≡ fault_status fault → bytes ≡ input → Explains limits bytes fault → IsRefusalFor Dump limits input status
dump_fault limits input bytes fault status same same_input is =
    subst (IsRefusalFor Dump limits input) (sym same) (refused limits input fault (subst (λ (text : List ℕ). Explains limits text fault) same_input is))

-- the text of the table, with what the run leaves, is the output
pub dump_output : (limits : Limits) (input bytes : List ℕ) (named : Named) (text : List ℕ) (both : Store × Crew) (output : Output) → HasMade text both output
    → bytes ≡ input → IsNamed limits bytes named → text ≡ dump_of limits named.names named.script → LeftBy limits named.script both → IsOutputFor Dump limits input output
dump_output limits input bytes named text both output made same_input is_named is_text by = (
  record {
    named = named;
    is_named = subst (λ (bytes : List ℕ). IsNamed limits bytes named) same_input is_named;
    is_text = made.said ∙ is_text;
    both = both;
    is_left = made.left;
    by = by;
  },
  made.ended,
)
