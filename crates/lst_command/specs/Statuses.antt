-- The number of a status, and the line that is written of it.
use Rattle.std.specs.Prelude.{ℕ, List, [], ◌++◌, codes, decimal}
use Rattle.lst_command.specs.declared.status.Status.{Status}
use Rattle.lst_command.specs.declared.status.Status.TheVariants.{Done, Illegal, Usage, BadScript, TooLong, ReadFault, WriteFault, OutOfMemory, BadTable}
use Rattle.lst_script.specs.declared.faults.ScriptFault.{ScriptFault}
use Rattle.lst_script.specs.declared.faults.ScriptFault.TheVariants as faults
use Rattle.lst_script.specs.FaultTexts.{fault_text}
use Rattle.lst_csv.specs.declared.faults.TableRefusal.{TableRefusal}
use Rattle.lst_csv.specs.declared.faults.TableRefusal.TheVariants as refusals
use Rattle.lst_csv.specs.FaultTexts.{table_fault_text}

abbrev pub status_code : Status → ℕ
status_code Done = 0
status_code Illegal = 1
status_code Usage = 2
status_code (BadScript line kind) = 3
status_code TooLong = 4
status_code ReadFault = 5
status_code WriteFault = 6
status_code OutOfMemory = 7
status_code (BadTable place kind) = 8

-- the line for the reader of errors, with its newline; none where the command did its work
abbrev pub error_line : Status → List ℕ
error_line Done = []
error_line Illegal = []
error_line Usage = codes "lstore: bad command line\n"
error_line (BadScript line kind) = codes "lstore: line " ++ decimal line ++ codes ": " ++ fault_text kind ++ codes "\n"
error_line TooLong = codes "lstore: input too long\n"
error_line ReadFault = codes "lstore: read failed\n"
error_line WriteFault = codes "lstore: write failed\n"
error_line OutOfMemory = codes "lstore: out of memory\n"
error_line (BadTable place kind) = codes "lstore: record " ++ decimal place ++ codes ": " ++ table_fault_text kind ++ codes "\n"

-- the status of an input that isn't in order, or for which memory was wanting
abbrev pub fault_status : ScriptFault → Status
fault_status (faults.Bad line kind) = BadScript line kind
fault_status faults.OutOfMemory = OutOfMemory

-- the status of an input that is no table, or for which memory was wanting
abbrev pub refusal_status : TableRefusal → Status
refusal_status (refusals.Bad place kind) = BadTable place kind
refusal_status refusals.OutOfMemory = OutOfMemory
