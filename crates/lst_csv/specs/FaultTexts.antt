-- What a message says of a faulty record.
use Rattle.std.specs.Prelude.{ℕ, List, codes}
use Rattle.lst_csv.specs.declared.faults.TableFault.{TableFault}
use Rattle.lst_csv.specs.declared.faults.TableFault.TheVariants.{BadHeader, BadLength, BadField, RepeatedKey, TooManyRows}

abbrev pub table_fault_text : TableFault → List ℕ
table_fault_text BadHeader = codes "bad header"
table_fault_text BadLength = codes "wrong number of fields"
table_fault_text BadField = codes "bad field"
table_fault_text RepeatedKey = codes "repeated key"
table_fault_text TooManyRows = codes "too many rows"
