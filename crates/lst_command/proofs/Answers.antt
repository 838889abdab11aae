-- What the statuses say, taken together.
use Rattle.std.proofs.Common.{◌≡◌, ℕ, ◌<◌, ◌≤◌, List, ◌++◌, ◌∷◌, slice_index_or, Ok, Err, length, length-append, Option, Some, None, IfSome, codes, refl, sym, ap, ◌∙◌, subst, arith, inl, inr, append-nil}
use Rattle.lst_io.specs.Inputs.{IsWholeInput, ReadsBeyond}
use Rattle.lst_script.specs.declared.faults.FaultKind.{FaultKind}
use Rattle.lst_csv.specs.declared.faults.TableFault.{TableFault}
use Rattle.lst_command.specs.declared.status.Status.{Status}
use Rattle.lst_command.specs.declared.status.Status.TheVariants.{Done, Illegal, Usage, BadScript, TooLong, ReadFault, WriteFault, OutOfMemory, BadTable}
use Rattle.lst_script.proofs.Versions.{text_fault_none, one_script}
use Rattle.lst_layout.specs.declared.limits.Limits.{Limits}
use Rattle.lst_legal_runs.specs.declared.levels.Level.{Level}
use Rattle.lst_replies.specs.declared.reports.Report.{Report}
use Rattle.lst_replies.specs.ReportTexts.{IsReportText, text_lines}
use Rattle.lst_replies.proofs.Faults.{only}
use Rattle.lst_report.specs.Claims.{IsClaim, report_part, script_lines}
use Rattle.lst_report.specs.declared.claims.Claim.{Claim}
use Rattle.lst_report.proofs.Claimed.{read_if_claim}
use Rattle.lst_script.specs.declared.faults.ScriptFault.TheVariants as faults
use Rattle.lst_options.specs.declared.crash.CrashOptions.{CrashOptions}
use Rattle.lst_options.specs.declared.level.LevelOptions.{LevelOptions}
use Rattle.lst_options.specs.declared.load.LoadNumbers.{LoadNumbers}
use Rattle.lst_options.specs.declared.as_of.AsOfOptions.{AsOfOptions}
use Rattle.lst_options.specs.Options.{NamesLoad}
use Rattle.lst_options.proofs.OneStore.{names_one, names_one_as_of, names_one_level, names_one_load, names_one_table, names_one_crash}
use Rattle.lst_command.specs.declared.command.Command.{Command}
use Rattle.lst_command.specs.declared.command.Command.TheVariants.{Input, Load}
use Rattle.lst_command.specs.declared.command.Task.{Task}
use Rattle.lst_command.specs.declared.command.Task.TheVariants.{Run, Work, Check, Migrate, AsOf, Import, Dump, Crash}
use Rattle.lst_command.specs.Commands.{Names, NamesLoading, NamesOptions, NamesTask, task_word}
use Rattle.lst_command.proofs.Naming.{no_load_word}
use Rattle.lst_command.specs.Runs.{Left}
use Rattle.lst_command.specs.Owed.{IsFault, IsFaultFor, IsTableFault, IsTableFaultFor, IsInOrder, IsOrderlyFor, IsVerdict, OwesFor, most_bytes}
use Rattle.lst_command.specs.Answers.{Change, HasFailed, IsComplete, IsDue, IsUsage, Makes, Refuses, Says}

-- a whole input is what a source tells
pub whole_is_told : (limit : ℕ) (old new : Option (List ℕ)) (told bytes : List ℕ) → old ≡ Some told → IsWholeInput limit old new bytes → bytes ≡ told
whole_is_told limit None new told bytes same whole = absurd (cc)
whole_is_told limit (Some xs) None told bytes same whole = absurd whole.consumed
whole_is_told limit (Some xs) (Some ys) told bytes same whole =
    let first : xs ≡ told = cc in
    sym (append-nil bytes) ∙ ap (λ (rest : List ℕ). bytes ++ rest) (sym whole.ended) ∙ sym whole.consumed ∙ first

-- more than the limit is more than the limit of what a source tells
pub beyond_is_told : (limit : ℕ) (old new : Option (List ℕ)) (told : List ℕ) → old ≡ Some told → ReadsBeyond limit old new → limit < length told
beyond_is_told limit None new told same beyond = absurd (cc)
beyond_is_told limit (Some xs) None told same beyond = absurd beyond.consumed
beyond_is_told limit (Some xs) (Some ys) told same beyond =
    let first : xs ≡ told = cc in
    omega (arith, ap length first, ap length beyond.consumed, length-append beyond.bytes ys, beyond.many)

-- ---- one command

-- the first letters of two words
first_letter : (a b : Task) → task_word a ≡ task_word b → slice_index_or (task_word a) 0 0 ≡ slice_index_or (task_word b) 0 0
first_letter a b same = ap (λ (word : List ℕ). slice_index_or word 0 0) same

-- the word of a task with its options names one task with its limits
same_named : (options : List (List ℕ)) (a b : Task) (limits other : Limits) → task_word a ≡ task_word b → NamesOptions options a limits → NamesOptions options b other → Input a limits ≡ Input b other
same_named options Run Run limits other word first second = ap (λ (l : Limits). Input Run l) (names_one options limits other first second)
same_named options Run (Work level) limits other word first second = let letter : 114 ≡ 119 = first_letter Run (Work level) word in absurd (omega (arith, letter))
same_named options Run (Check level) limits other word first second = let letter : 114 ≡ 99 = first_letter Run (Check level) word in absurd (omega (arith, letter))
same_named options Run Migrate limits other word first second = let letter : 114 ≡ 109 = first_letter Run Migrate word in absurd (omega (arith, letter))
same_named options Run (AsOf late) limits other word first second = let letter : 114 ≡ 97 = first_letter Run (AsOf late) word in absurd (omega (arith, letter))
same_named options Run Import limits other word first second = let letter : 114 ≡ 105 = first_letter Run Import word in absurd (omega (arith, letter))
same_named options Run Dump limits other word first second = let letter : 114 ≡ 100 = first_letter Run Dump word in absurd (omega (arith, letter))
same_named options Run (Crash disk) limits other word first second = let letter : 114 ≡ 99 = first_letter Run (Crash disk) word in absurd (omega (arith, letter))
same_named options (Work level) Run limits other word first second = let letter : 119 ≡ 114 = first_letter (Work level) Run word in absurd (omega (arith, letter))
same_named options (Work level) (Work at) limits other word first second =
    ap (λ (o : LevelOptions). Input (Work o.level) o.limits) (names_one_level options (record { limits = limits; level = level }) (record { limits = other; level = at }) first second)
same_named options (Work level) (Check at) limits other word first second = let letter : 119 ≡ 99 = first_letter (Work level) (Check at) word in absurd (omega (arith, letter))
same_named options (Work level) Migrate limits other word first second = let letter : 119 ≡ 109 = first_letter (Work level) Migrate word in absurd (omega (arith, letter))
same_named options (Work level) (AsOf late) limits other word first second = let letter : 119 ≡ 97 = first_letter (Work level) (AsOf late) word in absurd (omega (arith, letter))
same_named options (Work level) Import limits other word first second = let letter : 119 ≡ 105 = first_letter (Work level) Import word in absurd (omega (arith, letter))
same_named options (Work level) Dump limits other word first second = let letter : 119 ≡ 100 = first_letter (Work level) Dump word in absurd (omega (arith, letter))
same_named options (Work level) (Crash disk) limits other word first second = let letter : 119 ≡ 99 = first_letter (Work level) (Crash disk) word in absurd (omega (arith, letter))
same_named options (Check level) Run limits other word first second = let letter : 99 ≡ 114 = first_letter (Check level) Run word in absurd (omega (arith, letter))
same_named options (Check level) (Work at) limits other word first second = let letter : 99 ≡ 119 = first_letter (Check level) (Work at) word in absurd (omega (arith, letter))
same_named options (Check level) (Check at) limits other word first second =
    ap (λ (o : LevelOptions). Input (Check o.level) o.limits) (names_one_level options (record { limits = limits; level = level }) (record { limits = other; level = at }) first second)
same_named options (Check level) Migrate limits other word first second = let letter : 99 ≡ 109 = first_letter (Check level) Migrate word in absurd (omega (arith, letter))
same_named options (Check level) (AsOf late) limits other word first second = let letter : 99 ≡ 97 = first_letter (Check level) (AsOf late) word in absurd (omega (arith, letter))
same_named options (Check level) Import limits other word first second = let letter : 99 ≡ 105 = first_letter (Check level) Import word in absurd (omega (arith, letter))
same_named options (Check level) Dump limits other word first second = let letter : 99 ≡ 100 = first_letter (Check level) Dump word in absurd (omega (arith, letter))
same_named options (Check level) (Crash disk) limits other word first second = let letter : 104 ≡ 114 = ap (λ (letters : List ℕ). slice_index_or letters 1 0) word in absurd (omega (arith, letter))
same_named options Migrate Run limits other word first second = let letter : 109 ≡ 114 = first_letter Migrate Run word in absurd (omega (arith, letter))
same_named options Migrate (Work level) limits other word first second = let letter : 109 ≡ 119 = first_letter Migrate (Work level) word in absurd (omega (arith, letter))
same_named options Migrate (Check level) limits other word first second = let letter : 109 ≡ 99 = first_letter Migrate (Check level) word in absurd (omega (arith, letter))
same_named options Migrate Migrate limits other word first second = ap (λ (l : Limits). Input Migrate l) (names_one options limits other first second)
same_named options Migrate (AsOf late) limits other word first second = let letter : 109 ≡ 97 = first_letter Migrate (AsOf late) word in absurd (omega (arith, letter))
same_named options Migrate Import limits other word first second = let letter : 109 ≡ 105 = first_letter Migrate Import word in absurd (omega (arith, letter))
same_named options Migrate Dump limits other word first second = let letter : 109 ≡ 100 = first_letter Migrate Dump word in absurd (omega (arith, letter))
same_named options Migrate (Crash disk) limits other word first second = let letter : 109 ≡ 99 = first_letter Migrate (Crash disk) word in absurd (omega (arith, letter))
same_named options (AsOf time) Run limits other word first second = let letter : 97 ≡ 114 = first_letter (AsOf time) Run word in absurd (omega (arith, letter))
same_named options (AsOf time) (Work level) limits other word first second = let letter : 97 ≡ 119 = first_letter (AsOf time) (Work level) word in absurd (omega (arith, letter))
same_named options (AsOf time) (Check level) limits other word first second = let letter : 97 ≡ 99 = first_letter (AsOf time) (Check level) word in absurd (omega (arith, letter))
same_named options (AsOf time) Migrate limits other word first second = let letter : 97 ≡ 109 = first_letter (AsOf time) Migrate word in absurd (omega (arith, letter))
same_named options (AsOf time) (AsOf late) limits other word first second =
    ap (λ (o : AsOfOptions). Input (AsOf o.time) o.limits) (names_one_as_of options (record { limits = limits; time = time }) (record { limits = other; time = late }) first second)
same_named options (AsOf time) Import limits other word first second = let letter : 97 ≡ 105 = first_letter (AsOf time) Import word in absurd (omega (arith, letter))
same_named options (AsOf time) Dump limits other word first second = let letter : 97 ≡ 100 = first_letter (AsOf time) Dump word in absurd (omega (arith, letter))
same_named options (AsOf time) (Crash disk) limits other word first second = let letter : 97 ≡ 99 = first_letter (AsOf time) (Crash disk) word in absurd (omega (arith, letter))
same_named options Import Run limits other word first second = let letter : 105 ≡ 114 = first_letter Import Run word in absurd (omega (arith, letter))
same_named options Import (Work level) limits other word first second = let letter : 105 ≡ 119 = first_letter Import (Work level) word in absurd (omega (arith, letter))
same_named options Import (Check level) limits other word first second = let letter : 105 ≡ 99 = first_letter Import (Check level) word in absurd (omega (arith, letter))
same_named options Import Migrate limits other word first second = let letter : 105 ≡ 109 = first_letter Import Migrate word in absurd (omega (arith, letter))
same_named options Import (AsOf late) limits other word first second = let letter : 105 ≡ 97 = first_letter Import (AsOf late) word in absurd (omega (arith, letter))
same_named options Import Import limits other word first second = ap (λ (l : Limits). Input Import l) (names_one_table options limits other first second)
same_named options Import Dump limits other word first second = let letter : 105 ≡ 100 = first_letter Import Dump word in absurd (omega (arith, letter))
same_named options Import (Crash disk) limits other word first second = let letter : 105 ≡ 99 = first_letter Import (Crash disk) word in absurd (omega (arith, letter))
same_named options Dump Run limits other word first second = let letter : 100 ≡ 114 = first_letter Dump Run word in absurd (omega (arith, letter))
same_named options Dump (Work level) limits other word first second = let letter : 100 ≡ 119 = first_letter Dump (Work level) word in absurd (omega (arith, letter))
same_named options Dump (Check level) limits other word first second = let letter : 100 ≡ 99 = first_letter Dump (Check level) word in absurd (omega (arith, letter))
same_named options Dump Migrate limits other word first second = let letter : 100 ≡ 109 = first_letter Dump Migrate word in absurd (omega (arith, letter))
same_named options Dump (AsOf late) limits other word first second = let letter : 100 ≡ 97 = first_letter Dump (AsOf late) word in absurd (omega (arith, letter))
same_named options Dump Import limits other word first second = let letter : 100 ≡ 105 = first_letter Dump Import word in absurd (omega (arith, letter))
same_named options Dump Dump limits other word first second = ap (λ (l : Limits). Input Dump l) (names_one options limits other first second)
same_named options Dump (Crash disk) limits other word first second = let letter : 100 ≡ 99 = first_letter Dump (Crash disk) word in absurd (omega (arith, letter))
same_named options (Crash disk) Run limits other word first second = let letter : 99 ≡ 114 = first_letter (Crash disk) Run word in absurd (omega (arith, letter))
same_named options (Crash disk) (Work level) limits other word first second = let letter : 99 ≡ 119 = first_letter (Crash disk) (Work level) word in absurd (omega (arith, letter))
same_named options (Crash disk) (Check level) limits other word first second = let letter : 114 ≡ 104 = ap (λ (letters : List ℕ). slice_index_or letters 1 0) word in absurd (omega (arith, letter))
same_named options (Crash disk) Migrate limits other word first second = let letter : 99 ≡ 109 = first_letter (Crash disk) Migrate word in absurd (omega (arith, letter))
same_named options (Crash disk) (AsOf time) limits other word first second = let letter : 99 ≡ 97 = first_letter (Crash disk) (AsOf time) word in absurd (omega (arith, letter))
same_named options (Crash disk) Import limits other word first second = let letter : 99 ≡ 105 = first_letter (Crash disk) Import word in absurd (omega (arith, letter))
same_named options (Crash disk) Dump limits other word first second = let letter : 99 ≡ 100 = first_letter (Crash disk) Dump word in absurd (omega (arith, letter))
same_named options (Crash disk) (Crash second_disk) limits other word first second =
    ap (λ (o : CrashOptions). Input (Crash o.disk) o.limits) (names_one_crash options (record { limits = limits; disk = disk }) (record { limits = other; disk = second_disk }) first second)

-- words name one task with its limits at most, and one load
one_input : (words : List (List ℕ)) (a b : Task) (limits other : Limits) → NamesTask words a limits → NamesTask words b other → Input a limits ≡ Input b other
one_input words a b limits other first second =
    let both : task_word a ∷ first.options ≡ task_word b ∷ second.options = sym first.word ∙ second.word in
    let word : task_word a ≡ task_word b = cc in
    let options : first.options ≡ second.options = cc in
    same_named second.options a b limits other word (subst (λ (words : List (List ℕ)). NamesOptions words a limits) options first.gives) second.gives

one_load : (words : List (List ℕ)) (a b : LoadNumbers) → NamesLoading words a → NamesLoading words b → Load a ≡ Load b
one_load words a b first second =
    let both : codes "load" ∷ first.options ≡ codes "load" ∷ second.options = sym first.word ∙ second.word in
    let options : first.options ≡ second.options = cc in
    ap (λ (numbers : LoadNumbers). Load numbers) (names_one_load second.options a b (subst (λ (words : List (List ℕ)). NamesLoad words a) options first.gives) second.gives)

-- the word of a task is no load's
not_both_words : (words : List (List ℕ)) (task : Task) (limits : Limits) (numbers : LoadNumbers) → NamesTask words task limits → NamesLoading words numbers → ⊥
not_both_words words task limits numbers first second =
    let both : task_word task ∷ first.options ≡ codes "load" ∷ second.options = sym first.word ∙ second.word in
    let word : task_word task ≡ codes "load" = cc in
    no_load_word task word

-- words name one command at most
pub one_command : (words : List (List ℕ)) (a b : Command) → Names words a → Names words b → a ≡ b
one_command words (Input task limits) (Input other more) first second = one_input words task other limits more first second
one_command words (Input task limits) (Load numbers) first second = absurd (not_both_words words task limits numbers first second)
one_command words (Load numbers) (Input task limits) first second = absurd (not_both_words words task limits numbers second first)
one_command words (Load numbers) (Load other) first second = one_load words numbers other first second

-- ---- one status

-- no input is in order and faulty
not_both : (task : Task) (limits : Limits) (input : List ℕ) (status : Status) (line : ℕ) (kind : FaultKind) → IsOrderlyFor task limits input status → IsFaultFor task limits input line kind → ⊥
not_both Run limits input status line kind orderly faulty =
    let none = text_fault_none limits input orderly.0.0 orderly.0.1 in
    cc
not_both (Work level) limits input status line kind orderly faulty =
    let none = text_fault_none limits input orderly.0.0 orderly.0.1 in
    cc
not_both Migrate limits input status line kind orderly faulty =
    let none = text_fault_none limits input orderly.0.0 orderly.0.1 in
    cc
not_both (AsOf time) limits input status line kind orderly faulty =
    let none = text_fault_none limits input orderly.0.0 orderly.0.1 in
    cc
not_both Dump limits input status line kind orderly faulty =
    let none = text_fault_none limits input orderly.0.0 orderly.0.1 in
    cc
not_both (Crash disk) limits input status line kind orderly faulty =
    let none = text_fault_none limits input orderly.0.0 orderly.0.1 in
    cc
not_both Import limits input status line kind orderly faulty = faulty
not_both (Check level) limits input status line kind orderly faulty = read_if_claim limits input (Err (faults.Bad line kind)) faulty orderly.1.claim orderly.1.is_claim

not_both_table : (task : Task) (limits : Limits) (input : List ℕ) (status : Status) (place : ℕ) (kind : TableFault) → IsOrderlyFor task limits input status → IsTableFaultFor task limits input place kind → ⊥
not_both_table Run limits input status place kind orderly faulty = faulty
not_both_table (Work level) limits input status place kind orderly faulty = faulty
not_both_table (Check level) limits input status place kind orderly faulty = faulty
not_both_table Migrate limits input status place kind orderly faulty = faulty
not_both_table (AsOf time) limits input status place kind orderly faulty = faulty
not_both_table Import limits input status place kind orderly faulty =
    let none = orderly.0 in
    cc
not_both_table Dump limits input status place kind orderly faulty = faulty
not_both_table (Crash disk) limits input status place kind orderly faulty = faulty

-- an input is one claim at most
one_report : (columns : ℕ) (some : 0 < columns) (text : List ℕ) (a b : Report) → IsReportText columns text a → IsReportText columns text b → a ≡ b
one_report columns some text a b first second =
    let same : Ok a ≡ Ok b = sym (only columns some (text_lines text) a first.fits first.lines) ∙ only columns some (text_lines text) b second.fits second.lines in
    cc

one_claim : (limits : Limits) (some : 0 < limits.columns) (text : List ℕ) (a b : Claim) → IsClaim limits text a → IsClaim limits text b → a ≡ b
one_claim limits some text a b first second =
    let scripts : a.script ≡ b.script = one_script limits (script_lines text) a.script b.script first.script second.script in
    let reports : a.report ≡ b.report = one_report limits.columns some (report_part text) a.report b.report first.report second.report in
    λ i. record { script = scripts i; report = reports i }

one_verdict : (level : Level) (limits : Limits) (claim : Claim) (first second : List ℕ) (a b : Status) → IsVerdict level limits claim first a → IsVerdict level limits claim second b → a ≡ b
one_verdict level limits claim first second a b verdict other = elim verdict [
  | inl legal ↦ elim other [
    | inl also ↦ legal.2 ∙ sym also.2
    | inr illegal ↦ absurd (illegal.0 legal.0)
  ]
  | inr illegal ↦ elim other [
    | inl legal ↦ absurd (illegal.0 legal.0)
    | inr also ↦ illegal.2 ∙ sym also.2
  ]
]

-- an input has one status at most
one_status : (task : Task) (limits : Limits) (input : List ℕ) (a b : Status) → IsOrderlyFor task limits input a → IsOrderlyFor task limits input b → a ≡ b
one_status Run limits input a b orderly other = orderly.1 ∙ sym other.1
one_status (Work level) limits input a b orderly other = orderly.1 ∙ sym other.1
one_status Migrate limits input a b orderly other = orderly.1 ∙ sym other.1
one_status (AsOf time) limits input a b orderly other = orderly.1 ∙ sym other.1
one_status Import limits input a b orderly other = orderly.1 ∙ sym other.1
one_status Dump limits input a b orderly other = orderly.1 ∙ sym other.1
one_status (Crash disk) limits input a b orderly other = orderly.1 ∙ sym other.1
one_status (Check level) limits input a b orderly other =
    let same = one_claim limits orderly.1.wide input orderly.1.claim other.1.claim orderly.1.is_claim other.1.is_claim in
    one_verdict level limits other.1.claim orderly.0 other.0 a b (subst (λ (claim : Claim). IsVerdict level limits claim orderly.0 a) same orderly.1.verdict) other.1.verdict

-- an input for which something is owed is in order
owed_orderly : (task : Task) (limits : Limits) (input text : List ℕ) (status : Status) (old new : Left) → OwesFor task limits input text status old new → IsOrderlyFor task limits input status
owed_orderly Run limits input text status old new owed = ((owed.0.script, owed.0.is_script), owed.1)
owed_orderly (Work level) limits input text status old new owed = ((owed.0.script, owed.0.is_script), owed.1)
owed_orderly (Check level) limits input text status old new owed = (text, owed.0)
owed_orderly Migrate limits input text status old new owed = ((owed.0.named.script, (owed.0.named.names, owed.0.is_named)), owed.1)
owed_orderly (AsOf time) limits input text status old new owed = ((owed.0.script, owed.0.is_script), owed.1)
owed_orderly Import limits input text status old new owed = (owed.0.faultless, owed.1)
owed_orderly Dump limits input text status old new owed = ((owed.0.named.script, (owed.0.named.names, owed.0.is_named)), owed.1)
owed_orderly (Crash disk) limits input text status old new owed = ((owed.0.script, owed.0.is_script), owed.1)

in_order : (command : Command) (source : Change) (input text : List ℕ) (status : Status) (old new : Left) → source.before.bytes ≡ Some input → Makes command source text status old new → IsInOrder command input status
in_order (Input task limits) source input text status old new told made =
    let same = whole_is_told most_bytes source.before.bytes source.after.bytes input made.input told made.whole in
    record {
      few = subst (λ (bytes : List ℕ). length bytes ≤ most_bytes) same made.whole.few;
      orderly = subst (λ (bytes : List ℕ). IsOrderlyFor task limits bytes status) same (owed_orderly task limits made.input text status old new made.owed);
    }
in_order (Load numbers) source input text status old new told made = made.ended

-- a faulty line is one of the input that the source tells
is_faulty : (command : Command) (source : Change) (input : List ℕ) (line : ℕ) (kind : FaultKind) → source.before.bytes ≡ Some input → Refuses command (BadScript line kind) source → (length input ≤ most_bytes) × IsFault command input line kind
is_faulty (Input task limits) source input line kind told refused =
    let same = whole_is_told most_bytes source.before.bytes source.after.bytes input refused.input told refused.whole in
    (subst (λ (bytes : List ℕ). length bytes ≤ most_bytes) same refused.whole.few, subst (λ (bytes : List ℕ). IsFaultFor task limits bytes line kind) same refused.is_first)
is_faulty (Load numbers) source input line kind told refused = absurd refused

-- and so is a faulty record
is_table_faulty : (command : Command) (source : Change) (input : List ℕ) (place : ℕ) (kind : TableFault) → source.before.bytes ≡ Some input → Refuses command (BadTable place kind) source → (length input ≤ most_bytes) × IsTableFault command input place kind
is_table_faulty (Input task limits) source input place kind told refused =
    let same = whole_is_told most_bytes source.before.bytes source.after.bytes input refused.input told refused.whole in
    (subst (λ (bytes : List ℕ). length bytes ≤ most_bytes) same refused.whole.few, subst (λ (bytes : List ℕ). IsTableFaultFor task limits bytes place kind) same refused.is_first)
is_table_faulty (Load numbers) source input place kind told refused = absurd refused

-- too long is the input that the source tells
is_long : (command : Command) (source : Change) (input : List ℕ) → source.before.bytes ≡ Some input → Refuses command TooLong source → most_bytes < length input
is_long (Input task limits) source input told refused = beyond_is_told most_bytes source.before.bytes source.after.bytes input told refused
is_long (Load numbers) source input told refused = absurd refused

-- where reading failed the source did
has_failed : (command : Command) (source : Change) → Refuses command ReadFault source → HasFailed source
has_failed (Input task limits) source refused = refused.failed
has_failed (Load numbers) source refused = absurd refused

-- what is in order isn't faulty
not_faulty : (command : Command) (input : List ℕ) (status : Status) (line : ℕ) (kind : FaultKind) → IsInOrder command input status → IsFault command input line kind → ⊥
not_faulty (Input task limits) input status line kind order faulty = not_both task limits input status line kind order.orderly faulty
not_faulty (Load numbers) input status line kind order faulty = faulty

not_table_faulty : (command : Command) (input : List ℕ) (status : Status) (place : ℕ) (kind : TableFault) → IsInOrder command input status → IsTableFault command input place kind → ⊥
not_table_faulty (Input task limits) input status place kind order faulty = not_both_table task limits input status place kind order.orderly faulty
not_table_faulty (Load numbers) input status place kind order faulty = faulty

-- what is in order isn't too long
not_long : (command : Command) (source : Change) (input : List ℕ) (status : Status) → source.before.bytes ≡ Some input → IsInOrder command input status → Refuses command TooLong source → ⊥
not_long (Input task limits) source input status told order refused =
    omega (arith, order.few, beyond_is_told most_bytes source.before.bytes source.after.bytes input told refused)
not_long (Load numbers) source input status told order refused = refused

is_due : (status : Status) (words : List (List ℕ)) (source sink : Change) (old new : Left) (input : List ℕ) → source.before.bytes ≡ Some input → Says status words source sink old new → IsDue status words input
is_due Done words source sink old new input told says = (says.0, says.1, in_order says.0 source input says.2.text Done old new told says.2.made)
is_due Illegal words source sink old new input told says = (says.0, says.1, in_order says.0 source input says.2.text Illegal old new told says.2.made)
is_due Usage words source sink old new input told says = tt
is_due (BadScript line kind) words source sink old new input told says =
    let faulty = is_faulty says.0 source input line kind told says.2.0 in
    (says.0, says.1, faulty.0, faulty.1)
is_due (BadTable place kind) words source sink old new input told says =
    let faulty = is_table_faulty says.0 source input place kind told says.2.0 in
    (says.0, says.1, faulty.0, faulty.1)
is_due TooLong words source sink old new input told says = is_long says.0 source input told says.2.0
is_due ReadFault words source sink old new input told says = tt
is_due WriteFault words source sink old new input told says = (says.0, says.1, says.2.status, in_order says.0 source input says.2.text says.2.status old new told says.2.made)
is_due OutOfMemory words source sink old new input told says = tt

-- the status is due to the input that the source tells
pub due : (status : Status) (words : List (List ℕ)) (source sink : Change) (old new : Left) → Says status words source sink old new → IfSome source.before.bytes (λ input. IsDue status words input)
due status words source sink old new says = told_or_not source.before.bytes (λ input told. is_due status words source sink old new input told says)
  where
    told_or_not : (bytes : Option (List ℕ)) → ((input : List ℕ) → bytes ≡ Some input → IsDue status words input) → IfSome bytes (λ input. IsDue status words input)
    told_or_not None all = tt
    told_or_not (Some input) all = all input refl

-- Usage says that the words are no command line, and any other status but want of memory that they are
pub usage : (status : Status) (words : List (List ℕ)) (source sink : Change) (old new : Left) → Says status words source sink old new → IsUsage status words
usage Done words source sink old new says = record { only = λ same. absurd (cc); due = λ none. absurd (none says.0 says.1) }
usage Illegal words source sink old new says = record { only = λ same. absurd (cc); due = λ none. absurd (none says.0 says.1) }
usage Usage words source sink old new says = record { only = λ same. says.0; due = λ none. inl refl }
usage (BadScript line kind) words source sink old new says = record { only = λ same. absurd (cc); due = λ none. absurd (none says.0 says.1) }
usage (BadTable place kind) words source sink old new says = record { only = λ same. absurd (cc); due = λ none. absurd (none says.0 says.1) }
usage TooLong words source sink old new says = record { only = λ same. absurd (cc); due = λ none. absurd (none says.0 says.1) }
usage ReadFault words source sink old new says = record { only = λ same. absurd (cc); due = λ none. absurd (none says.0 says.1) }
usage WriteFault words source sink old new says = record { only = λ same. absurd (cc); due = λ none. absurd (none says.0 says.1) }
usage OutOfMemory words source sink old new says = record { only = λ same. absurd (cc); due = λ none. inr refl }

-- a command has one status at most for what its source tells
one_due : (command : Command) (input : List ℕ) (a b : Status) → IsInOrder command input a → IsInOrder command input b → a ≡ b
one_due (Input task limits) input a b first second = one_status task limits input a b first.orderly second.orderly
one_due (Load numbers) input a b first second = first ∙ sym second

-- two orders of one input under the commands of the same words have one status
agree : (words : List (List ℕ)) (command other : Command) (input : List ℕ) (status due : Status) → Names words command → Names words other → IsInOrder command input status → IsInOrder other input due → status ≡ due
agree words command other input status due names named order expected =
    let same = one_command words command other names named in
    one_due other input status due (subst (λ (c : Command). IsInOrder c input status) same order) expected

-- without a fault of an end, the status is the one that is due, or memory was wanting
pub complete : (status : Status) (words : List (List ℕ)) (source sink : Change) (old new : Left) → Says status words source sink old new → IsComplete status words source sink
complete Done words source sink old new says command input due names told order reads writes =
    let own = is_due Done words source sink old new input told says in
    inl (agree words own.0 command input Done due own.1 names own.2 order)
complete Illegal words source sink old new says command input due names told order reads writes =
    let own = is_due Illegal words source sink old new input told says in
    inl (agree words own.0 command input Illegal due own.1 names own.2 order)
complete Usage words source sink old new says command input due names told order reads writes = absurd (says.0 command names)
complete (BadScript line kind) words source sink old new says command input due names told order reads writes =
    let own = is_due (BadScript line kind) words source sink old new input told says in
    let same = one_command words own.0 command own.1 names in
    absurd (not_faulty command input due line kind order (subst (λ (c : Command). IsFault c input line kind) same own.3))
complete (BadTable place kind) words source sink old new says command input due names told order reads writes =
    let own = is_due (BadTable place kind) words source sink old new input told says in
    let same = one_command words own.0 command own.1 names in
    absurd (not_table_faulty command input due place kind order (subst (λ (c : Command). IsTableFault c input place kind) same own.3))
complete TooLong words source sink old new says command input due names told order reads writes =
    let same = one_command words says.0 command says.1 names in
    absurd (not_long command source input due told order (subst (λ (c : Command). Refuses c TooLong source) same says.2.0))
complete ReadFault words source sink old new says command input due names told order reads writes = absurd (reads (has_failed says.0 source says.2.0))
complete WriteFault words source sink old new says command input due names told order reads writes = absurd (writes says.2.failed)
complete OutOfMemory words source sink old new says command input due names told order reads writes = inr refl
