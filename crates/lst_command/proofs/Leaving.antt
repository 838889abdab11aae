-- What a command says and leaves, from what its parts did.
use Rattle.std.proofs.Common.{◌≡◌, ℕ, List, Some, None, refl, sym, ap, subst, ◌∙◌, inl, inr, true≢false}
use Rattle.std.specs.Prelude.{take, ◌<◌, ◌↔◌, Bool, true, false, IsTrue, IfErr, IfOk, IfSome, Err, Ok, Result, codes}
use Rattle.std.specs.Io.KnownBytes.{Appends}
use Rattle.lst_layout.specs.declared.layout.Layout.{Layout}
use Rattle.lst_layout.specs.declared.limits.Limits.{Limits}
use Rattle.lst_work_laws.specs.Worked.{IsWorkedAt}
use Rattle.lst_rule.specs.declared.store.Store.{Store}
use Rattle.lst_session.specs.declared.crew.Crew.{Crew}
use Rattle.lst_work.specs.declared.loading.Loaded.{Loaded}
use Rattle.lst_work.specs.Loaded.{IsLoaded}
use Rattle.lst_options.specs.declared.load.LoadNumbers.{LoadNumbers}
use Rattle.lst_command.specs.declared.command.Command.{Command}
use Rattle.lst_command.specs.declared.command.Command.TheVariants.{Input, Load}
use Rattle.lst_command.specs.declared.command.Task.{Task}
use Rattle.lst_command.specs.declared.command.Task.TheVariants.{Run, Work, Check, Migrate, AsOf, Import, Dump, Crash}
use Rattle.lst_command.specs.declared.output.Output.{Output}
use Rattle.lst_command.specs.declared.status.Status.{Status}
use Rattle.lst_command.specs.declared.status.Status.TheVariants.{Done, Illegal, Usage, BadScript, TooLong, ReadFault, WriteFault, OutOfMemory, BadTable}
use Rattle.lst_command.specs.Commands.{Names}
use Rattle.lst_model.specs.declared.lines.Line.{Line}
use Rattle.lst_script.specs.Canonical.{named_text}
use Rattle.lst_script.specs.Scripts.{IsScript, IsNamed, Explains}
use Rattle.lst_script.specs.declared.scripts.Named.{Named}
use Rattle.lst_script.specs.declared.faults.ScriptFault.{ScriptFault}
use Rattle.lst_script.specs.declared.faults.ScriptFault.TheVariants as faults
use Rattle.lst_legal.specs.Judged.{IsLegalAt}
use Rattle.lst_legal_runs.specs.declared.levels.Level.{Level}
use Rattle.lst_replies.specs.declared.reports.Report.{Report}
use Rattle.lst_replies.specs.ReportTexts.{report_text}
use Rattle.lst_report.specs.Claims.{IsClaim, Explains as ExplainsClaim}
use Rattle.lst_report.specs.declared.claims.Claim.{Claim}
use Rattle.lst_command.specs.Owed.{OwesFor, OwesLoad, load_text, run_text}
use Rattle.lst_command.specs.Runs.{Left, LeftBy}
use Rattle.lst_command.specs.Statuses.{fault_status}
use Rattle.lst_command.specs.Outputs.{HasMade, HasSaid, IsLoadOutput, IsOutputFor, IsOutputOf, IsRefusalFor, IsVerdictOn}
use Rattle.lst_command.specs.Answers.{Change, HasFailed, IsUntouched, Makes, ReadsInput, Refuses, RefusesInput, RefusesLoad, Says}

-- a status with which an output is written
abbrev IsFinal : Status → Type 0
IsFinal Done = Unit {0}
IsFinal Illegal = Unit {0}
IsFinal status = ⊥

final : (task : Task) (limits : Limits) (input text : List ℕ) (status : Status) (old new : Left) → OwesFor task limits input text status old new → IsFinal status
final Run limits input text status old new owed = subst IsFinal (sym owed.1) tt
final (Work level) limits input text status old new owed = subst IsFinal (sym owed.1) tt
final Migrate limits input text status old new owed = subst IsFinal (sym owed.1) tt
final (AsOf time) limits input text status old new owed = subst IsFinal (sym owed.1) tt
final Import limits input text status old new owed = subst IsFinal (sym owed.1) tt
final Dump limits input text status old new owed = subst IsFinal (sym owed.1) tt
final (Crash disk) limits input text status old new owed = subst IsFinal (sym owed.1) tt
final (Check level) limits input text status old new owed = elim owed.0.verdict [
  | inl legal ↦ subst IsFinal (sym legal.2) tt
  | inr illegal ↦ subst IsFinal (sym illegal.2) tt
]

-- what a call takes over from an output: its store and crew, if it has them
abbrev TakesOver : Left → Left → Left → Type 0
TakesOver both old new = IfSome both (λ given. new ≡ both) × (both ≡ None → new ≡ old)

is_over : (both old new : Left) (pair : Store × Crew) → both ≡ Some pair → TakesOver both old new → new ≡ Some pair
is_over both old new pair is over = subst (λ (o : Left). IfSome o (λ given. new ≡ both)) is over.0 ∙ is

-- what is owed where nothing was left before, is owed with what the call takes over
taken_over : (task : Task) (limits : Limits) (input text : List ℕ) (status : Status) (both old new : Left) → OwesFor task limits input text status None both → TakesOver both old new → OwesFor task limits input text status old new
taken_over Run limits input text status both old new owed over = (
  record {
    script = owed.0.script;
    is_script = owed.0.is_script;
    is_text = owed.0.is_text;
    both = owed.0.both;
    is_left = is_over both old new owed.0.both owed.0.is_left over;
    by = owed.0.by;
  },
  owed.1,
)
taken_over (Work level) limits input text status both old new owed over = (
  record {
    script = owed.0.script;
    is_script = owed.0.is_script;
    report = owed.0.report;
    is_text = owed.0.is_text;
    both = owed.0.both;
    is_left = is_over both old new owed.0.both owed.0.is_left over;
    layout = owed.0.layout;
    limited = owed.0.limited;
    by = owed.0.by;
  },
  owed.1,
)
taken_over (Check level) limits input text status both old new owed over = (owed.0, over.1 owed.1)
taken_over Migrate limits input text status both old new owed over = (owed.0, owed.1, over.1 owed.2)
taken_over (AsOf time) limits input text status both old new owed over = (
  record {
    script = owed.0.script;
    is_script = owed.0.is_script;
    is_text = owed.0.is_text;
    both = owed.0.both;
    is_left = is_over both old new owed.0.both owed.0.is_left over;
    by = owed.0.by;
  },
  owed.1,
)
taken_over Import limits input text status both old new owed over = (owed.0, owed.1, over.1 owed.2)
taken_over Dump limits input text status both old new owed over = (
  record {
    named = owed.0.named;
    is_named = owed.0.is_named;
    is_text = owed.0.is_text;
    both = owed.0.both;
    is_left = is_over both old new owed.0.both owed.0.is_left over;
    by = owed.0.by;
  },
  owed.1,
)
taken_over (Crash disk) limits input text status both old new owed over = (owed.0, owed.1, over.1 owed.2)

-- what a command makes has a status with which an output is written
made_final : (command : Command) (source : Change) (text : List ℕ) (status : Status) (old new : Left) → Makes command source text status old new → IsFinal status
made_final (Input task limits) source text status old new made = final task limits made.input text status old new made.owed
made_final (Load numbers) source text status old new made = subst IsFinal (sym made.ended) tt

-- what a load owes, it owes with what the call takes over
load_taken_over : (numbers : LoadNumbers) (text : List ℕ) (both old new : Left) → OwesLoad numbers text both → TakesOver both old new → OwesLoad numbers text new
load_taken_over numbers text both old new owed over = record {
  is_text = owed.is_text;
  loaded = owed.loaded;
  both = owed.both;
  is_left = is_over both old new owed.both owed.is_left over;
  by = owed.by;
}

-- what a command makes is its output, with what the call takes over
makes : (command : Command) (source : Change) (output : Output) (old new : Left) → IsOutputOf command source output → TakesOver output.both old new → Makes command source output.text output.status old new
makes (Input task limits) source output old new made over = record {
  input = made.0;
  whole = made.1;
  owed = taken_over task limits made.0 output.text output.status output.both old new made.2 over;
}
makes (Load numbers) source output old new made over = record {
  unread = made.0;
  owed = load_taken_over numbers output.text output.both old new made.1.owed over;
  ended = made.1.ended;
}

-- a status with which no output is owed
abbrev IsRefusing : Status → Type 0
IsRefusing (BadScript line kind) = Unit {0}
IsRefusing TooLong = Unit {0}
IsRefusing ReadFault = Unit {0}
IsRefusing OutOfMemory = Unit {0}
IsRefusing (BadTable place kind) = Unit {0}
IsRefusing status = ⊥

input_refusing : (task : Task) (limits : Limits) (status : Status) (source : Change) → RefusesInput task limits status source → IsRefusing status
input_refusing task limits Done source refused = refused
input_refusing task limits Illegal source refused = refused
input_refusing task limits Usage source refused = refused
input_refusing task limits (BadScript line kind) source refused = tt
input_refusing task limits TooLong source refused = tt
input_refusing task limits ReadFault source refused = tt
input_refusing task limits WriteFault source refused = refused
input_refusing task limits OutOfMemory source refused = tt
input_refusing task limits (BadTable place kind) source refused = tt

load_refusing : (status : Status) (source : Change) → RefusesLoad status source → IsRefusing status
load_refusing Done source refused = refused
load_refusing Illegal source refused = refused
load_refusing Usage source refused = refused
load_refusing (BadScript line kind) source refused = tt
load_refusing TooLong source refused = tt
load_refusing ReadFault source refused = tt
load_refusing WriteFault source refused = refused
load_refusing OutOfMemory source refused = tt
load_refusing (BadTable place kind) source refused = tt

refusing : (command : Command) (status : Status) (source : Change) → Refuses command status source → IsRefusing status
refusing (Input task limits) status source refused = input_refusing task limits status source refused
refusing (Load numbers) status source refused = load_refusing status source refused

module _ (words : List (List ℕ)) (source sink : Change) (command : Command) (names : Names words command) where
  written_by : (text : List ℕ) (status : Status) (old new : Left) → Makes command source text status old new → Appends sink.before.bytes sink.after.bytes text → Says status words source sink old new
  written_by text Done old new made written = (command, names, record { text = text; made = made; written = written })
  written_by text Illegal old new made written = (command, names, record { text = text; made = made; written = written })
  written_by text Usage old new made written = absurd (made_final command source text Usage old new made)
  written_by text (BadScript line kind) old new made written = absurd (made_final command source text (BadScript line kind) old new made)
  written_by text TooLong old new made written = absurd (made_final command source text TooLong old new made)
  written_by text ReadFault old new made written = absurd (made_final command source text ReadFault old new made)
  written_by text WriteFault old new made written = absurd (made_final command source text WriteFault old new made)
  written_by text OutOfMemory old new made written = absurd (made_final command source text OutOfMemory old new made)
  written_by text (BadTable place kind) old new made written = absurd (made_final command source text (BadTable place kind) old new made)

  -- the output was written, and the status is its own
  pub says_written : (output : Output) (bytes : List ℕ) (old new : Left) → IsOutputOf command source output → bytes ≡ output.text → Appends sink.before.bytes sink.after.bytes bytes
      → IfSome output.both (λ given. new ≡ output.both) → (output.both ≡ None → new ≡ old) → Says output.status words source sink old new
  says_written output bytes old new made same written some none = written_by output.text output.status old new (makes command source output old new made (some, none))
      (subst (λ (text : List ℕ). Appends sink.before.bytes sink.after.bytes text) same written)

  -- the sink failed at a front of the output
  pub says_part : (output : Output) (bytes : List ℕ) (count : ℕ) (old new : Left) → IsOutputOf command source output → bytes ≡ output.text → Appends sink.before.bytes sink.after.bytes (take count bytes) → HasFailed sink
      → IfSome output.both (λ given. new ≡ output.both) → (output.both ≡ None → new ≡ old) → Says WriteFault words source sink old new
  says_part output bytes count old new made same written failed some none = (
    command,
    names,
    record {
      text = output.text;
      status = output.status;
      made = makes command source output old new made (some, none);
      count = count;
      written = subst (λ (text : List ℕ). Appends sink.before.bytes sink.after.bytes (take count text)) same written;
      failed = failed;
    },
  )

  -- nothing is owed
  pub says_refused : (status : Status) (left : Left) → Refuses command status source → IsUntouched sink → Says status words source sink left left
  says_refused Done left refused untouched = absurd (refusing command Done source refused)
  says_refused Illegal left refused untouched = absurd (refusing command Illegal source refused)
  says_refused Usage left refused untouched = absurd (refusing command Usage source refused)
  says_refused (BadScript line kind) left refused untouched = (command, names, (refused, record { unwritten = untouched; same = refl }))
  says_refused TooLong left refused untouched = (command, names, (refused, record { unwritten = untouched; same = refl }))
  says_refused ReadFault left refused untouched = (command, names, (refused, record { unwritten = untouched; same = refl }))
  says_refused WriteFault left refused untouched = absurd (refusing command WriteFault source refused)
  says_refused OutOfMemory left refused untouched = inr (command, names, (refused, record { unwritten = untouched; same = refl }))
  says_refused (BadTable place kind) left refused untouched = (command, names, (refused, record { unwritten = untouched; same = refl }))

-- ---- what is read

-- a fault of a script is why there is no output
run_refused : (limits : Limits) (input : List ℕ) (fault : ScriptFault) → Explains limits input fault → IsRefusalFor Run limits input (fault_status fault)
run_refused limits input (faults.Bad line kind) is = is
run_refused limits input faults.OutOfMemory is = tt

work_refused : (level : Level) (limits : Limits) (input : List ℕ) (fault : ScriptFault) → Explains limits input fault → IsRefusalFor (Work level) limits input (fault_status fault)
work_refused level limits input (faults.Bad line kind) is = is
work_refused level limits input faults.OutOfMemory is = tt

check_refused : (level : Level) (limits : Limits) (input : List ℕ) (fault : ScriptFault) → ExplainsClaim limits input fault → IsRefusalFor (Check level) limits input (fault_status fault)
check_refused level limits input (faults.Bad line kind) is = is
check_refused level limits input faults.OutOfMemory is = tt

migrate_refused : (limits : Limits) (input : List ℕ) (fault : ScriptFault) → Explains limits input fault → IsRefusalFor Migrate limits input (fault_status fault)
migrate_refused limits input (faults.Bad line kind) is = is
migrate_refused limits input faults.OutOfMemory is = tt

pub migrate_fault : (limits : Limits) (input bytes : List ℕ) (fault : ScriptFault) (status : Status) → status ≡ fault_status fault → bytes ≡ input → Explains limits bytes fault → IsRefusalFor Migrate limits input status
migrate_fault limits input bytes fault status same same_input is =
    subst (IsRefusalFor Migrate limits input) (sym same) (migrate_refused limits input fault (subst (λ (text : List ℕ). Explains limits text fault) same_input is))

pub run_fault : (limits : Limits) (input bytes : List ℕ) (fault : ScriptFault) (status : Status) → status ≡ fault_status fault → bytes ≡ input → Explains limits bytes fault → IsRefusalFor Run limits input status
run_fault limits input bytes fault status same same_input is =
    subst (IsRefusalFor Run limits input) (sym same) (run_refused limits input fault (subst (λ (text : List ℕ). Explains limits text fault) same_input is))

pub work_fault : (level : Level) (limits : Limits) (input bytes : List ℕ) (fault : ScriptFault) (status : Status) → status ≡ fault_status fault → bytes ≡ input → Explains limits bytes fault → IsRefusalFor (Work level) limits input status
work_fault level limits input bytes fault status same same_input is =
    subst (IsRefusalFor (Work level) limits input) (sym same) (work_refused level limits input fault (subst (λ (text : List ℕ). Explains limits text fault) same_input is))

pub check_fault : (level : Level) (limits : Limits) (input bytes : List ℕ) (fault : ScriptFault) (status : Status) → status ≡ fault_status fault → bytes ≡ input → ExplainsClaim limits bytes fault → IsRefusalFor (Check level) limits input status
check_fault level limits input bytes fault status same same_input is =
    subst (IsRefusalFor (Check level) limits input) (sym same) (check_refused level limits input fault (subst (λ (text : List ℕ). ExplainsClaim limits text fault) same_input is))

-- ---- what is made

-- the text of a whole run, with what it leaves, is the output of a run
pub run_output : (limits : Limits) (input bytes : List ℕ) (script : List Line) (text : List ℕ) (both : Store × Crew) (output : Output) → HasMade text both output
    → bytes ≡ input → IsScript limits bytes script → text ≡ run_text limits script → LeftBy limits script both → IsOutputFor Run limits input output
run_output limits input bytes script text both output made same_input is_script is_text by = (
  record {
    script = script;
    is_script = subst (λ (bytes : List ℕ). IsScript limits bytes script) same_input is_script;
    is_text = made.said ∙ is_text;
    both = both;
    is_left = made.left;
    by = by;
  },
  made.ended,
)

-- the text of the report of sessions at work, with what they leave, is their output
pub work_output : (level : Level) (limits : Limits) (input bytes : List ℕ) (script : List Line) (layout : Layout) (report : Report) (both : Store × Crew) (result : Result Output Status) → bytes ≡ input → IsScript limits bytes script → layout.limits ≡ limits
    → IsWorkedAt level layout script report both.0 both.1 → IfOk result (HasMade (report_text report) both) → IfOk result (IsOutputFor (Work level) limits input)
work_output level limits input bytes script layout report both (Ok output) same_input is_script limited by made = (
  record {
    script = script;
    is_script = subst (λ (bytes : List ℕ). IsScript limits bytes script) same_input is_script;
    report = report;
    is_text = made.said;
    both = both;
    is_left = made.left;
    layout = layout;
    limited = limited;
    by = by;
  },
  made.ended,
)
work_output level limits input bytes script layout report both (Err status) same_input is_script limited by made = tt

pub work_refusal : (level : Level) (limits : Limits) (input : List ℕ) (result : Result Output Status) → IfErr result (λ status. status ≡ OutOfMemory) → IfErr result (IsRefusalFor (Work level) limits input)
work_refusal level limits input (Ok output) is = tt
work_refusal level limits input (Err status) is = subst (IsRefusalFor (Work level) limits input) (sym is) tt

-- the text of version 2 alone is the output of a migration
pub migrate_output : (limits : Limits) (input bytes : List ℕ) (named : Named) (result : Result Output Status) → bytes ≡ input → IsNamed limits bytes named
    → IfOk result (HasSaid (named_text named.names named.script) Done) → IfOk result (IsOutputFor Migrate limits input)
migrate_output limits input bytes named (Ok output) same_input is made = (
  record {
    named = named;
    is_named = subst (λ (bytes : List ℕ). IsNamed limits bytes named) same_input is;
    is_text = made.said;
  },
  made.ended,
  made.alone,
)
migrate_output limits input bytes named (Err status) same_input is made = tt

pub migrate_refusal : (limits : Limits) (input : List ℕ) (result : Result Output Status) → IfErr result (λ status. status ≡ OutOfMemory) → IfErr result (IsRefusalFor Migrate limits input)
migrate_refusal limits input (Ok output) is = tt
migrate_refusal limits input (Err status) is = subst (IsRefusalFor Migrate limits input) (sym is) tt

-- the output for the whole input is the task's
pub made_output : (task : Task) (limits : Limits) (source : Change) (input : List ℕ) (result : Result Output Status) → ReadsInput source input → IfOk result (IsOutputFor task limits input) → IfOk result (IsOutputOf (Input task limits) source)
made_output task limits source input (Ok output) whole is = (input, whole, is)
made_output task limits source input (Err status) whole is = tt

refuses : (task : Task) (limits : Limits) (source : Change) (input : List ℕ) (status : Status) → ReadsInput source input → IsRefusalFor task limits input status → RefusesInput task limits status source
refuses task limits source input Done whole is = absurd is
refuses task limits source input Illegal whole is = absurd is
refuses task limits source input Usage whole is = absurd is
refuses task limits source input (BadScript line kind) whole is = record { input = input; whole = whole; is_first = is }
refuses task limits source input (BadTable place kind) whole is = record { input = input; whole = whole; is_first = is }
refuses task limits source input TooLong whole is = absurd is
refuses task limits source input ReadFault whole is = absurd is
refuses task limits source input WriteFault whole is = absurd is
refuses task limits source input OutOfMemory whole is = record { bytes = input; consumed = whole.consumed; few = whole.few }

pub made_refusal : (task : Task) (limits : Limits) (source : Change) (input : List ℕ) (result : Result Output Status) → ReadsInput source input → IfErr result (IsRefusalFor task limits input) → IfErr result (λ status. RefusesInput task limits status source)
made_refusal task limits source input (Ok output) whole is = tt
made_refusal task limits source input (Err status) whole is = refuses task limits source input status whole is

-- ---- a load

-- what a load told, with the store and the crew, is its output
pub load_told : (numbers : LoadNumbers) (loaded : Loaded) (both : Store × Crew) (result : Result Output Status) → IsLoaded numbers.seed numbers.keys numbers.sessions loaded both.0 both.1
    → IfOk result (HasMade (load_text loaded.rows loaded.total) both) → IfOk result (IsLoadOutput numbers)
load_told numbers loaded both (Ok output) by made = record {
  owed = record {
    is_text = made.said ∙ (ap (λ (rows : ℕ). load_text rows loaded.total) by.holds.rows ∙ ap (λ (total : ℕ). load_text numbers.keys total) by.holds.total);
    loaded = loaded;
    both = both;
    is_left = made.left;
    by = by;
  };
  ended = made.ended;
}
load_told numbers loaded both (Err status) by made = tt

-- nothing is read for it
pub load_made : (numbers : LoadNumbers) (source : Change) (result : Result Output Status) → IsUntouched source → IfOk result (IsLoadOutput numbers) → IfOk result (IsOutputOf (Load numbers) source)
load_made numbers source (Ok output) unread is = (unread, is)
load_made numbers source (Err status) unread is = tt

pub load_refusal : (numbers : LoadNumbers) (source : Change) (result : Result Output Status) → IsUntouched source → IfErr result (λ status. status ≡ OutOfMemory) → IfErr result (λ status. Refuses (Load numbers) status source)
load_refusal numbers source (Ok output) unread is = tt
load_refusal numbers source (Err status) unread is = subst (λ (status : Status). RefusesLoad status source) (sym is) unread

-- ---- a check

-- the verdict on the claim that an input is, is the output of a check
pub check_output : (level : Level) (limits : Limits) (input bytes : List ℕ) (claim : Claim) (result : Result Output Status) → 0 < limits.columns → bytes ≡ input → IsClaim limits bytes claim → IfOk result (IsVerdictOn level limits claim) → IfOk result (IsOutputFor (Check level) limits input)
check_output level limits input bytes claim (Ok output) wide same is verdict = (
  record { wide = wide; claim = claim; is_claim = subst (λ (text : List ℕ). IsClaim limits text claim) same is; verdict = verdict.verdict },
  verdict.alone,
)
check_output level limits input bytes claim (Err status) wide same is verdict = tt

pub check_refusal : (level : Level) (limits : Limits) (input : List ℕ) (result : Result Output Status) → IfErr result (λ status. status ≡ OutOfMemory) → IfErr result (IsRefusalFor (Check level) limits input)
check_refusal level limits input (Ok output) is = tt
check_refusal level limits input (Err status) is = subst (IsRefusalFor (Check level) limits input) (sym is) tt

verdict_on : (level : Level) (limits : Limits) (claim : Claim) (b : Bool) (result : Result Output Status) → (b ≡ true → IsLegalAt level limits claim.script claim.report) → (IsLegalAt level limits claim.script claim.report → b ≡ true) → (b ≡ true → IfOk result (HasSaid (codes "legal\n") Done))
    → (¬ (b ≡ true) → IfOk result (HasSaid (codes "illegal\n") Illegal)) → IfOk result (IsVerdictOn level limits claim)
verdict_on level limits claim b (Err status) sound whole says denies = tt
verdict_on level limits claim true (Ok output) sound whole says denies = let said = says refl in record { verdict = inl (sound refl, said.said, said.ended); alone = said.alone }
verdict_on level limits claim false (Ok output) sound whole says denies =
    let said = denies (λ same. absurd (true≢false (sym same))) in
    record { verdict = inr ((λ legal. absurd (true≢false (sym (whole legal)))), said.said, said.ended); alone = said.alone }

-- what the judge decides is the verdict
pub judged : (level : Level) (limits : Limits) (claim : Claim) (b : Bool) (result : Result Output Status) → IsTrue b ↔ IsLegalAt level limits claim.script claim.report → (IsTrue b → IfOk result (HasSaid (codes "legal\n") Done))
    → ((¬ IsTrue b) → IfOk result (HasSaid (codes "illegal\n") Illegal)) → IfOk result (IsVerdictOn level limits claim)
judged level limits claim b result decides says denies = verdict_on level limits claim b result decides.0 decides.1 says denies
