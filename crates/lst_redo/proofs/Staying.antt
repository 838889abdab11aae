-- A journal stays open until its disk fails.
use Rattle.std.proofs.Common.{◌≡◌, ◌↔◌, ℕ, true, false, List, ◌++◌, Option, Result, Ok, Err, IfOk, OnErr, Vec, refl, sym, ap, ◌∙◌, subst, true≢false}
use Rattle.std.specs.declared.alloc.Global.{Global}
use Rattle.lst_model.specs.declared.commits.Commit.{Commit}
use Rattle.lst_model.specs.declared.lines.Line.{Line}
use Rattle.lst_model.specs.declared.memory.OutOfMemory.{OutOfMemory}
use Rattle.lst_redo.specs.declared.journal.Kept.{Kept}
use Rattle.lst_redo.specs.declared.journal.Kept.TheVariants.{DiskFault}
use Rattle.lst_redo.specs.declared.journal.Redo.{Redo}
use Rattle.lst_redo.specs.declared.together.RunFault.{RunFault}
use Rattle.lst_redo.specs.declared.together.RunFault.TheVariants.{Disk, OutOfMemory as OutOfMemoryFault}
use Rattle.lst_redo.specs.Ahead.{HasRun}
use Rattle.lst_redo.specs.Answers.{commits_after}
use Rattle.lst_redo.specs.Journals.{view_of, IsJournalOf, IsOpenJournal}

pub stays_open : {D : Type 0} (content : D → List ℕ) (images : D → List ℕ → Type 0) (old new : Redo D) (line : Line) (result : Result Kept OutOfMemory) → IsOpenJournal content images old
    → ((commits : List Commit) → IsJournalOf content images commits old → IfOk result (λ kept. ¬ (kept ≡ DiskFault) → IsJournalOf content images (commits_after (view_of old) commits line kept) new))
    → OnErr result ((commits : List Commit) → IsJournalOf content images commits old → IsJournalOf content images commits new)
    → ((new.failed ≡ true) ↔ (result ≡ Ok DiskFault)) → new.failed ≡ false → IsOpenJournal content images new
stays_open content images old new line (Ok kept) is_open journal memory failed sound =
    (commits_after (view_of old) is_open.0 line kept, journal is_open.0 is_open.1 (λ fault. true≢false (sym (failed.1 (ap (λ (k : Kept). Ok k) fault)) ∙ sound)))
stays_open content images old new line (Err fault) is_open journal memory failed sound = (is_open.0, memory is_open.0 is_open.1)

-- and so it does over a list of lines
pub lines_stay_open : {D : Type 0} (content : D → List ℕ) (images : D → List ℕ → Type 0) (clock : D → ℕ) (images_since : D → ℕ → List ℕ → Type 0) (calls_left : D → Option ℕ) (old new : Redo D) (lines : List Line) (result : Result (Vec Kept Global) RunFault)
    → IsOpenJournal content images old
    → (¬ (result ≡ Err OutOfMemoryFault) → (answers : List Kept) × (made : List Commit) × IfOk result (λ kept. kept.items ≡ answers) × HasRun content images clock images_since calls_left old new lines answers made result)
    → (result ≡ Err OutOfMemoryFault → new ≡ old) → ((new.failed ≡ true) ↔ (result ≡ Err Disk)) → new.failed ≡ false → IsOpenJournal content images new
lines_stay_open content images clock images_since calls_left old new lines (Ok kept) is_open ran memory failed sound =
    let made = ran (λ e. cc) in (is_open.0 ++ made.1, made.3.stands is_open.0 is_open.1)
lines_stay_open content images clock images_since calls_left old new lines (Err Disk) is_open ran memory failed sound = absurd (true≢false (sym (failed.1 refl) ∙ sound))
lines_stay_open content images clock images_since calls_left old new lines (Err OutOfMemoryFault) is_open ran memory failed sound = subst (IsOpenJournal content images) (sym (memory refl)) is_open
