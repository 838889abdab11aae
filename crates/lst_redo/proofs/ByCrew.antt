-- What a journal promises of a line that its crew answers alone.
use Rattle.std.proofs.Common.{◌≡◌, ◌≢◌, ◌↔◌, ℕ, ◌<◌, ◌≤◌, Bool, true, false, List, [], length, Option, Result, Ok, Err, IfOk, refl, sym, ap, ◌∙◌, subst, arith, inl, true≢false}
use Rattle.std.specs.Prelude.{OnErr}
use Rattle.lst_disk.specs.Disk.{CrashOutcome, LeavesOnly, tears}
use Rattle.lst_model.specs.declared.commits.Commit.{Commit}
use Rattle.lst_model.specs.declared.memory.OutOfMemory.{OutOfMemory}
use Rattle.lst_model.specs.declared.lines.Call.TheVariants as call
use Rattle.lst_model.specs.declared.lines.Line.{Line}
use Rattle.lst_model.specs.declared.lines.Line.TheVariants.{Phase, Merge, Call}
use Rattle.lst_model.specs.declared.replies.Reply.{Reply}
use Rattle.lst_model.specs.declared.replies.Reply.TheVariants.{Committed}
use Rattle.lst_log.specs.Journals.{StandsFor}
use Rattle.lst_log.specs.declared.log.Log.{Log}
use Rattle.lst_log.proofs.Moments.{started}
use Rattle.lst_rule.specs.declared.view.View.{View}
use Rattle.lst_session.specs.Crews.{AnswersLine}
use Rattle.lst_redo.specs.declared.journal.Kept.{Kept}
use Rattle.lst_redo.specs.declared.journal.Kept.TheVariants.{Reply as Replied, JournalFull, DiskFault}
use Rattle.lst_redo.specs.declared.journal.Redo.{Redo}
use Rattle.lst_redo.specs.Journals.{view_of, IsJournalOf}
use Rattle.lst_redo.specs.Answers.{CommitsWrites, MayLeave, IsAnswered, commits_after, LacksRoom, CountsLine, IsWritten, CrewAnswers}
use Rattle.lst_redo.proofs.Crewing.{crew_for, journal_on}

-- while no call of the disk is made, a crash leaves what the journal stands for
pub rests : {D : Type 0} (content : D → List ℕ) (images : D → List ℕ → Type 0) (clock : D → ℕ) (images_since : D → ℕ → List ℕ → Type 0) (before : Redo D) (log : Log D) (line : Line) (commits : List Commit)
    → ((disk : D) (c : List ℕ) → images_since disk (clock disk) c → images disk c) → log ≡ before.log → IsJournalOf content images commits before
    → LeavesOnly clock images_since before.log.disk log.disk (MayLeave before.log.columns (view_of before) commits line)
rests {D} content images clock images_since before log line commits only_now same journal =
    subst (λ (l : Log D). LeavesOnly clock images_since before.log.disk l.disk (MayLeave before.log.columns (view_of before) commits line)) (sym same)
    (started clock images_since before.log.disk (MayLeave before.log.columns (view_of before) commits line)
    (λ image left. inl (subst (λ (c : List ℕ). StandsFor before.log.columns c commits) (sym (journal.keeps.lasts image (only_now before.log.disk image left))) journal.keeps.stands)))

-- only a commit of writes lacks room
pub lacks_commits : (v : View) (line : Line) (columns end size : ℕ) → LacksRoom v line columns end size → CommitsWrites v line
lacks_commits v (Call s call.Commit) columns end size x = (x.0, x.1)
lacks_commits v line columns end size x = absurd x

pub replied_not_full : (r : Reply) → JournalFull ≡ Replied r → ⊥
replied_not_full r e = cc

pub replied_not_fault : (r : Reply) → DiskFault ≡ Replied r → ⊥
replied_not_fault r e = cc

ok_is : (x y : Kept) → ◌≡◌ {A = Result Kept OutOfMemory} (Ok x) (Ok y) → x ≡ y
ok_is x y e = cc

err_not : (x : OutOfMemory) (y : Kept) → ◌≡◌ {A = Result Kept OutOfMemory} (Err x) (Ok y) → ⊥
err_not x y e = cc

module _ {D : Type 0} (content : D → List ℕ) (images : D → List ℕ → Type 0) (before after : Redo D) (line : Line) (none : ¬ CommitsWrites (view_of before) line) where
  pub answered : (r : Result Kept OutOfMemory) → CrewAnswers before after line r → IfOk r (λ kept. IsAnswered (view_of before) (view_of after) line kept)
  answered (Ok kept) x = subst (IsAnswered (view_of before) (view_of after) line) (sym x.reply.1) x.reply.2
  answered (Err e) x = tt

  pub stands : (r : Result Kept OutOfMemory) → CrewAnswers before after line r → (commits : List Commit) → IsJournalOf content images commits before
      → IfOk r (λ kept. ¬ (kept ≡ DiskFault) → IsJournalOf content images (commits_after (view_of before) commits line kept) after)
  stands (Ok kept) x commits journal = λ no. subst (λ (cs : List Commit). IsJournalOf content images cs after) (sym (x.none commits)) (journal_on content images before after commits x.log journal (x.crew commits (crew_for content images before commits journal)))
  stands (Err e) x commits journal = tt

  pub stands_still : (r : Result Kept OutOfMemory) → CrewAnswers before after line r → OnErr r ((commits : List Commit) → IsJournalOf content images commits before → IsJournalOf content images commits after)
  stands_still (Ok kept) x = tt
  stands_still (Err e) x = λ commits journal. journal_on content images before after commits x.log journal (x.crew commits (crew_for content images before commits journal))

  pub never_full : (r : Result Kept OutOfMemory) → CrewAnswers before after line r → r ≡ Ok JournalFull → ⊥
  never_full (Ok kept) x e = replied_not_full x.reply.0 (sym (ok_is kept JournalFull e) ∙ x.reply.1)
  never_full (Err f) x e = err_not f JournalFull e

  pub never_faults : (r : Result Kept OutOfMemory) → CrewAnswers before after line r → r ≡ Ok DiskFault → ⊥
  never_faults (Ok kept) x e = replied_not_fault x.reply.0 (sym (ok_is kept DiskFault e) ∙ x.reply.1)
  never_faults (Err f) x e = err_not f DiskFault e

  pub full_is : (r : Result Kept OutOfMemory) (columns end size : ℕ) → CrewAnswers before after line r → (r ≡ Ok JournalFull) ↔ LacksRoom (view_of before) line columns end size
  full_is r columns end size x = (λ e. absurd (never_full r x e), λ lacks. absurd (none (lacks_commits (view_of before) line columns end size lacks)))

  pub failed_is : (r : Result Kept OutOfMemory) → CrewAnswers before after line r → before.failed ≡ false → (after.failed ≡ true) ↔ (r ≡ Ok DiskFault)
  failed_is r x sound = (λ e. absurd (true≢false (sym e ∙ (x.failed ∙ sound))), λ e. absurd (never_faults r x e))

  counts : (left : D → Option ℕ) (kept : Kept) (r : Reply) → kept ≡ Replied r → after.log ≡ before.log → CountsLine (view_of before) line (left before.log.disk) (left after.log.disk) kept
  counts left kept r is same = subst (CountsLine (view_of before) line (left before.log.disk) (left after.log.disk)) (sym is) (λ commits. absurd (none commits), λ no. ap (λ (l : Log D). left l.disk) same)

  pub counts_none : (left : D → Option ℕ) (r : Result Kept OutOfMemory) → CrewAnswers before after line r → IfOk r (CountsLine (view_of before) line (left before.log.disk) (left after.log.disk))
  counts_none left (Ok kept) x = counts left kept x.reply.0 x.reply.1 x.log
  counts_none left (Err e) x = tt

  pub unspent : (size : D → List ℕ) (left : D → Option ℕ) (faults : D → ℕ) (r : Result Kept OutOfMemory) → CrewAnswers before after line r
      → OnErr r ((size after.log.disk ≡ size before.log.disk) × (left after.log.disk ≡ left before.log.disk) × (faults after.log.disk ≡ faults before.log.disk))
  unspent size left faults (Ok kept) x = tt
  unspent size left faults (Err e) x = (ap (λ (l : Log D). size l.disk) x.log, ap (λ (l : Log D). left l.disk) x.log, ap (λ (l : Log D). faults l.disk) x.log)

  written_by : (columns end : ℕ) (was now : List ℕ) (l : Line) (r : Reply) → ((commits : List Commit) → commits_after (view_of before) commits l (Replied r) ≡ commits) → IsWritten (view_of before) l columns end was now (Replied r)
  written_by columns end was now (Call s call.Commit) (Committed time) none = let more = none [] in absurd (omega (arith, ap length more))
  written_by columns end was now (Call s call.Commit) r none = tt
  written_by columns end was now (Call s c) r none = tt
  written_by columns end was now l r none = tt

  pub written : (columns end : ℕ) (was now : List ℕ) (r : Result Kept OutOfMemory) → CrewAnswers before after line r → IfOk r (IsWritten (view_of before) line columns end was now)
  written columns end was now (Ok kept) x = subst (IsWritten (view_of before) line columns end was now) (sym x.reply.1)
      (written_by columns end was now line x.reply.0 (λ commits. ap (commits_after (view_of before) commits line) (sym x.reply.1) ∙ x.none commits))
  written columns end was now (Err e) x = tt

  pub torn_stays : (outcome : D → Option CrashOutcome) (result : Result Kept OutOfMemory) → CrewAnswers before after line result → tears (outcome after.log.disk) ≡ tears (outcome before.log.disk)
  torn_stays outcome result x = ap (λ (log : Log D). tears (outcome log.disk)) x.log

  pub faults_stay : (faults : D → ℕ) (r : Result Kept OutOfMemory) → CrewAnswers before after line r → faults before.log.disk ≤ faults after.log.disk
  faults_stay faults r x = let same = ap (λ (l : Log D). faults l.disk) x.log in omega (arith, same)

  pub size_stays : (size : D → List ℕ) (r : Result Kept OutOfMemory) → CrewAnswers before after line r → IfOk r (λ kept. ¬ (kept ≡ DiskFault) → length (size after.log.disk) ≡ length (size before.log.disk))
  size_stays size (Ok kept) x = λ no. ap (λ (l : Log D). length (size l.disk)) x.log
  size_stays size (Err e) x = tt
