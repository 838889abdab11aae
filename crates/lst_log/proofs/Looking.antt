-- A disk that only shows its content, read after read.
use Rattle.std.proofs.Common.{◌≡◌, ◌≢◌, inr, ⊎_elim, ℕ, ◌-◌, ◌≤◌, List, length, Option, Some, None, is_some, refl, sym, ◌∙◌, ap, subst, arith}
use Rattle.std.specs.Prelude.{◌⊎◌, ◌↔◌, Result, Ok, Err, IsSome, IfSome, IsOk, IsErr, OnOk, OnErr}
use Rattle.lst_model.specs.declared.commits.Commit.{Commit}
use Rattle.lst_disk.specs.Disk.{CrashOutcome, Only, Elapses, LeavesOnly}
use Rattle.lst_model.specs.Faults.{Rose}
use Rattle.lst_log.specs.Format.{journal}
use Rattle.lst_log.specs.Journals.{StandsFor}
use Rattle.lst_log.specs.Logs.{Keeps}
use Rattle.lst_log.specs.Stores.{LastsSince, OnlyReads}
use Rattle.lst_log.specs.declared.opening.LogCause.{LogCause}
use Rattle.lst_log.specs.declared.opening.LogCause.TheVariants.{Disk, Damaged, OutOfMemory}
use Rattle.lst_log.proofs.Moments.{started, goes_on, one_after, weakened}
use Rattle.lst_log.proofs.Opens.{rose_since}

module _ {D : Type 0} (content : D → List ℕ) (images : D → List ℕ → Type 0) (clock : D → ℕ) (images_since : D → ℕ → List ℕ → Type 0) (calls_left : D → Option ℕ) (outcome : D → Option CrashOutcome) (faults : D → ℕ) where
  abbrev pub Reads : D → D → Type 0 → Type 0
  Reads old new failed = OnlyReads content images clock images_since calls_left outcome faults old new failed

  -- a call that reads
  pub reads_one : (old new : D) (failed : Type 0) → ((c : List ℕ) → images_since old (clock old) c → images old c) → content new ≡ content old → ((c : List ℕ) → images new c → images old c)
      → Elapses (clock old) (clock new) (images_since old) (images_since new) (images new) → calls_left new ≡ calls_left old → outcome new ≡ outcome old → faults old ≤ faults new
      → (failed → Rose (faults old) (faults new)) → (IsSome (calls_left old) → ¬ failed) → Reads old new failed
  reads_one old new failed now same fewer time left outcome_same rises fault told = record {
    same = same;
    fewer = fewer;
    run = goes_on clock images_since old old new (images old) (images new) (started clock images_since old (images old) now) time fewer;
    left = left;
    turns = outcome_same;
    rises = rises;
    fault = fault;
    told = told;
  }

  -- one after another
  pub reads_on : (old mid new : D) (before failed : Type 0) → Reads old mid before → Reads mid new failed → Reads old new failed
  reads_on old mid new before failed first second = record {
    same = second.same ∙ first.same;
    fewer = λ c left. first.fewer c (second.fewer c left);
    run = one_after clock images_since old mid new (images old) first.run (weakened clock images_since mid new (images mid) (images old) first.fewer second.run);
    left = second.left ∙ first.left;
    turns = second.turns ∙ first.turns;
    rises = omega (arith, first.rises, second.rises);
    fault = λ f. rose_since (faults old) (faults mid) (faults new) first.rises (second.fault f);
    told = λ told. second.told (subst IsSome (sym first.left) told);
  }

  -- what failed has another name
  pub reads_so : (old new : D) (failed other : Type 0) → (other → failed) → Reads old new failed → Reads old new other
  reads_so old new failed other implies reads = record {
    same = reads.same;
    fewer = reads.fewer;
    run = reads.run;
    left = reads.left;
    turns = reads.turns;
    rises = reads.rises;
    fault = λ f. reads.fault (implies f);
    told = λ told f. reads.told told (implies f);
  }

  -- behind a sync a crash leaves just the content still
  pub lasts_on : (old mid new : D) (failed : Type 0) → LastsSince content clock images_since old mid → Only (content old) (images mid) → Reads mid new failed → LastsSince content clock images_since old new
  lasts_on old mid new failed lasts only reads = record {
    moment = lasts.moment;
    began = lasts.began;
    past = omega (arith, lasts.past, reads.run.later);
    only = λ c since. ⊎_elim (λ was. lasts.only c was) (λ now. only c now) (reads.run.before lasts.moment c lasts.past since);
  }

  pub before_on : (old mid new : D) (failed : Type 0) → LeavesOnly clock images_since old mid (images old) → ((c : List ℕ) → images mid c → images old c) → Reads mid new failed → LeavesOnly clock images_since old new (images old)
  before_on old mid new failed run fewer reads =
      one_after clock images_since old mid new (images old) run (weakened clock images_since mid new (images mid) (images old) fewer reads.run)

-- what comes where a call failed
pub failed_so : {T E : Type 0} (r : Result T E) (P : Type 0) → OnErr r P → IsErr r → P
failed_so (Ok t) P on failed = absurd cc
failed_so (Err e) P on failed = on

-- ---- a log that was opened, and one that wasn't

-- the calls that are left behind a sync
pub left_behind : {T : Type 0} (r : Result T LogCause) (before mid now : Option ℕ) → IsOk r → IfSome before (λ n. (r ≡ Err Disk → n ≡ 0) × OnOk r (n ≢ 0)) → IfSome before (λ n. mid ≡ Some (n - 1)) → now ≡ mid
    → IfSome before (λ n. (n ≢ 0) × (now ≡ Some (n - 1)))
left_behind (Ok t) None mid now ok told one same = tt
left_behind (Ok t) (Some n) mid now ok told one same = (told.1, same ∙ one)
left_behind (Err e) before mid now ok told one same = absurd cc

-- behind one no disk that tells its calls fails
pub told_behind : (cause : LogCause) (before now : Option ℕ) → IfSome before (λ n. (n ≢ 0) × (now ≡ Some (n - 1))) → (IsSome now → ¬ (cause ≡ Disk))
    → IfSome before (λ n. ¬ (cause ≡ OutOfMemory) → ((cause ≡ Disk) ↔ (n ≡ 0)) × (now ≡ Some (n - 1)))
told_behind cause None now left never = tt
told_behind cause (Some n) now left never = λ no_memory. (((λ failed. absurd (never (ap is_some left.1) failed)), (λ none. absurd (left.0 none))), left.1)

pub memory_behind : (cause : LogCause) (before now : Option ℕ) → IfSome before (λ n. (n ≢ 0) × (now ≡ Some (n - 1))) → IfSome before (λ n. cause ≡ OutOfMemory → (now ≡ Some n) ⊎ (now ≡ Some (n - 1)))
memory_behind cause None now left = tt
memory_behind cause (Some n) now left = λ memory. inr left.1

-- where the sync wasn't made
disk_no_memory : {T : Type 0} (r : Result T LogCause) → r ≡ Err Disk → ¬ (r ≡ Err OutOfMemory)
disk_no_memory r is memory = let clash = sym is ∙ memory in cc

pub told_before : {T : Type 0} (r : Result T LogCause) (cause : LogCause) (before now : Option ℕ) → r ≡ Err cause → ((at : ℕ) → ¬ (r ≡ Err (Damaged at))) → IfSome before (λ n. (r ≡ Err Disk → n ≡ 0) × OnOk r (n ≢ 0)) → (¬ (r ≡ Err OutOfMemory) → IfSome before (λ n. now ≡ Some (n - 1)))
    → IfSome before (λ n. ¬ (cause ≡ OutOfMemory) → ((cause ≡ Disk) ↔ (n ≡ 0)) × (now ≡ Some (n - 1)))
told_before r cause None now is never told one = tt
told_before r Disk (Some n) now is never told one = λ no_memory. (((λ failed. told.0 is), (λ none. refl)), one (λ memory. disk_no_memory r is memory))
told_before r (Damaged at) (Some n) now is never told one = absurd (never at is)
told_before r OutOfMemory (Some n) now is never told one = λ no_memory. absurd (no_memory refl)

module _ {D : Type 0} (content : D → List ℕ) (images : D → List ℕ → Type 0) (clock : D → ℕ) (images_since : D → ℕ → List ℕ → Type 0) (calls_left : D → Option ℕ) (outcome : D → Option CrashOutcome) (faults : D → ℕ)
    (old mid new : D) (failed : Type 0) (same : content mid ≡ content old) (only : Only (content old) (images mid)) (reads : OnlyReads content images clock images_since calls_left outcome faults mid new failed) where
  pub keeps_on : (columns end : ℕ) (commits : List Commit) → StandsFor columns (content mid) commits → end ≡ length (journal columns commits) → Keeps content images commits (record { disk = new; columns = columns; end = end })
  keeps_on columns end commits stands is = record {
    stands = subst (λ (bytes : List ℕ). StandsFor columns bytes commits) (sym reads.same) stands;
    end = is;
    lasts = λ c left. only c (reads.fewer c left) ∙ sym same ∙ sym reads.same;
  }

  pub none_before : images old (content old) → (c : List ℕ) → images mid c → images old c
  none_before counts c left = subst (images old) (sym (only c left)) counts
