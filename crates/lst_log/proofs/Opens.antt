-- What a disk that is opened does.
use Rattle.std.proofs.Common.{◌≡◌, ◌≢◌, ℕ, ◌-◌, ◌≤◌, Option, Some, None, subst, ◌∙◌, arith}
use Rattle.std.specs.Prelude.{Result, Ok, Err, IsOk, IsErr, IfSome, OnOk}
use Rattle.lst_disk.specs.Disk.{CountsCall}
use Rattle.lst_model.specs.Faults.{Rose}
use Rattle.lst_log.specs.declared.opening.LogCause.{LogCause}
use Rattle.lst_log.specs.declared.opening.LogCause.TheVariants.{Disk, Damaged, OutOfMemory}

-- an answer is one thing and no other
pub ok_err : (A E : Type 0) (a : A) (e : E) → ¬ (Ok a ≡ Err e)
ok_err A E a e same = cc

pub memory_disk : (A : Type 0) (r : Result A LogCause) → r ≡ Err OutOfMemory → ¬ (r ≡ Err Disk)
memory_disk A r is same = cc

pub disk_memory : (A : Type 0) (r : Result A LogCause) → r ≡ Err Disk → ¬ (r ≡ Err OutOfMemory)
disk_memory A r is same = cc

pub memory_damaged : (A : Type 0) (r : Result A LogCause) (at : ℕ) → r ≡ Err OutOfMemory → ¬ (r ≡ Err (Damaged at))
memory_damaged A r at is same = cc

pub disk_damaged : (A : Type 0) (r : Result A LogCause) (at : ℕ) → r ≡ Err Disk → ¬ (r ≡ Err (Damaged at))
disk_damaged A r at is same = cc

pub no_both : (T E : Type 0) (r : Result T E) → IsOk r → IsErr r → ⊥
no_both T E (Ok t) ok err = cc
no_both T E (Err e) ok err = cc

-- a count that has risen since a later moment has risen since an earlier one
pub rose_since : (before then now : ℕ) → before ≤ then → Rose then now → Rose before now
rose_since before then now le rose = omega arith

-- ---- what an answer tells of the calls that were left

abbrev Tells : {A : Type 0} → Result A LogCause → Option ℕ → Type 0
Tells r left = IfSome left (λ n. (r ≡ Err Disk → n ≡ 0) × OnOk r (n ≢ 0))

pub tells_memory : (A : Type 0) (r : Result A LogCause) (left : Option ℕ) → r ≡ Err OutOfMemory → Tells r left
tells_memory A r None is = tt
tells_memory A (Ok a) (Some n) is = absurd cc
tells_memory A (Err e) (Some n) is = (λ same. absurd (memory_disk A (Err e) is same), tt)

-- one sync was made
pub one_call : (T E : Type 0) (sync : Result T E) (left before after now : Option ℕ) → before ≡ left → CountsCall before after sync → now ≡ after → IfSome left (λ n. now ≡ Some (n - 1))
one_call T E sync None before after now same counts is = tt
one_call T E sync (Some n) before after now same counts is = is ∙ (subst (λ (o : Option ℕ). CountsCall o after sync) same counts).1

-- the sync failed
pub tells_sync : (A T E : Type 0) (r : Result A LogCause) (sync : Result T E) (left before after : Option ℕ) → before ≡ left → CountsCall before after sync → r ≡ Err Disk → IsErr sync → Tells r left
tells_sync A T E r sync None before after same counts is failed = tt
tells_sync A T E (Ok a) sync (Some n) before after same counts is failed = absurd cc
tells_sync A T E (Err e) sync (Some n) before after same counts is failed = (λ _. (subst (λ (o : Option ℕ). CountsCall o after sync) same counts).0.0 failed, tt)

-- none failed
pub tells_opened : (A T E : Type 0) (r : Result A LogCause) (sync : Result T E) (left before after : Option ℕ) → before ≡ left → CountsCall before after sync → IsOk r → IsOk sync → Tells r left
tells_opened A T E r sync None before after same counts opened synced = tt
tells_opened A T E (Ok a) sync (Some n) before after same counts opened synced =
    (λ failed. absurd (ok_err A LogCause a Disk failed), λ none. no_both T E sync synced ((subst (λ (o : Option ℕ). CountsCall o after sync) same counts).0.1 none))
tells_opened A T E (Err e) sync (Some n) before after same counts opened synced = absurd cc
