-- What a disk has written and synced where its calls are used up.
use Rattle.std.proofs.Common.{◌≡◌, ℕ, zero, suc, ◌+◌, ◌-◌, ◌<◌, List, [], ◌∷◌, Option, Some, None, refl, sym, ◌∙◌, ap, subst, arith}
use Rattle.std.specs.Prelude.{Result, Ok, Err, IsOk, IsErr, IsSome, OnErr}
use Rattle.lst_disk.specs.Disk.{CrashOutcome, CountsCall, overwritten, outcome_after, tears}
use Rattle.lst_log.proofs.Opens.{no_both}
use Rattle.lst_log.specs.Stores.{CountsCalls, IsLeftSo, written_once, written_by, synced_by, staged}

-- what is so is so of any answer that fails
pub on_err : {T E : Type 0} (r : Result T E) (P : Type 0) → P → OnErr r P
on_err (Ok t) P p = tt
on_err (Err e) P p = p

-- a sync leaves it as it is whether a crash is torn
pub tears_after : {T E : Type 0} (content : List ℕ) (o : Option CrashOutcome) (r : Result T E) → tears (outcome_after content o r) ≡ tears o
tears_after content None r = refl
tears_after content (Some o) (Ok t) = refl
tears_after content (Some o) (Err e) = refl

-- one that failed leaves all of it
pub same_after : {T E : Type 0} (content : List ℕ) (o : Option CrashOutcome) (r : Result T E) → IsErr r → outcome_after content o r ≡ o
same_after content None r failed = refl
same_after content (Some o) (Ok t) failed = absurd cc
same_after content (Some o) (Err e) failed = refl

-- ---- a piece that is stored, with two calls

module _ (content : List ℕ) (at : ℕ) (piece : List ℕ) where
  abbrev pub LeftSo : Option ℕ → Option CrashOutcome → List ℕ → Type 0
  LeftSo calls outcome new = IsLeftSo calls outcome new (λ left. written_once left content at piece) (λ left. content)

  -- the write failed
  pub write_failed : {T E : Type 0} (calls after : Option ℕ) (was now : Option CrashOutcome) (new : List ℕ) (r : Result T E) → CountsCall calls after r → IsErr r → now ≡ was
      → (IsSome was → new ≡ content) → ((o : CrashOutcome) → was ≡ Some o → o.synced ≡ content) → LeftSo calls now new
  write_failed None after was now new r counts failed same stays synced = tt
  write_failed (Some n) after None now new r counts failed same stays synced = subst (λ (o : Option CrashOutcome). LeftSo (Some n) o new) (sym same) tt
  write_failed (Some n) after (Some o) now new r counts failed same stays synced =
      let none : n ≡ 0 = counts.0.0 failed in
      subst (λ (p : Option CrashOutcome). LeftSo (Some n) p new) (sym same) (stays refl ∙ ap (λ (m : ℕ). written_once m content at piece) (sym none), synced o refl)

  -- the sync behind it failed
  pub sync_failed : {T E U F : Type 0} (calls after : Option ℕ) (was then now : Option CrashOutcome) (new : List ℕ) (w : Result T E) (r : Result U F) (synced_bytes : List ℕ) → CountsCall calls after w → IsOk w → then ≡ was
      → now ≡ outcome_after synced_bytes then r → IsErr r → new ≡ overwritten content at piece → ((o : CrashOutcome) → was ≡ Some o → o.synced ≡ content) → LeftSo calls now new
  sync_failed None after was then now new w r bytes counts wrote same later failed written synced = tt
  sync_failed {T} {E} (Some zero) after was then now new w r bytes counts wrote same later failed written synced = absurd (no_both T E w wrote (counts.0.1 refl))
  sync_failed (Some (suc n)) after None then now new w r bytes counts wrote same later failed written synced =
      subst (λ (o : Option CrashOutcome). LeftSo (Some (suc n)) o new) (sym (later ∙ same_after bytes then r failed ∙ same)) tt
  sync_failed (Some (suc n)) after (Some o) then now new w r bytes counts wrote same later failed written synced =
      subst (λ (p : Option CrashOutcome). LeftSo (Some (suc n)) p new) (sym (later ∙ same_after bytes then r failed ∙ same)) (written, synced o refl)

-- ---- one that is stored behind a gate, with four

module _ (content : List ℕ) (gate : ℕ) (piece : List ℕ) where
  abbrev pub GatedSo : Option ℕ → Option CrashOutcome → List ℕ → Type 0
  GatedSo calls outcome new = IsLeftSo calls outcome new (λ left. written_by left content gate piece) (λ left. synced_by left content gate piece)

  -- the piece wasn't stored
  pub piece_failed : {T E : Type 0} (calls after : Option ℕ) (now : Option CrashOutcome) (new : List ℕ) (r : Result T E) → CountsCalls 2 calls after r → IsErr r
      → IsLeftSo calls now new (λ left. written_once left content (gate + 1) piece) (λ left. content) → GatedSo calls now new
  piece_failed None after now new r counts failed so = tt
  piece_failed (Some n) after None new r counts failed so = tt
  piece_failed (Some zero) after (Some o) new r counts failed so = so
  piece_failed (Some (suc zero)) after (Some o) new r counts failed so = so
  piece_failed (Some (suc (suc n))) after (Some o) new r counts failed so = let few : suc (suc n) < 2 = counts.0.0 failed in absurd (omega (arith, few))

  -- or the gate wasn't opened
  abbrev pub GateLeft : Option CrashOutcome → List ℕ → Option ℕ → Type 0
  GateLeft outcome new calls = IsLeftSo calls outcome new (λ left. written_once left (staged content gate piece) gate (1 ∷ [])) (λ left. staged content gate piece)

  pub gate_failed : {T E U F : Type 0} (calls then after : Option ℕ) (now : Option CrashOutcome) (new : List ℕ) (first : Result T E) (r : Result U F) → CountsCalls 2 calls then first → IsOk first
      → CountsCalls 2 then after r → IsErr r
      → IsLeftSo then now new (λ left. written_once left (staged content gate piece) gate (1 ∷ [])) (λ left. staged content gate piece) → GatedSo calls now new
  gate_failed None then after now new first r counts stored later failed so = tt
  gate_failed {T} {E} (Some zero) then after now new first r counts stored later failed so = absurd (no_both T E first stored (counts.0.1 (omega arith)))
  gate_failed {T} {E} (Some (suc zero)) then after now new first r counts stored later failed so = absurd (no_both T E first stored (counts.0.1 (omega arith)))
  gate_failed (Some (suc (suc n))) then after None new first r counts stored later failed so = tt
  gate_failed (Some (suc (suc n))) then after (Some o) new first r counts stored later failed so = at n (subst (λ (c : Option ℕ). CountsCalls 2 c after r) is later).0.0 (subst (λ (c : Option ℕ). GateLeft (Some o) new c) is so)
    where
      two_less : suc (suc n) - 2 ≡ n
      two_less = omega arith

      is : then ≡ Some n
      is = counts.1 ∙ ap (λ (m : ℕ). Some m) two_less

      at : (m : ℕ) → (IsErr r → m < 2) → GateLeft (Some o) new (Some m) → GatedSo (Some (suc (suc m))) (Some o) new
      at zero few so = so
      at (suc zero) few so = so
      at (suc (suc k)) few so = let low : suc (suc k) < 2 = few failed in absurd (omega (arith, low))
