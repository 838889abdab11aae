-- A core that opens.
use Rattle.std.proofs.Common.{◌≡◌, ℕ, zero, suc, ◌+◌, ◌<◌, ◌≤◌, List, Bool, true, false, cond, eqb, length, get_or, refl, sym, ap, ◌∙◌, arith}
use Rattle.std.specs.Prelude.{replicate}
use Rattle.lst_layout.specs.declared.limits.Limits.{Limits}
use Rattle.lst_layout.specs.Limits.{IsValid}
use Rattle.lst_layout.specs.Words.{IsOpening}
use Rattle.lst_layout.proofs.Openings.{opening_is_shown}
use Rattle.lst_core_state.specs.State.{newcomer}
use Rattle.lst_core_state.specs.Runs.{opening}
use Rattle.lst_core_state.proofs.Numbered.{newcomer_is}
use Rattle.lst_core_state.proofs.Starts.{opening_sound}
use Rattle.lst_core_state.specs.declared.numbers.Numbers.{Numbers}
use Rattle.lst_core_state.specs.Numbers.{numbers_of, newcomer_numbers}
use Rattle.lst_core.specs.Machine.{Cells, number_at, Holds, IsCore}

get_same : {A : Type 0} (n i : ℕ) (x d : A) → i < n → get_or (replicate n x) i d ≡ x
get_same zero i x d h = absurd (omega arith)
get_same (suc n) zero x d h = refl
get_same (suc n) (suc i) x d h = get_same n i x d (omega arith)

long : {A : Type 0} (n : ℕ) (x : A) → length (replicate n x) ≡ n
long zero x = refl
long (suc n) x = ap suc (long n x)

same_both : {A : Type 0} (b : Bool) (x : A) → cond b x x ≡ x
same_both true x = refl
same_both false x = refl

module _ (l : Limits) (sized : IsValid l) (ws : List ℕ) (numbers : List Numbers) (words_are : IsOpening l ws) (numbers_are : numbers ≡ replicate (l.sessions + 1) newcomer_numbers) where
  abbrev m : Cells
  m = record { limits = l; words = ws; numbers = numbers }

  each : (s : ℕ) → s ≤ l.sessions → number_at m s ≡ newcomer_numbers
  each s low = ap (λ (ns : List Numbers). get_or ns s (numbers_of (newcomer l))) numbers_are ∙ get_same (l.sessions + 1) s newcomer_numbers (numbers_of (newcomer l)) (omega arith)

  pub opens : Holds m (opening l)
  opens = record {
    limits = refl;
    words = sym (opening_is_shown l ws words_are);
    numbers = λ s low. ap numbers_of (same_both (eqb s l.sessions) (newcomer l)) ∙ (newcomer_is l ∙ sym (each s low));
  }

  pub open_core : IsCore m
  open_core = record {
    wide = words_are.sized;
    all = ap length numbers_are ∙ long (l.sessions + 1) newcomer_numbers;
    state = opening l;
    holds = opens;
    sound = opening_sound l sized;
    idle = let e = each l.sessions (omega arith) in record { number = ap (λ (n : Numbers). n.number) e; latch = ap (λ (n : Numbers). n.hold.latch) e };
  }
