-- What holds of the value in a word, by whether the word is 0.
use Rattle.std.proofs.Common.{◌≡◌, ◌≢◌, ℕ, ◌+◌, ◌-◌, subst, arith}
use Rattle.std.specs.Prelude.{Option, Some, None, IfSome, IfNone}
use Rattle.lst_bits.specs.Numbers.{number_word}
use Rattle.lst_bits.specs.Postings.{posting_word, IsPosting}

pub some_number : (P : ℕ → Type 0) (n : Option ℕ) (word : ℕ) → number_word n ≡ word → (word ≢ 0 → P (word - 1)) → IfSome n P
some_number P None word is holds = tt
some_number P (Some n) word is holds = subst P (let e : word - 1 ≡ n = omega arith in e) (holds (omega arith))

pub no_number : (P : Type 0) (n : Option ℕ) (word : ℕ) → number_word n ≡ word → (word ≡ 0 → P) → IfNone n P
no_number P None word is holds = holds (omega arith)
no_number P (Some n) word is holds = tt

pub some_tail : (P : ℕ → Type 0) (t : Option ℕ) (word : ℕ) → posting_word t ≡ word → IsPosting t → (word ≢ 0 → P word) → IfSome t P
some_tail P None word is some holds = tt
some_tail P (Some t) word is some holds = let above = some.0 in subst P (let e : word ≡ t = omega arith in e) (holds (omega arith))

pub no_tail : (P : Type 0) (t : Option ℕ) (word : ℕ) → posting_word t ≡ word → (word ≡ 0 → P) → IfNone t P
no_tail P None word is holds = holds (omega arith)
no_tail P (Some t) word is holds = tt
