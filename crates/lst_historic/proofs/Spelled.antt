-- A number has one spelling: it is read again, and what is read is spelled so.
use Rattle.std.proofs.Common.{◌≡◌, ◌≢◌, ℕ, zero, suc, ◌+◌, ◌-◌, ◌*◌, ◌/◌, ◌%◌, ◌^◌, ◌<◌, ◌≤◌, Bool, true, false, cond, ltb, eqb, List, [], ◌∷◌, ◌++◌, length, get_or, drop, append_assoc, add-one, drop-cons, refl, sym, ap, ◌∙◌, subst, arith, rules, inl, inr}
use Rattle.std.proofs.lemmas.Bool.{lt-ltb, ltb-true, ltb-false, le-ltb, ne_eqb, eqb-true, cases_lt}
use Rattle.std.specs.Prelude.{◌⊎◌, Option, Some, None, nat_lt, ◌==◌}
use Rattle.lst_historic.specs.Numbers.{spelled_within, spelled, AreGroups, value_of, IsShortest, above, number_at, of_64_bits, word_at}

-- ---- the number of bytes that are allowed doesn't matter

pub enough : (m k n : ℕ) → n ≤ m → n ≤ k → spelled_within m n ≡ spelled_within k n
unfolding spelled_within
enough zero zero n low high = refl
enough zero (suc k) zero low high = refl
enough zero (suc k) (suc n) low high = absurd (omega arith)
enough (suc m) zero zero low high = refl
enough (suc m) zero (suc n) low high = absurd (omega arith)
enough (suc m) (suc k) n low high = by (nat_lt n 128) refl (λ large. enough m k (n / 128) (omega arith) (omega arith))
  where
    by : (b : Bool) → nat_lt n 128 ≡ b → (128 ≤ n → spelled_within m (n / 128) ≡ spelled_within k (n / 128)) → cond b (n ∷ []) ((n % 128 + 128) ∷ spelled_within m (n / 128)) ≡ cond b (n ∷ []) ((n % 128 + 128) ∷ spelled_within k (n / 128))
    by true is rest = refl
    by false is rest = ap (λ rest. (n % 128 + 128) ∷ rest) (rest (ltb-false n 128 is))

pub spelled-low : (n : ℕ) → n < 128 → spelled n ≡ n ∷ []
unfolding spelled spelled_within
spelled-low zero low = refl
spelled-low (suc n) low = ap (λ b. cond b (suc n ∷ []) ((suc n % 128 + 128) ∷ spelled_within n (suc n / 128))) (lt-ltb (suc n) 128 low)

pub spelled-high : (n : ℕ) → 128 ≤ n → spelled n ≡ (n % 128 + 128) ∷ spelled (n / 128)
unfolding spelled spelled_within
spelled-high zero high = absurd (omega arith)
spelled-high (suc n) high =
    ap (λ b. cond b (suc n ∷ []) ((suc n % 128 + 128) ∷ spelled_within n (suc n / 128))) (le-ltb (suc n) 128 high)
    ∙ ap (λ rest. (suc n % 128 + 128) ∷ rest) (enough n (suc n / 128) (suc n / 128) (omega arith) (omega arith))

pub spelled-two : (n : ℕ) → 128 ≤ n → n / 128 < 128 → spelled n ≡ (n % 128 + 128) ∷ (n / 128) ∷ []
spelled-two n high low = spelled-high n high ∙ ap (λ text. (n % 128 + 128) ∷ text) (spelled-low (n / 128) low)

pub spelled-three : (n : ℕ) → 128 ≤ n → 128 ≤ n / 128 → n / 128 < 16384 → spelled n ≡ (n % 128 + 128) ∷ (n / 128 % 128 + 128) ∷ (n / 128 / 128) ∷ []
spelled-three n high more low = spelled-high n high ∙ ap (λ text. (n % 128 + 128) ∷ text) (spelled-two (n / 128) more (omega (arith, low)))

-- ---- reading

pub number_at-low : (b : ℕ) (bytes : List ℕ) → b < 128 → number_at (b ∷ bytes) ≡ Some (b, bytes)
unfolding number_at
number_at-low b bytes low = ap (λ t. cond t (Some (b, bytes)) (above (b - 128) (number_at bytes))) (lt-ltb b 128 low)

pub number_at-high : (b : ℕ) (bytes : List ℕ) → 128 ≤ b → number_at (b ∷ bytes) ≡ above (b - 128) (number_at bytes)
unfolding number_at
number_at-high b bytes high = ap (λ t. cond t (Some (b, bytes)) (above (b - 128) (number_at bytes))) (le-ltb b 128 high)

above-some : (low h : ℕ) (rest : List ℕ) → 0 < h → above low (Some (h, rest)) ≡ Some (low + 128 * h, rest)
above-some low h rest some = ap (λ t. cond {A = Option (ℕ × List ℕ)} t None (Some (low + 128 * h, rest))) (ne_eqb h 0 (λ e. absurd (omega (arith, e))))

again_high : (n : ℕ) (rest : List ℕ) → 128 ≤ n → number_at (spelled (n / 128) ++ rest) ≡ Some (n / 128, rest) → number_at (spelled n ++ rest) ≡ Some (n, rest)
again_high n rest large behind =
    ap (λ text. number_at (text ++ rest)) (spelled-high n large)
    ∙ number_at-high (n % 128 + 128) (spelled (n / 128) ++ rest) (omega arith)
    ∙ ap (above (n % 128 + 128 - 128)) behind
    ∙ above-some (n % 128 + 128 - 128) (n / 128) rest (omega arith)
    ∙ ap (λ k. Some (k, rest)) (let e : n % 128 + 128 - 128 + 128 * (n / 128) ≡ n = omega arith in e)

again_low : (n : ℕ) (rest : List ℕ) → n < 128 → number_at (spelled n ++ rest) ≡ Some (n, rest)
again_low n rest small = ap (λ text. number_at (text ++ rest)) (spelled-low n small) ∙ number_at-low n rest small

again_within : (more n : ℕ) (rest : List ℕ) → n ≤ more → number_at (spelled n ++ rest) ≡ Some (n, rest)
again_within zero n rest low = again_low n rest (omega arith)
again_within (suc more) n rest low =
    elim (cases_lt n 128) [
      | inl small ↦ again_low n rest small
      | inr large ↦ again_high n rest large (again_within more (n / 128) rest (omega arith))
    ]

pub again : (n : ℕ) (rest : List ℕ) → number_at (spelled n ++ rest) ≡ Some (n, rest)
again n rest = again_within n n rest (omega arith)

abbrev pub AreBytes : List ℕ → Type 0
AreBytes bytes = (i : ℕ) → get_or bytes i 0 < 256

some_is : (x y : ℕ × List ℕ) → Some x ≡ Some y → x ≡ y
some_is x y e = cc

-- what stands above the lowest bits, where a number was read
not_zero : (n : ℕ) → eqb n 0 ≡ false → 0 < n
not_zero zero is = absurd (cc)
not_zero (suc n) is = omega arith

pub above_ok : (low : ℕ) (read : Option (ℕ × List ℕ)) (number : ℕ) (rest : List ℕ) → above low read ≡ Some (number, rest) → (h : ℕ) × (read ≡ Some (h, rest)) × (0 < h) × (number ≡ low + 128 * h)
above_ok low None number rest e = absurd (cc)
above_ok low (Some high) number rest e = by (eqb high.0 0) refl e
  where
    by : (b : Bool) → eqb high.0 0 ≡ b → cond {A = Option (ℕ × List ℕ)} b None (Some (low + 128 * high.0, high.1)) ≡ Some (number, rest) → (h : ℕ) × (Some high ≡ Some (h, rest)) × (0 < h) × (number ≡ low + 128 * h)
    by true is e = absurd (cc)
    by false is e =
        let same = some_is (low + 128 * high.0, high.1) (number, rest) e in
        let one : low + 128 * high.0 ≡ number = ap (λ (p : ℕ × List ℕ). p.0) same in
        let two : high.1 ≡ rest = ap (λ (p : ℕ × List ℕ). p.1) same in
        let some : 0 < high.0 = not_zero high.0 is in
        (high.0, ap (λ r. Some (high.0, r)) two, some, sym one)

pub only : (bytes : List ℕ) (number : ℕ) (rest : List ℕ) → AreBytes bytes → number_at bytes ≡ Some (number, rest) → bytes ≡ spelled number ++ rest
unfolding number_at
only [] number rest fits e = absurd (cc)
only (b ∷ bytes) number rest fits e = by (nat_lt b 128) refl (λ h behind. only bytes h rest (λ i. fits (suc i)) behind) e
  where
    by : (t : Bool) → nat_lt b 128 ≡ t → ((h : ℕ) → number_at bytes ≡ Some (h, rest) → bytes ≡ spelled h ++ rest) → cond t (Some (b, bytes)) (above (b - 128) (number_at bytes)) ≡ Some (number, rest) → b ∷ bytes ≡ spelled number ++ rest
    by true is further e =
        let same = some_is (b, bytes) (number, rest) e in
        let one : b ≡ number = ap (λ (p : ℕ × List ℕ). p.0) same in
        let two : bytes ≡ rest = ap (λ (p : ℕ × List ℕ). p.1) same in
        let small : b < 128 = ltb-true b 128 is in
        let text = spelled-low b small in
        ap (λ r. b ∷ r) two ∙ sym (ap (λ text. text ++ rest) (sym (ap spelled one) ∙ text))
    by false is further e =
        let large : 128 ≤ b = ltb-false b 128 is in
        let got = above_ok (b - 128) (number_at bytes) number rest e in
        let few : b < 256 = fits 0 in
        let h = got.0 in
        let some : 0 < h = got.2 in
        let is : number ≡ b - 128 + 128 * h = got.3 in
        let behind : bytes ≡ spelled h ++ rest = further h got.1 in
        let low : number % 128 + 128 ≡ b = omega arith in
        let high : number / 128 ≡ h = omega arith in
        ap (λ r. b ∷ r) behind
        ∙ sym (ap (λ text. text ++ rest) (spelled-high number (omega arith)) ∙ ap (λ c. c ∷ (spelled (number / 128) ++ rest)) low ∙ ap (λ n. b ∷ (spelled n ++ rest)) high)

-- ---- the fewest bytes

groups_behind : (b : ℕ) (text : List ℕ) → 128 ≤ b → b < 256 → AreGroups text → AreGroups (b ∷ text)
groups_behind b [] large few groups = absurd groups
groups_behind b (c ∷ text) large few groups = (large, few, groups)

groups_within : (more n : ℕ) → n ≤ more → AreGroups (spelled n)
groups_within zero n low = subst AreGroups (sym (spelled-low n (omega arith))) (omega arith)
groups_within (suc more) n low =
    elim (cases_lt n 128) [
      | inl small ↦ subst AreGroups (sym (spelled-low n small)) small
      | inr large ↦ subst AreGroups (sym (spelled-high n large)) (groups_behind (n % 128 + 128) (spelled (n / 128)) (omega arith) (omega arith) (groups_within more (n / 128) (omega arith)))
    ]

value_low : (n : ℕ) → n < 128 → value_of (spelled n) ≡ n
value_low n small = ap value_of (spelled-low n small) ∙ (let e : n % 128 + 128 * 0 ≡ n = omega arith in e)

value_within : (more n : ℕ) → n ≤ more → value_of (spelled n) ≡ n
value_within zero n low = value_low n (omega arith)
value_within (suc more) n low =
    elim (cases_lt n 128) [
      | inl small ↦ value_low n small
      | inr large ↦
          ap value_of (spelled-high n large) ∙ ap (λ v. (n % 128 + 128) % 128 + 128 * v) (value_within more (n / 128) (omega arith))
          ∙ (let e : (n % 128 + 128) % 128 + 128 * (n / 128) ≡ n = omega arith in e)
    ]

pub spelled-start : (number : ℕ) (bytes : List ℕ) (last : ℕ) → last < length bytes → get_or bytes last 0 < 128 → number ≡ get_or bytes last 0 → number_at (drop last bytes) ≡ Some (number, drop (last + 1) bytes)
spelled-start number bytes last within low is =
    ap number_at (drop-cons bytes last 0 within) ∙ number_at-low (get_or bytes last 0) (drop (suc last) bytes) low
    ∙ ap (λ k. Some (get_or bytes last 0, drop k bytes)) (sym (add-one last)) ∙ ap (λ n. Some (n, drop (last + 1) bytes)) (sym is)

fewest_of : (other : List ℕ) → AreGroups other → (other ≡ spelled (value_of other)) ⊎ (length (spelled (value_of other)) < length other)
fewest_of [] groups = absurd groups
fewest_of (b ∷ []) groups =
    let small : b < 128 = groups in
    let value : b % 128 + 128 * 0 ≡ b = omega arith in
    inl (sym (ap spelled value ∙ spelled-low b small))
fewest_of (b ∷ c ∷ bytes) groups =
    elim (cases_lt 0 (value_of (c ∷ bytes))) [
      | inl some ↦ by some (fewest_of (c ∷ bytes) groups.2)
      | inr none ↦
          let low : b % 128 + 128 * value_of (c ∷ bytes) < 128 = omega arith in
          let text = ap (λ (t : List ℕ). length t) (spelled-low (b % 128 + 128 * value_of (c ∷ bytes)) low) in
          inr (omega (arith, text))
    ]
  where
    by : 0 < value_of (c ∷ bytes) → ((c ∷ bytes ≡ spelled (value_of (c ∷ bytes))) ⊎ (length (spelled (value_of (c ∷ bytes))) < length (c ∷ bytes)))
        → (b ∷ c ∷ bytes ≡ spelled (value_of (b ∷ c ∷ bytes))) ⊎ (length (spelled (value_of (b ∷ c ∷ bytes))) < length (b ∷ c ∷ bytes))
    by some rest =
        let v = value_of (c ∷ bytes) in
        let n = b % 128 + 128 * v in
        let large : 128 ≤ b = groups.0 in
        let few : b < 256 = groups.1 in
        let first : n % 128 + 128 ≡ b = omega arith in
        let behind : n / 128 ≡ v = omega arith in
        let text : spelled n ≡ b ∷ spelled v = spelled-high n (omega arith) ∙ ap (λ x. x ∷ spelled (n / 128)) first ∙ ap (λ x. b ∷ spelled x) behind in
        elim rest [
          | inl same ↦ inl (ap (λ t. b ∷ t) same ∙ sym text)
          | inr longer ↦ inr (let size = ap (λ (t : List ℕ). length t) text in omega (arith, size, longer))
        ]

pub is_shortest : (number : ℕ) → IsShortest number (spelled number)
is_shortest number = record {
  groups = groups_within number number (omega arith);
  value = value_within number number (omega arith);
  fewest = λ other groups value. subst (λ n. (other ≡ spelled n) ⊎ (length (spelled n) < length other)) value (fewest_of other groups);
}

-- ---- reading from the last byte to the first

abbrev pub AreHigh : List ℕ → ℕ → Type 0
AreHigh bytes count = (k : ℕ) → k < count → 128 ≤ get_or bytes k 0

pub high_all : (bytes : List ℕ) → AreHigh bytes (length bytes) → number_at bytes ≡ None
unfolding number_at
high_all [] high = refl
high_all (b ∷ bytes) high = number_at-high b bytes (high 0 (omega arith)) ∙ ap (above (b - 128)) (high_all bytes (λ k low. high (suc k) (omega arith)))

pub down_none : (bytes : List ℕ) (place : ℕ) → place ≤ length bytes → AreHigh bytes place → number_at (drop place bytes) ≡ None → number_at bytes ≡ None
down_none bytes zero within high none = none
down_none [] (suc place) within high none = absurd (omega arith)
down_none (b ∷ bytes) (suc place) within high none =
    number_at-high b bytes (high 0 (omega arith)) ∙ ap (above (b - 128)) (down_none bytes place (omega arith) (λ k low. high (suc k) (omega arith)) none)

pub down_large : (bytes : List ℕ) (place number : ℕ) (rest : List ℕ) → place ≤ length bytes → AreHigh bytes place → 0 < number → number_at (drop place bytes) ≡ Some (number, rest)
    → (n : ℕ) × (number ≤ n) × (number_at bytes ≡ Some (n, rest))
down_large bytes zero number rest within high some read = (number, omega arith, read)
down_large [] (suc place) number rest within high some read = absurd (omega arith)
down_large (b ∷ bytes) (suc place) number rest within high some read =
    let behind = down_large bytes place number rest (omega arith) (λ k low. high (suc k) (omega arith)) some read in
    let more : number ≤ behind.0 = behind.1 in
    (b - 128 + 128 * behind.0, omega arith, number_at-high b bytes (high 0 (omega arith)) ∙ ap (above (b - 128)) behind.2 ∙ above-some (b - 128) behind.0 rest (omega arith))

-- one byte further to the front
pub down_one : (bytes : List ℕ) (place number : ℕ) (rest : List ℕ) → place < length bytes → 128 ≤ get_or bytes place 0 → 0 < number → number_at (drop (place + 1) bytes) ≡ Some (number, rest)
    → number_at (drop place bytes) ≡ Some (get_or bytes place 0 - 128 + 128 * number, rest)
down_one bytes place number rest within high some read =
    ap number_at (drop-cons bytes place 0 within)
    ∙ number_at-high (get_or bytes place 0) (drop (suc place) bytes) high
    ∙ ap (above (get_or bytes place 0 - 128)) (ap (λ k. number_at (drop k bytes)) (sym (add-one place)) ∙ read)
    ∙ above-some (get_or bytes place 0 - 128) number rest some

pub word-none : (bytes : List ℕ) → number_at bytes ≡ None → word_at bytes ≡ None
unfolding word_at
word-none bytes none = ap of_64_bits none

pub word-small : (bytes : List ℕ) (number : ℕ) (rest : List ℕ) → number < 2 ^ 64 → number_at bytes ≡ Some (number, rest) → word_at bytes ≡ Some (number, rest)
unfolding word_at
word-small bytes number rest small read = ap of_64_bits read ∙ ap (λ t. cond {A = Option (ℕ × List ℕ)} t (Some (number, rest)) None) (lt-ltb number (2 ^ 64) small)

pub word-large : (bytes : List ℕ) (number : ℕ) (rest : List ℕ) → 2 ^ 64 ≤ number → number_at bytes ≡ Some (number, rest) → word_at bytes ≡ None
unfolding word_at
word-large bytes number rest large read = ap of_64_bits read ∙ ap (λ t. cond {A = Option (ℕ × List ℕ)} t (Some (number, rest)) None) (le-ltb number (2 ^ 64) large)

-- a number that is 0 behind other bytes, or too large
pub zero_behind : (bytes : List ℕ) (place : ℕ) (rest : List ℕ) → 0 < place → place < length bytes → AreHigh bytes place → number_at (drop place bytes) ≡ Some (0, rest) → word_at bytes ≡ None
zero_behind bytes zero rest some within high read = absurd (omega arith)
zero_behind bytes (suc place) rest some within high read =
    word-none bytes (down_none bytes place (omega arith) (λ k low. high k (omega arith))
    (ap number_at (drop-cons bytes place 0 (omega arith)) ∙ number_at-high (get_or bytes place 0) (drop (suc place) bytes) (high place (omega arith)) ∙ ap (above (get_or bytes place 0 - 128)) read))

pub large_behind : (bytes : List ℕ) (place number : ℕ) (rest : List ℕ) → 0 < place → place < length bytes → AreHigh bytes place → 2 ^ 57 ≤ number → number_at (drop place bytes) ≡ Some (number, rest) → word_at bytes ≡ None
large_behind bytes zero number rest some within high large read = absurd (omega arith)
large_behind bytes (suc place) number rest some within high large read =
    let one = down_one bytes place number rest (omega arith) (high place (omega arith)) (omega arith) (ap (λ k. number_at (drop k bytes)) (add-one place) ∙ read) in
    let low = get_or bytes place 0 - 128 in
    let all = down_large bytes place (low + 128 * number) rest (omega arith) (λ k low. high k (omega arith)) (omega arith) one in
    let more : low + 128 * number ≤ all.0 = all.1 in
    word-large bytes all.0 rest (omega arith) all.2

pub spelled_more : (front out : List ℕ) (rest : ℕ) → 128 ≤ rest → front ++ spelled rest ≡ out → (front ++ (rest % 128 + 128) ∷ []) ++ spelled (rest / 128) ≡ out
spelled_more front out rest large so_far = append_assoc front ((rest % 128 + 128) ∷ []) (spelled (rest / 128)) ∙ ap (λ text. front ++ text) (sym (spelled-high rest large)) ∙ so_far
