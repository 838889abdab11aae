-- Numbers of some bits in words.
use Rattle.std.proofs.Common.{◌≡◌, ℕ, zero, suc, ◌+◌, ◌-◌, ◌*◌, ◌/◌, ◌%◌, ◌^◌, ◌<◌, ◌≤◌, List, slice_index, refl, ap, ◌∙◌, arith, subst, sym, ⊎_elim, ◌⊎◌}
use Rattle.std.proofs.Math.Nat.{mul-le-mul_right, div-div-eq-div-mul, pow-le-pow_right, one-le-pow}
use Rattle.std.proofs.lemmas.Nat.{div-mul-add, pow-add, div-add-mod', field_of}
use Rattle.std.proofs.Math.Pow.{mod-mod-pow}
use Rattle.std.proofs.Math.Arith.{digits_mod}
use Rattle.lst_pack.specs.Forms.{number_at, IsWidth}

bits_before : (turn per k width : ℕ) → per * width ≡ 64 → (turn * per + k) * width ≡ turn * 64 + k * width
bits_before turn per k width whole = let e = ap (λ n. turn * n) whole in omega (arith, e)

within_word : (per k width : ℕ) → per * width ≡ 64 → 0 < width → k < per → k * width < 64
within_word per k width whole some low = let h : k + 1 ≤ per = omega arith in let m = mul-le-mul_right width h in omega (arith, m)

-- the number at place k of a word that holds `per` of them
pub number_in_word : (words : List ℕ) (from width per turn k : ℕ) → per * width ≡ 64 → 0 < width → k < per
    → number_at words from width (turn * per + k) ≡ slice_index words (from + turn) / 2 ^ (k * width) % 2 ^ width
number_in_word words from width per turn k whole some low =
    let e = bits_before turn per k width whole in
    let b = within_word per k width whole some low in
    let d : (turn * per + k) * width / 64 ≡ turn = ap (λ n. n / 64) e ∙ div-mul-add turn 64 (k * width) b in
    let m : (turn * per + k) * width % 64 ≡ k * width = ap (λ n. n % 64) e ∙ digits_mod turn b in
    ap (λ n. slice_index words (from + n) / 2 ^ ((turn * per + k) * width % 64) % 2 ^ width) d ∙ ap (λ n. slice_index words (from + turn) / 2 ^ n % 2 ^ width) m

-- some bits of a number stand in its low eight too, where these reach so far
bits_in_byte : (n skipped width above : ℕ) → above + width + skipped ≡ 8 → n / 2 ^ skipped % 2 ^ width ≡ n % 2 ^ 8 / 2 ^ skipped % 2 ^ width
bits_in_byte n skipped width above eight =
    sym (mod-mod-pow (n / 2 ^ skipped) above width) ∙ ap (λ m. m % 2 ^ width) (sym (field_of n (above + width) skipped)) ∙ ap (λ m. n % 2 ^ m / 2 ^ skipped % 2 ^ width) eight

-- the number at place k of a byte that holds `per` of them
pub number_in_byte : (words : List ℕ) (from width per place k : ℕ) → per * width ≡ 8 → 0 < width → k < per
    → number_at words from width (place * per + k) ≡ number_at words from 8 place / 2 ^ (k * width) % 2 ^ width
number_in_byte words from width per place k whole some low =
    let p = ap (λ n. place * n) whole in
    let e : (place * per + k) * width ≡ place * 8 + k * width = omega (arith, p) in
    let h : k + 1 ≤ per = omega arith in
    let most = mul-le-mul_right width h in
    let b : k * width + width ≤ 8 = omega (arith, most, whole) in
    let d : (place * per + k) * width / 64 ≡ place * 8 / 64 = ap (λ n. n / 64) e ∙ (let g : (place * 8 + k * width) / 64 ≡ place * 8 / 64 = omega (arith, b) in g) in
    let m : (place * per + k) * width % 64 ≡ place * 8 % 64 + k * width = ap (λ n. n % 64) e ∙ (let g : (place * 8 + k * width) % 64 ≡ place * 8 % 64 + k * width = omega (arith, b) in g) in
    let word = slice_index words (from + place * 8 / 64) in
    ap (λ n. slice_index words (from + n) / 2 ^ ((place * per + k) * width % 64) % 2 ^ width) d
    ∙ ap (λ n. word / 2 ^ n % 2 ^ width) m
    ∙ ap (λ n. word / n % 2 ^ width) (pow-add 2 (place * 8 % 64) (k * width))
    ∙ ap (λ n. n % 2 ^ width) (sym (div-div-eq-div-mul word (2 ^ (place * 8 % 64)) (2 ^ (k * width))))
    ∙ bits_in_byte (word / 2 ^ (place * 8 % 64)) (k * width) width (8 - (k * width + width)) (omega (arith, b))

-- how many numbers of this width a word holds
pub per_word : (width : ℕ) → IsWidth width → ((64 / width) * width ≡ 64) × (0 < width) × (width ≤ 32)
per_word width is = grind arith

pub at_width : (P : ℕ → Type 0) → P 1 → P 2 → P 4 → P 8 → P 16 → P 32 → (width : ℕ) → IsWidth width → P width
at_width P one two four eight sixteen thirty width is =
    ⊎_elim (λ (e : width ≡ 1). subst P (sym e) one) (λ (rest : (width ≡ 2) ⊎ ((width ≡ 4) ⊎ ((width ≡ 8) ⊎ ((width ≡ 16) ⊎ (width ≡ 32))))).
    ⊎_elim (λ (e : width ≡ 2). subst P (sym e) two) (λ (rest : (width ≡ 4) ⊎ ((width ≡ 8) ⊎ ((width ≡ 16) ⊎ (width ≡ 32)))).
    ⊎_elim (λ (e : width ≡ 4). subst P (sym e) four) (λ (rest : (width ≡ 8) ⊎ ((width ≡ 16) ⊎ (width ≡ 32))).
    ⊎_elim (λ (e : width ≡ 8). subst P (sym e) eight) (λ (rest : (width ≡ 16) ⊎ (width ≡ 32)).
    ⊎_elim (λ (e : width ≡ 16). subst P (sym e) sixteen) (λ (e : width ≡ 32). subst P (sym e) thirty) rest) rest) rest) rest) is

-- how many numbers of a narrow width a byte holds
pub at_narrow : (P : ℕ → Type 0) → P 1 → P 2 → P 4 → (width : ℕ) → (width ≡ 1) ⊎ ((width ≡ 2) ⊎ (width ≡ 4)) → P width
at_narrow P one two four width is =
    ⊎_elim (λ (e : width ≡ 1). subst P (sym e) one) (λ (rest : (width ≡ 2) ⊎ (width ≡ 4)).
    ⊎_elim (λ (e : width ≡ 2). subst P (sym e) two) (λ (e : width ≡ 4). subst P (sym e) four) rest) is

pub per_byte : (width : ℕ) → (width ≡ 1) ⊎ ((width ≡ 2) ⊎ (width ≡ 4)) → ((8 / width) * width ≡ 8) × (0 < width)
per_byte = at_narrow (λ width. ((8 / width) * width ≡ 8) × (0 < width)) (refl, omega arith) (refl, omega arith) (refl, omega arith)

pub one_in_byte : (width : ℕ) → (width ≡ 1) ⊎ ((width ≡ 2) ⊎ (width ≡ 4)) → 1 * 2 ^ width % 256 ≡ 2 ^ width
one_in_byte = at_narrow (λ width. 1 * 2 ^ width % 256 ≡ 2 ^ width) refl refl refl

pub byte_within : (width : ℕ) → (width ≡ 1) ⊎ ((width ≡ 2) ⊎ (width ≡ 4)) → (place k : ℕ) → place < 32 * width → k < 8 / width → place * (8 / width) + k < 256
byte_within = at_narrow (λ width. (place k : ℕ) → place < 32 * width → k < 8 / width → place * (8 / width) + k < 256)
    (λ place k a b. omega arith) (λ place k a b. omega arith) (λ place k a b. omega arith)

-- a one moved up by the width stays within a word
pub one_moved : (width : ℕ) → IsWidth width → 1 * 2 ^ width % 18446744073709551616 ≡ 2 ^ width
one_moved = at_width (λ width. 1 * 2 ^ width % 18446744073709551616 ≡ 2 ^ width) refl refl refl refl refl refl

pub place_within : (width : ℕ) → IsWidth width → (turn k : ℕ) → turn < 4 * width → k < 64 / width → turn * (64 / width) + k < 256
place_within = at_width (λ width. (turn k : ℕ) → turn < 4 * width → k < 64 / width → turn * (64 / width) + k < 256)
    (λ turn k a b. omega arith) (λ turn k a b. omega arith) (λ turn k a b. omega arith) (λ turn k a b. omega arith) (λ turn k a b. omega arith) (λ turn k a b. omega arith)

-- ---- a word built from its highest number down: each number moves those before it up by the width

pub pushed_first : (word number width : ℕ) → number < 2 ^ width → (word * 2 ^ width + number) / 2 ^ (0 * width) % 2 ^ width ≡ number
pushed_first word number width low =
    let z : 2 ^ (0 * width) ≡ 1 = ap (λ n. 2 ^ n) (let e : 0 * width ≡ 0 = omega arith in e) in
    let one : (n : ℕ) → n / 1 ≡ n = λ n. omega arith in
    ap (λ n. (word * 2 ^ width + number) / n % 2 ^ width) z ∙ ap (λ n. n % 2 ^ width) (one (word * 2 ^ width + number)) ∙ digits_mod word low

pub pushed_on : (word number width k : ℕ) → number < 2 ^ width → (word * 2 ^ width + number) / 2 ^ ((k + 1) * width) ≡ word / 2 ^ (k * width)
pushed_on word number width k low =
    let e : (k + 1) * width ≡ width + k * width = omega arith in
    ap (λ n. (word * 2 ^ width + number) / 2 ^ n) e
    ∙ ap (λ n. (word * 2 ^ width + number) / n) (pow-add 2 width (k * width))
    ∙ sym (div-div-eq-div-mul (word * 2 ^ width + number) (2 ^ width) (2 ^ (k * width)))
    ∙ ap (λ n. n / 2 ^ (k * width)) (div-mul-add word (2 ^ width) number low)

pub pushed_low : (word number width count : ℕ) → word < 2 ^ (count * width) → number < 2 ^ width → word * 2 ^ width + number < 2 ^ ((count + 1) * width)
pushed_low word number width count low small =
    let e : (count + 1) * width ≡ count * width + width = omega arith in
    let p = ap (λ n. 2 ^ n) e ∙ pow-add 2 (count * width) width in
    let h : word + 1 ≤ 2 ^ (count * width) = omega arith in
    let m = mul-le-mul_right (2 ^ width) h in
    omega (arith, p, m)

pub per_some : (width : ℕ) → IsWidth width → 0 < 64 / width
per_some = at_width (λ width. 0 < 64 / width) (omega arith) (omega arith) (omega arith) (omega arith) (omega arith) (omega arith)

-- the numbers at the places of a page are those in its words
pub number_of_page : (words : List ℕ) (from width place : ℕ) → IsWidth width
    → number_at words from width place ≡ slice_index words (from + place / (64 / width)) / 2 ^ (place % (64 / width) * width) % 2 ^ width
number_of_page words from width place is =
    let per = per_word width is in
    let some = per_some width is in
    let e : place / (64 / width) * (64 / width) + place % (64 / width) ≡ place = div-add-mod' place (64 / width) in
    let low : place % (64 / width) < 64 / width = omega arith in
    ap (λ n. number_at words from width n) (sym e) ∙ number_in_word words from width (64 / width) (place / (64 / width)) (place % (64 / width)) per.0 per.1 low

-- a place of a page is within its words
pub word_within : (width : ℕ) → IsWidth width → (place : ℕ) → place < 256 → place / (64 / width) < 4 * width
word_within = at_width (λ width. (place : ℕ) → place < 256 → place / (64 / width) < 4 * width)
    (λ p a. omega arith) (λ p a. omega arith) (λ p a. omega arith) (λ p a. omega arith) (λ p a. omega arith) (λ p a. omega arith)

-- what is put in at place k of a word whose numbers at the places after it are built
pub push_fits : (word number width count : ℕ) → IsWidth width → word < 2 ^ (count * width) → number < 2 ^ width → count < 64 / width → word * 2 ^ width + number < 2 ^ 64
push_fits word number width count is low small few =
    let per = per_word width is in
    let h : count + 1 ≤ 64 / width = omega arith in
    let m = mul-le-mul_right width h in
    let top : (count + 1) * width ≤ 64 = omega (arith, per.0) in
    let p = pow-le-pow_right {n = 2} (omega arith) top in
    let q = pushed_low word number width count low small in
    omega arith

-- what holds of the number put in, and of those before it one place up, holds of each number of the word that is built
pub pushed_each : (word number width base count : ℕ) (P : ℕ → ℕ → Type 0) → base ≡ 2 ^ width → number < 2 ^ width → P 0 number
    → ((i : ℕ) → i + 1 < count → P (i + 1) (word / 2 ^ (i * width) % 2 ^ width)) → (place : ℕ) → place < count → P place ((word * base + number) / 2 ^ (place * width) % 2 ^ width)
pushed_each word number width base count P is small here before zero low =
    let e = ap (λ n. (word * n + number) / 2 ^ (0 * width) % 2 ^ width) is ∙ pushed_first word number width small in
    subst (λ (n : ℕ). P 0 n) (sym e) here
pushed_each word number width base count P is small here before (suc i) low =
    let s : i + 1 ≡ suc i = omega arith in
    let e = ap (λ n. (word * n + number) / 2 ^ ((i + 1) * width) % 2 ^ width) is ∙ ap (λ n. n % 2 ^ width) (pushed_on word number width i small) in
    subst (λ (n : ℕ). P n ((word * base + number) / 2 ^ (n * width) % 2 ^ width)) s (subst (λ (n : ℕ). P (i + 1) n) (sym e) (before i (omega arith)))

pub pushed_within : (word number width base per left : ℕ) → base ≡ 2 ^ width → 0 < left → left ≤ per → word < 2 ^ ((per - left) * width) → number < 2 ^ width
    → word * base + number < 2 ^ ((per - (left - 1)) * width)
pushed_within word number width base per left is some within low small =
    let e : per - (left - 1) ≡ per - left + 1 = omega arith in
    let f = ap (λ n. 2 ^ (n * width)) e in
    let g = ap (λ n. word * n + number) is in
    let h = pushed_low word number width (per - left) low small in
    omega (arith, f, g, h)

pub pushed_fits : (word number width base left : ℕ) → IsWidth width → base ≡ 2 ^ width → 0 < left → left ≤ 64 / width → word < 2 ^ ((64 / width - left) * width) → number < 2 ^ width
    → word * base + number < 2 ^ 64
pushed_fits word number width base left whole is some within low small =
    let g = ap (λ n. word * n + number) is in
    let h = push_fits word number width (64 / width - left) whole low small (omega arith) in
    omega (arith, g, h)

-- a number of some bits is below their power of two
pub number_low : (words : List ℕ) (from width place : ℕ) → number_at words from width place < 2 ^ width
number_low words from width place = let p : 0 < 2 ^ width = one-le-pow width 2 (omega arith) in omega arith
