-- Sums over what the lanes of all steps hold.
use Rattle.std.proofs.Common.{◌≡◌, ℕ, zero, suc, ◌+◌, ◌-◌, ◌*◌, ◌/◌, ◌%◌, ◌^◌, ◌<◌, ◌≤◌, Bool, true, false, cond, List, [], ◌∷◌, ◌++◌, map, filter, zip, sum, length, get_or, take, drop, replicate, bit_or, Fits, w64, refl, sym, ap, ap₂, ◌∙◌, arith}
use Rattle.std.proofs.Math.Seq.{take-add}
use Rattle.std.proofs.lemmas.List.{map-append, length-map, length-take, length-drop, take-append-drop, take_all, take_more}
use Rattle.std.proofs.lemmas.List.Sums.{sum_by-cons}
use Rattle.std.proofs.lemmas.Simd.{length-zip2, length-chunk, sum-zip2, sum_bound, zip2_splat, adds_fit, sum_fits, fold-sum, Each1-chunk, Each1-weaker, Each1-from_get_or, get_or-zip2}
use Rattle.std.proofs.lemmas.Nat.{le_or_l, le_or_r, or_lt}
use lib.Lanes.{zip2, sum_l, fold_l, chunk, Each1, Each2, Steps}
use Rattle.lst_kernel.specs.Entries.{is_seen, seen_values, lane_of}
use Rattle.lst_kernel.proofs.Lanes.{plus}

-- what the lanes hold of all entries, and of the first i
abbrev pub seen : ℕ → List ℕ → List ℕ → List ℕ
seen b vs ts = zip2 (lane_of b) vs ts

abbrev pub seen_up_to : ℕ → List ℕ → List ℕ → ℕ → List ℕ
seen_up_to b vs ts i = take i (seen b vs ts)

abbrev pub high_half : ℕ → ℕ
high_half v = v / 2 ^ 32

abbrev pub low_half : ℕ → ℕ
low_half v = v % 2 ^ 32

step : (t : Bool) (v w s : ℕ) (rest : List (ℕ × ℕ)) → sum (map (λ e. e.0) rest) ≡ s → sum (map (λ e. e.0) (cond t ((v, w) ∷ rest) rest)) ≡ cond t v 0 + s
step true v w s rest h = sum_by-cons (λ x. x) v (map (λ e. e.0) rest) ∙ ap (λ k. v + k) h
step false v w s rest h = omega arith

-- what isn't seen adds 0
pub sum_is : (b : ℕ) (vs ts : List ℕ) → sum (seen_values b vs ts) ≡ sum_l (seen b vs ts)
sum_is b [] ts = refl
sum_is b (v ∷ vs) [] = refl
sum_is b (v ∷ vs) (w ∷ ts) = step (is_seen b w) v w _ (filter (λ e. is_seen b e.1) (zip vs ts)) (sum_is b vs ts)

pub sum_l-append : (xs ys : List ℕ) → sum_l (xs ++ ys) ≡ sum_l xs + sum_l ys
sum_l-append [] ys = omega arith
sum_l-append (x ∷ xs) ys = omega (arith, sum_l-append xs ys)

zip2-none : (f : ℕ → ℕ → ℕ) (xs : List ℕ) → zip2 f xs [] ≡ []
zip2-none f [] = refl
zip2-none f (x ∷ xs) = refl

take-zip2 : (f : ℕ → ℕ → ℕ) (n : ℕ) (xs ys : List ℕ) → take n (zip2 f xs ys) ≡ zip2 f (take n xs) (take n ys)
take-zip2 f zero xs ys = refl
take-zip2 f (suc n) [] ys = refl
take-zip2 f (suc n) (x ∷ xs) [] = refl
take-zip2 f (suc n) (x ∷ xs) (y ∷ ys) = ap (λ l. f x y ∷ l) (take-zip2 f n xs ys)

drop-zip2 : (f : ℕ → ℕ → ℕ) (n : ℕ) (xs ys : List ℕ) → drop n (zip2 f xs ys) ≡ zip2 f (drop n xs) (drop n ys)
drop-zip2 f zero xs ys = refl
drop-zip2 f (suc n) [] ys = refl
drop-zip2 f (suc n) (x ∷ xs) [] = sym (zip2-none f (drop n xs))
drop-zip2 f (suc n) (x ∷ xs) (y ∷ ys) = drop-zip2 f n xs ys

pub chunk-zip2 : (f : ℕ → ℕ → ℕ) (i n : ℕ) (xs ys : List ℕ) → chunk i n (zip2 f xs ys) ≡ zip2 f (chunk i n xs) (chunk i n ys)
chunk-zip2 f i n xs ys = ap (take n) (drop-zip2 f i xs ys) ∙ take-zip2 f n (drop i xs) (drop i ys)

pub seen_long : (b i n : ℕ) (vs ts r : List ℕ) → length vs ≡ length ts → i + n ≤ length vs → r ≡ seen b (chunk i n vs) (chunk i n ts) → length r ≡ n
seen_long b i n vs ts r long room is =
    let v = length-chunk i n vs room in let t = length-chunk i n ts (omega arith) in ap length is ∙ length-zip2 (lane_of b) (chunk i n vs) (chunk i n ts) (v ∙ sym t) ∙ v

-- one step further
pub seen_more : (b i n : ℕ) (vs ts r : List ℕ) → r ≡ seen b (chunk i n vs) (chunk i n ts) → seen_up_to b vs ts (i + n) ≡ seen_up_to b vs ts i ++ r
seen_more b i n vs ts r is = take-add i n (seen b vs ts) ∙ ap (λ l. seen_up_to b vs ts i ++ l) (chunk-zip2 (lane_of b) i n vs ts ∙ sym is)

lane_low : (t : Bool) (v : ℕ) → v < 2 ^ 64 → cond t v 0 < 2 ^ 64
lane_low true v h = h
lane_low false v h = omega arith

pub seen_low : (b : ℕ) (vs ts : List ℕ) → ((k : ℕ) → Fits w64 (get_or vs k 0)) → Each1 (λ a. a < 2 ^ 64) (seen b vs ts)
seen_low b [] ts f = tt
seen_low b (v ∷ vs) [] f = tt
seen_low b (v ∷ vs) (w ∷ ts) f = (lane_low (is_seen b w) v (f 0).fits, seen_low b vs ts (λ k. f (suc k)))

wrapped : (xs ys : List ℕ) → length xs ≡ length ys → sum_l (zip2 plus xs ys) % 2 ^ 64 ≡ (sum_l xs + sum_l ys) % 2 ^ 64
wrapped [] [] e = refl
wrapped [] (y ∷ ys) e = absurd (omega arith)
wrapped (x ∷ xs) [] e = absurd (omega arith)
wrapped (x ∷ xs) (y ∷ ys) e = omega (arith, wrapped xs ys (omega arith))

pub low_step : (sums r p q : List ℕ) → length sums ≡ length r → sum_l sums % 2 ^ 64 ≡ sum_l p % 2 ^ 64 → q ≡ p ++ r
    → sum_l (zip2 plus sums r) % 2 ^ 64 ≡ sum_l q % 2 ^ 64
low_step sums r p q e h is = wrapped sums r e ∙ (let a = sum_l-append p r in omega arith) ∙ ap (λ l. sum_l l % 2 ^ 64) (sym is)

abbrev pub halves_of : List ℕ → List ℕ
halves_of r = zip2 (λ a k. a / 2 ^ k) r (replicate 8 32)

halves_are : (r : List ℕ) → length r ≡ 8 → halves_of r ≡ map high_half r
halves_are r e = zip2_splat (λ a k. a / 2 ^ k) r 8 32 e

high_sum : (halves r p q : List ℕ) → length r ≡ 8 → sum_l halves ≡ sum_l (map high_half p) → q ≡ p ++ r
    → sum_l halves + sum_l (halves_of r) ≡ sum_l (map high_half q)
high_sum halves r p q e h is =
    let a = ap sum_l (halves_are r e) in
    let m = ap sum_l (map-append high_half p r) in
    let s = sum_l-append (map high_half p) (map high_half r) in
    let k = ap (λ l. sum_l (map high_half l)) is in
    omega arith

pub high_step : (halves r p q : List ℕ) → length halves ≡ 8 → length r ≡ 8 → sum_l halves ≡ sum_l (map high_half p) → q ≡ p ++ r
    → sum_l (zip2 (λ a b. a + b) halves (halves_of r)) ≡ sum_l (map high_half q)
high_step halves r p q n e h is =
    sum-zip2 halves (halves_of r) (n ∙ sym (ap length (halves_are r e) ∙ length-map r high_half ∙ e)) ∙ high_sum halves r p q e h is

high_low : (xs : List ℕ) → Each1 (λ a. a < 2 ^ 64) xs → sum_l (map high_half xs) ≤ 4294967296 * length xs
high_low [] f = omega arith
high_low (x ∷ xs) f = let h = f.0 in omega (arith, high_low xs f.1)

low_low : (xs : List ℕ) → sum_l (map low_half xs) ≤ 4294967296 * length xs
low_low [] = omega arith
low_low (x ∷ xs) = omega (arith, low_low xs)

in_halves : (xs : List ℕ) → sum_l xs ≡ sum_l (map high_half xs) * 4294967296 + sum_l (map low_half xs)
in_halves [] = omega arith
in_halves (x ∷ xs) = omega (arith, in_halves xs)

-- the upper halves of up to 256 words have room in 64 bits
pub halves_room : (s : List ℕ) → length s ≤ 256 → Each1 (λ a. a < 2 ^ 64) s → sum_l (map high_half s) < 2 ^ 64
halves_room s few f = omega (arith, high_low s f)

pub halves_fit : (halves r p q : List ℕ) → length r ≡ 8 → sum_l halves ≡ sum_l (map high_half p) → q ≡ p ++ r → sum_l (map high_half q) < 2 ^ 64 → Each2 (λ a b. Fits w64 (a + b)) halves (halves_of r)
halves_fit halves r p q e h is room = let s = high_sum halves r p q e h is in adds_fit w64 halves (halves_of r) (omega arith)

folded : (a : ℕ) (xs : List ℕ) → a < 2 ^ 64 → fold_l plus a xs ≡ (a + sum_l xs) % 2 ^ 64
folded a [] h = omega arith
folded a (x ∷ xs) h = omega (arith, folded (plus a x) xs (omega arith))

-- what is left of a sum in 64 bits, and the sum of the upper halves, tell the whole
pub joined : (s : List ℕ) (r : ℕ) (sums halves : List ℕ) → length s ≤ 256 → sum_l sums % 2 ^ 64 ≡ sum_l s % 2 ^ 64 → sum_l halves ≡ sum_l (map high_half s)
    → ((rest : ℕ) → rest < 2 ^ 64 → fold_l plus 0 sums ≡ (fold_l (λ s x. s + x) 0 halves * 4294967296 + rest) % 2 ^ 64 → r ≡ fold_l (λ s x. s + x) 0 halves * 4294967296 + rest)
    → r ≡ sum_l s
joined s r sums halves few low high joins =
    let rest = sum_l (map low_half s) in
    let parts = in_halves s in
    let h = fold-sum 0 halves in
    let l = folded 0 sums (omega arith) in
    let few_left : rest < 2 ^ 64 = omega (arith, low_low s) in
    let is = joins rest few_left (omega arith) in
    omega arith

rest_is : (k : ℕ) (xs : List ℕ) → take (length xs - k) (drop k xs) ≡ drop k xs
rest_is k xs = take_all (length xs - k) (drop k xs) (omega (arith, length-drop k xs))

pub split_sum : (b k : ℕ) (vs ts : List ℕ)
    → sum (seen_values b (take k vs) (take k ts)) + sum (seen_values b (take (length vs - k) (drop k vs)) (take (length ts - k) (drop k ts))) ≡ sum (seen_values b vs ts)
split_sum b k vs ts =
    let front = sum_is b (take k vs) (take k ts) ∙ ap sum_l (sym (take-zip2 (lane_of b) k vs ts)) in
    let back = ap₂ (λ x y. sum (seen_values b x y)) (rest_is k vs) (rest_is k ts) ∙ sum_is b (drop k vs) (drop k ts) ∙ ap sum_l (sym (drop-zip2 (lane_of b) k vs ts)) in
    let all = sum_is b vs ts ∙ ap sum_l (sym (take-append-drop k (seen b vs ts))) ∙ sum_l-append (take k (seen b vs ts)) (drop k (seen b vs ts)) in
    omega arith

module _ (b : ℕ) (vs ts : List ℕ) (long : length vs ≡ length ts) (few : length vs ≤ 256) (f : (k : ℕ) → Fits w64 (get_or vs k 0)) where
  short : (i : ℕ) → length (seen_up_to b vs ts i) ≤ 256
  short i = omega (arith, length-take i (seen b vs ts), length-zip2 (lane_of b) vs ts long)

  high_room : (i : ℕ) → sum_l (map high_half (seen_up_to b vs ts i)) < 2 ^ 64
  high_room i = halves_room (seen_up_to b vs ts i) (short i) (Each1-chunk (λ a. a < 2 ^ 64) 0 i (seen b vs ts) (seen_low b vs ts f))

  pub high_fits : (i : ℕ) (halves r : List ℕ) → length r ≡ 8 → r ≡ seen b (chunk i 8 vs) (chunk i 8 ts) → sum_l halves ≡ sum_l (map high_half (seen_up_to b vs ts i))
      → Each2 (λ a b. Fits w64 (a + b)) halves (halves_of r)
  high_fits i halves r e is h = halves_fit halves r (seen_up_to b vs ts i) (seen_up_to b vs ts (i + 8)) e h (seen_more b i 8 vs ts r is) (high_room (i + 8))

  pub high_folds : (i : ℕ) (halves : List ℕ) → sum_l halves ≡ sum_l (map high_half (seen_up_to b vs ts i)) → Steps (λ s x. Fits w64 (s + x)) (λ s x. s + x) 0 halves
  high_folds i halves h = sum_fits w64 0 halves (omega (arith, high_room i))

  pub at_end : (i : ℕ) → length vs ≤ i → sum_l (seen_up_to b vs ts i) ≡ sum (seen_values b vs ts)
  at_end i all = ap sum_l (take_all i (seen b vs ts) (omega (arith, length-zip2 (lane_of b) vs ts long))) ∙ sym (sum_is b vs ts)

  pub total_is : (i r : ℕ) (sums halves : List ℕ) → length vs ≤ i → sum_l sums % 2 ^ 64 ≡ sum_l (seen_up_to b vs ts i) % 2 ^ 64
      → sum_l halves ≡ sum_l (map high_half (seen_up_to b vs ts i))
      → ((rest : ℕ) → rest < 2 ^ 64 → fold_l plus 0 sums ≡ (fold_l (λ s x. s + x) 0 halves * 4294967296 + rest) % 2 ^ 64 → r ≡ fold_l (λ s x. s + x) 0 halves * 4294967296 + rest)
      → r ≡ sum (seen_values b vs ts)
  total_is i r sums halves all low high joins = joined (seen_up_to b vs ts i) r sums halves (short i) low high joins ∙ at_end i all

  pub sum_low : (i : ℕ) → sum_l (seen_up_to b vs ts i) ≤ 2 ^ 64 * 256
  sum_low i =
      let e = Each1-weaker (λ a. a < 2 ^ 64) (λ a. a ≤ 2 ^ 64) (λ a h. omega arith) (seen_up_to b vs ts i) (Each1-chunk (λ a. a < 2 ^ 64) 0 i (seen b vs ts) (seen_low b vs ts f)) in
      omega (arith, sum_bound (2 ^ 64) (seen_up_to b vs ts i) e, short i)

  pub one_more : (i : ℕ) → i < length vs → sum_l (seen_up_to b vs ts (i + 1)) ≡ sum_l (seen_up_to b vs ts i) + lane_of b (get_or vs i 0) (get_or ts i 0)
  one_more i h =
      let s = seen b vs ts in
      let e = ap sum_l (take_more s i 0 (omega (arith, length-zip2 (lane_of b) vs ts long))) ∙ sum_l-append (take i s) (get_or s i 0 ∷ []) in
      let g = get_or-zip2 (lane_of b) vs ts i 0 0 0 h (omega arith) in
      omega arith

  pub all_low : sum (seen_values b vs ts) ≤ 2 ^ 64 * 256
  all_low = omega (arith, at_end (length vs) (omega arith), sum_low (length vs))

-- ---- all values, seen or not

pub sum_l_is : (xs : List ℕ) → sum_l xs ≡ sum xs
sum_l_is [] = refl
sum_l_is (x ∷ xs) = ap (λ k. x + k) (sum_l_is xs) ∙ sym (sum_by-cons (λ k. k) x xs)

module _ (vs : List ℕ) (few : length vs ≤ 256) (f : (k : ℕ) → Fits w64 (get_or vs k 0)) where
  short_of_all : (i : ℕ) → length (take i vs) ≤ 256
  short_of_all i = omega (arith, length-take i vs)

  room_of_all : (i : ℕ) → sum_l (map high_half (take i vs)) < 2 ^ 64
  room_of_all i = halves_room (take i vs) (short_of_all i) (Each1-chunk (λ a. a < 2 ^ 64) 0 i vs (Each1-from_get_or (λ a. a < 2 ^ 64) vs 0 (λ k h. (f k).fits)))

  pub all_fit : (i : ℕ) (halves : List ℕ) → i + 8 ≤ length vs → sum_l halves ≡ sum_l (map high_half (take i vs)) → Each2 (λ a b. Fits w64 (a + b)) halves (halves_of (chunk i 8 vs))
  all_fit i halves within h = halves_fit halves (chunk i 8 vs) (take i vs) (take (i + 8) vs) (length-chunk i 8 vs within) h (take-add i 8 vs) (room_of_all (i + 8))

  pub all_fold : (i : ℕ) (halves : List ℕ) → sum_l halves ≡ sum_l (map high_half (take i vs)) → Steps (λ s x. Fits w64 (s + x)) (λ s x. s + x) 0 halves
  all_fold i halves h = sum_fits w64 0 halves (omega (arith, room_of_all i))

  pub all_is : (i r : ℕ) (sums halves : List ℕ) → length vs ≤ i → sum_l sums % 2 ^ 64 ≡ sum_l (take i vs) % 2 ^ 64 → sum_l halves ≡ sum_l (map high_half (take i vs))
      → ((rest : ℕ) → rest < 2 ^ 64 → fold_l plus 0 sums ≡ (fold_l (λ s x. s + x) 0 halves * 4294967296 + rest) % 2 ^ 64 → r ≡ fold_l (λ s x. s + x) 0 halves * 4294967296 + rest)
      → r ≡ sum vs
  all_is i r sums halves past low high joins = joined (take i vs) r sums halves (short_of_all i) low high joins ∙ ap sum_l (take_all i vs past) ∙ sum_l_is vs

-- ---- all values, where each has at most 56 bits

abbrev pub greatest : ℕ
greatest = 72057594037927935

abbrev pub AreNarrow : List ℕ → Type 0
AreNarrow xs = Each1 (λ x. x ≤ greatest) xs

-- each word of a list, and the one before it, is at most what all have in bits
pub narrow_words : (a : ℕ) (xs : List ℕ) → fold_l bit_or a xs ≤ greatest → (a ≤ greatest) × AreNarrow xs
narrow_words a [] low = (low, tt)
narrow_words a (x ∷ xs) low = let rest = narrow_words (bit_or a x) xs low in (omega (arith, le_or_l a x), (omega (arith, le_or_r a x), rest.1))

narrow_parts : (xs ys : List ℕ) → length xs ≡ length ys → AreNarrow (zip2 bit_or xs ys) → AreNarrow xs × AreNarrow ys
narrow_parts [] [] long all = (tt, tt)
narrow_parts [] (y ∷ ys) long all = absurd (omega arith)
narrow_parts (x ∷ xs) [] long all = absurd (omega arith)
narrow_parts (x ∷ xs) (y ∷ ys) long all =
    let rest = narrow_parts xs ys (omega arith) all.1 in
    ((omega (arith, le_or_l x y, all.0), rest.0), (omega (arith, le_or_r x y, all.0), rest.1))

pub narrow_step : (vs bits : List ℕ) (i : ℕ) → length bits ≡ 8 → i + 8 ≤ length vs → (AreNarrow bits → sum_l (take i vs) ≤ greatest * i)
    → AreNarrow (zip2 bit_or bits (chunk i 8 vs)) → sum_l (take (i + 8) vs) ≤ greatest * (i + 8)
narrow_step vs bits i wide within before all =
    let long = length-chunk i 8 vs within in
    let parts = narrow_parts bits (chunk i 8 vs) (wide ∙ sym long) all in
    let added = ap sum_l (take-add i 8 vs) ∙ sum_l-append (take i vs) (chunk i 8 vs) in
    omega (arith, before parts.0, sum_bound greatest (chunk i 8 vs) parts.1)

pub narrow_is : (vs sums bits : List ℕ) (i : ℕ) → length vs ≡ 256 → length vs ≤ i → i ≤ length vs → sum_l sums % 2 ^ 64 ≡ sum_l (take i vs) % 2 ^ 64
    → (AreNarrow bits → sum_l (take i vs) ≤ greatest * i) → fold_l bit_or 0 bits < 2 ^ 56 → fold_l plus 0 sums ≡ sum vs
narrow_is vs sums bits i long past within low before narrow =
    let few = before (narrow_words 0 bits (omega arith)).1 in
    let whole = ap sum_l (take_all i vs past) ∙ sum_l_is vs in
    omega (arith, folded 0 sums (omega arith))

or_narrow : (a b : ℕ) → a ≤ greatest → b ≤ greatest → bit_or a b ≤ greatest
or_narrow a b first second = omega (arith, or_lt 56 a b (omega arith) (omega arith))

pub narrow_lanes : (xs ys : List ℕ) → AreNarrow xs → AreNarrow ys → AreNarrow (zip2 bit_or xs ys)
narrow_lanes [] ys first second = tt
narrow_lanes (x ∷ xs) [] first second = tt
narrow_lanes (x ∷ xs) (y ∷ ys) first second = (or_narrow x y first.0 second.0, narrow_lanes xs ys first.1 second.1)

pub narrow_fold : (a : ℕ) (xs : List ℕ) → a ≤ greatest → AreNarrow xs → fold_l bit_or a xs ≤ greatest
narrow_fold a [] low all = low
narrow_fold a (x ∷ xs) low all = narrow_fold (bit_or a x) xs (or_narrow a x low all.0) all.1

pub narrow_chunk : (vs : List ℕ) (i : ℕ) → length vs ≡ 256 → ((k : ℕ) → k < 256 → get_or vs k 0 < 2 ^ 56) → AreNarrow (chunk i 8 vs)
narrow_chunk vs i long all = Each1-chunk (λ x. x ≤ greatest) i 8 vs (Each1-from_get_or (λ x. x ≤ greatest) vs 0 (λ k low. omega (arith, all k (omega arith))))
