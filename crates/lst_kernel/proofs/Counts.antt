-- Counts by lanes: each lane holds 1 of what is seen.
use Rattle.std.proofs.Common.{◌≡◌, ℕ, ◌+◌, ◌-◌, ◌≤◌, cond, List, [], ◌∷◌, count_by, length, take, drop, replicate, Fits, w64, refl, sym, ap, ◌∙◌, arith}
use Rattle.std.proofs.Math.Seq.{take-add}
use Rattle.std.proofs.lemmas.List.{length-take, length-drop, take-append-drop, take_all}
use Rattle.std.proofs.lemmas.List.Sums.{sum_by-cons, sum_by-append, count_by-le-length}
use Rattle.std.proofs.lemmas.Simd.{length-chunk, length-zip2, sum-zip2, adds_fit, sum_fits, fold-sum}
use lib.Lanes.{zip2, sum_l, fold_l, chunk, Each2, Steps}
use Rattle.lst_kernel.specs.Entries.{is_seen, lane_of}

abbrev pub ones_seen : ℕ → ℕ → List ℕ → List ℕ
ones_seen b n r = zip2 (lane_of b) (replicate n 1) r

each_counts : (b : ℕ) (r : List ℕ) → sum_l (ones_seen b (length r) r) ≡ count_by (is_seen b) r
each_counts b [] = refl
each_counts b (w ∷ r) = ap (λ n. cond (is_seen b w) 1 0 + n) (each_counts b r) ∙ sym (sum_by-cons (λ x. cond (is_seen b x) 1 0) w r)

pub lanes_count : (b : ℕ) (r s : List ℕ) → length r ≡ 8 → s ≡ ones_seen b 8 r → sum_l s ≡ count_by (is_seen b) r
lanes_count b r s e is = ap sum_l is ∙ ap (λ n. sum_l (ones_seen b n r)) (sym e) ∙ each_counts b r

pub lanes_long : (b : ℕ) (r s : List ℕ) → length r ≡ 8 → s ≡ ones_seen b 8 r → length s ≡ 8
lanes_long b r s e is = ap length is ∙ length-zip2 (lane_of b) (replicate 8 1) r (sym e)

module _ (b : ℕ) (ts : List ℕ) where
  abbrev pub counted : ℕ → ℕ
  counted i = count_by (is_seen b) (take i ts)

  counted_low : (i : ℕ) → counted i ≤ length ts
  counted_low i = omega (arith, count_by-le-length (is_seen b) (take i ts), length-take i ts)

  sum_more : (i : ℕ) (counts s : List ℕ) → i + 8 ≤ length ts → s ≡ ones_seen b 8 (chunk i 8 ts) → sum_l counts ≡ counted i → sum_l counts + sum_l s ≡ counted (i + 8)
  sum_more i counts s room is h =
      let e = lanes_count b (chunk i 8 ts) s (length-chunk i 8 ts room) is in
      let m = ap (count_by (is_seen b)) (take-add i 8 ts) ∙ sum_by-append (λ x. cond (is_seen b x) 1 0) (take i ts) (chunk i 8 ts) in
      omega arith

  pub counts_fit : (i : ℕ) (counts s : List ℕ) → length ts ≤ 256 → i + 8 ≤ length ts → s ≡ ones_seen b 8 (chunk i 8 ts) → sum_l counts ≡ counted i → Each2 (λ x y. Fits w64 (x + y)) counts s
  counts_fit i counts s few room is h = adds_fit w64 counts s (omega (arith, sum_more i counts s room is h, counted_low (i + 8)))

  pub counts_more : (i : ℕ) (counts s : List ℕ) → length counts ≡ 8 → i + 8 ≤ length ts → s ≡ ones_seen b 8 (chunk i 8 ts) → sum_l counts ≡ counted i
      → sum_l (zip2 (λ x y. x + y) counts s) ≡ counted (i + 8)
  counts_more i counts s e room is h = sum-zip2 counts s (e ∙ sym (lanes_long b (chunk i 8 ts) s (length-chunk i 8 ts room) is)) ∙ sum_more i counts s room is h

  pub counts_fold : (i : ℕ) (counts : List ℕ) → length ts ≤ 256 → sum_l counts ≡ counted i → Steps (λ s x. Fits w64 (s + x)) (λ s x. s + x) 0 counts
  counts_fold i counts few h = sum_fits w64 0 counts (omega (arith, counted_low i))

  pub total_low : (i : ℕ) (counts : List ℕ) → sum_l counts ≡ counted i → fold_l (λ s x. s + x) 0 counts ≤ length ts
  total_low i counts h = omega (arith, fold-sum 0 counts, counted_low i)

  pub count_is : (i : ℕ) (counts : List ℕ) → length ts ≤ i → sum_l counts ≡ counted i → fold_l (λ s x. s + x) 0 counts ≡ count_by (is_seen b) ts
  count_is i counts all h = fold-sum 0 counts ∙ (let a = ap (count_by (is_seen b)) (take_all i ts all) in omega arith)

  pub split_count : (k : ℕ) → count_by (is_seen b) (take k ts) + count_by (is_seen b) (take (length ts - k) (drop k ts)) ≡ count_by (is_seen b) ts
  split_count k =
      let r = ap (count_by (is_seen b)) (take_all (length ts - k) (drop k ts) (omega (arith, length-drop k ts))) in
      let s = sym (sum_by-append (λ x. cond (is_seen b x) 1 0) (take k ts) (drop k ts)) ∙ ap (count_by (is_seen b)) (take-append-drop k ts) in
      omega arith
