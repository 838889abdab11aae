-- What the lanes of a step hold.
use Rattle.std.proofs.Common.{◌≡◌, ◌≢◌, ℕ, ◌+◌, ◌*◌, ◌/◌, ◌%◌, ◌^◌, ◌<◌, min, leb, Bool, true, false, cond, List, [], ◌∷◌, map, length, replicate, Fits, w64, refl, ap, ap₂, ◌∙◌, subst, arith, inl, inr}
use Rattle.std.proofs.lemmas.Bool.{cases_eq}
use Rattle.std.proofs.lemmas.Bool.Decides.{nat_tests}
use lib.Lanes.{zip2, sel_l, top, Each1}
use Rattle.lst_kernel.specs.Entries.{is_seen, lane_of}

-- the greatest time of a time word
abbrev pub last_time : ℕ
last_time = 9223372036854775807

abbrev pub plus : ℕ → ℕ → ℕ
plus a b = (a + b) % 2 ^ 64

abbrev pub at_most : ℕ → ℕ → ℕ
at_most a b = cond (leb a b) 18446744073709551615 0

-- the time of a time word, but above every time where the entry is absent
abbrev pub key_of : ℕ → ℕ
key_of w = plus (plus (w / 2 ^ 1) (w * 2 ^ 63 % 2 ^ 64)) (2 ^ 63)

key_present : (w : ℕ) → w < 2 ^ 64 → w % 2 ≡ 1 → key_of w ≡ w / 2
key_present w h e = omega arith

key_absent : (w : ℕ) → w < 2 ^ 64 → w % 2 ≢ 1 → key_of w ≡ w / 2 + 2 ^ 63
key_absent w h e = omega arith

passes : (b w : ℕ) → w < 2 ^ 64 → leb (key_of w) (min b last_time) ≡ is_seen b w
passes b w h =
    elim (cases_eq (w % 2) 1) [
      | inl e ↦ let k = key_present w h e in grind (arith, nat_tests)
      | inr e ↦ let k = key_absent w h e in grind (arith, nat_tests)
    ]

top_at_most : (t : Bool) → top 63 (cond t 18446744073709551615 0) ≡ t
top_at_most true = refl
top_at_most false = refl

lane : (b v w : ℕ) → w < 2 ^ 64 → cond (top 63 (at_most (key_of w) (min b last_time))) v 0 ≡ lane_of b v w
lane b v w h = ap (λ t. cond t v 0) (top_at_most (leb (key_of w) (min b last_time)) ∙ passes b w h)

abbrev pub keys : ℕ → List ℕ → List ℕ
keys n ts = zip2 plus (zip2 plus (zip2 (λ a k. a / 2 ^ k) ts (replicate n 1)) (zip2 (λ a k. a * 2 ^ k % 2 ^ 64) ts (replicate n 63))) (replicate n 9223372036854775808)

each : (b : ℕ) (vs ts : List ℕ) → length vs ≡ length ts → Each1 (Fits w64) ts
    → sel_l (map (top 63) (zip2 at_most (keys (length ts) ts) (replicate (length ts) (min b last_time)))) vs (replicate (length ts) 0) ≡ zip2 (lane_of b) vs ts
each b [] [] e f = refl
each b [] (w ∷ ts) e f = absurd (omega arith)
each b (v ∷ vs) [] e f = absurd (omega arith)
each b (v ∷ vs) (w ∷ ts) e f = ap₂ (λ x l. x ∷ l) (lane b v w f.0.fits) (each b vs ts (omega arith) f.1)

pub seen_lanes_are : (b m n : ℕ) (vs ts : List ℕ) → m ≡ min b last_time → length vs ≡ n → length ts ≡ n → Each1 (Fits w64) ts
    → sel_l (map (top 63) (zip2 at_most (keys n ts) (replicate n m))) vs (replicate n 0) ≡ zip2 (lane_of b) vs ts
seen_lanes_are b m n vs ts is p q f =
    ap (λ k. sel_l (map (top 63) (zip2 at_most (keys n ts) (replicate n k))) vs (replicate n 0)) is
    ∙ subst (λ (k : ℕ). sel_l (map (top 63) (zip2 at_most (keys k ts) (replicate k (min b last_time)))) vs (replicate k 0) ≡ zip2 (lane_of b) vs ts) q (each b vs ts (omega arith) f)
