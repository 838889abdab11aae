-- Lists of what a function gives.
use Rattle.std.proofs.Common.{◌≡◌, ℕ, zero, suc, ◌+◌, ◌<◌, ◌≤◌, List, ◌∷◌, refl, sym, ◌∙◌, arith, length, take, drop, slice_index}
use Rattle.std.proofs.lemmas.List.{length-drop, length-take-le, get_or-take, get_or-drop}
use Rattle.std.proofs.lemmas.Grind.{same_number_lists}
pub use Rattle.lst_layout.proofs.Functions.{get-listed, length-listed}
use Rattle.lst_pages.specs.Lists.{listed}

module _ {A : Type 0} where
  -- the items are the same where the functions are
  pub listed-same : (f g : ℕ → A) (k n : ℕ) → ((i : ℕ) → k ≤ i → i < k + n → g i ≡ f i) → listed g k n ≡ listed f k n
  listed-same f g k zero same = refl
  listed-same f g k (suc n) same = let a = same k (omega arith) (omega arith) in let b = listed-same f g (suc k) n (λ i low high. same i (omega arith) (omega arith)) in λ i. a i ∷ b i

-- a part of a list, by what the list has at each place
pub part-listed : (xs : List ℕ) (k n : ℕ) → k + n ≤ length xs → take n (drop k xs) ≡ listed (slice_index xs) k n
part-listed xs k n room = same_number_lists (take n (drop k xs)) (listed (slice_index xs) k n) (long ∙ sym (length-listed (slice_index xs) k n))
    (λ i low. let short : i < n = omega (arith, long) in get_or-take n (drop k xs) i 0 short ∙ get_or-drop k xs i 0 ∙ sym (get-listed (slice_index xs) k n i 0 short))
  where
    long : length (take n (drop k xs)) ≡ n
    long = length-take-le n (drop k xs) (let e = length-drop k xs in omega arith)
