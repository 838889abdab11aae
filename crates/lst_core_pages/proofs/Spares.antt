-- The frames that are spare when a store opens, one after the other.
use Rattle.std.proofs.Common.{◌≡◌, ℕ, zero, suc, ◌+◌, List, [], ◌∷◌, ◌++◌, add-one, ap, ◌∙◌, arith, length}
use Rattle.lst_core_state.specs.declared.pages.Retired.{Retired}
use Rattle.lst_pages.specs.State.{retired_at, spares}
use Rattle.lst_pages.proofs.Starts.{length-spares}

pub spares_long : (f n : ℕ) → length (spares f n) ≡ n
spares_long f n = length-spares f n

-- one frame more
pub spares_more : (f n : ℕ) → spares f (n + 1) ≡ spares f n ++ retired_at (f + n) 0 ∷ []
spares_more f n = ap (spares f) (add-one n) ∙ snoc f n
  where
    snoc : (f n : ℕ) → spares f (suc n) ≡ spares f n ++ retired_at (f + n) 0 ∷ []
    snoc f zero = let e : f ≡ f + 0 = omega arith in ap (λ (g : ℕ). retired_at g 0 ∷ []) e
    snoc f (suc n) = let e : suc f + n ≡ f + suc n = omega arith in ap (λ (rs : List Retired). retired_at f 0 ∷ rs) (snoc (suc f) n ∙ ap (λ (g : ℕ). spares (suc f) n ++ retired_at g 0 ∷ []) e)
