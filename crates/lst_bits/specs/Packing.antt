-- What makes a pair of functions a packing.
use Rattle.std.specs.Prelude.{ℕ, ◌≡◌}

-- the values in range and the words of the image are in one to one correspondence
pub record IsPacking {A : Type 0} (IsValue : A → Type 0) (IsWord : ℕ → Type 0) (pack : A → ℕ) (unpack : ℕ → A) : Type 0 where
  pub packed : (a : A) → IsValue a → IsWord (pack a)
  pub read_back : (a : A) → IsValue a → unpack (pack a) ≡ a
  pub unpacked : (w : ℕ) → IsWord w → IsValue (unpack w)
  pub written_back : (w : ℕ) → IsWord w → pack (unpack w) ≡ w
