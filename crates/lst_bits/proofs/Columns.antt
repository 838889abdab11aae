-- Whether a column is held with a number, as the program computes it.
use Rattle.std.proofs.Common.{◌≡◌, ◌≢◌, ℕ, ◌/◌, ◌%◌, ◌^◌, Bool, false, not, ◌&&◌, nat_eq, bit_and, sym, ap, ◌∙◌, eq-eqb, ne_eqb}
use Rattle.std.specs.Prelude.{◌==◌}
use Rattle.std.specs.Int.{bit_at}
use Rattle.std.proofs.lemmas.Nat.{and_mask}
use Rattle.lst_bits.specs.Encodings.{has_number, mask_of, nulls_of}

-- the bit of a column, shifted to the lowest place
bit_is : (bits column : ℕ) → nat_eq (bit_and (bits / 2 ^ column) 1) 1 ≡ (bit_at bits column == 1)
bit_is bits column = ap (λ (x : ℕ). nat_eq x 1) (and_mask (bits / 2 ^ column) 1)

pub number_if_set : (encoding column : ℕ) → bit_and (encoding % 256 / 2 ^ column) 1 ≡ 1 → not (nat_eq (bit_and (encoding / 16777216 / 2 ^ column) 1) 1) ≡ has_number encoding column
unfolding has_number
number_if_set encoding column set = ap not (bit_is (nulls_of encoding) column) ∙ sym (ap (λ (b : Bool). b && not (bit_at (nulls_of encoding) column == 1)) (sym (bit_is (mask_of encoding) column) ∙ eq-eqb (bit_and (encoding % 256 / 2 ^ column) 1) 1 set))

pub no_number_if_clear : (encoding column : ℕ) → bit_and (encoding % 256 / 2 ^ column) 1 ≢ 1 → nat_eq (bit_and (encoding % 256 / 2 ^ column) 1) 1 ≡ has_number encoding column
unfolding has_number
no_number_if_clear encoding column clear = let off : nat_eq (bit_and (encoding % 256 / 2 ^ column) 1) 1 ≡ false = ne_eqb (bit_and (encoding % 256 / 2 ^ column) 1) 1 clear in
    off ∙ sym (ap (λ (b : Bool). b && not (bit_at (nulls_of encoding) column == 1)) (sym (bit_is (mask_of encoding) column) ∙ off))
