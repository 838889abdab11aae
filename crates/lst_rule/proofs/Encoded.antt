-- What the encoding word of a stored tail says, once it is unpacked.
use Rattle.std.proofs.Common.{◌≡◌, ◌⊎◌, ℕ, ◌/◌, ◌%◌, ◌^◌, ◌<◌, ◌≤◌, List, ◌-◌, eq-eqb, eqb-true, refl, sym, subst, ap, ◌∙◌, arith, inl, inr, ⊎_elim}
use Rattle.std.proofs.Math.Nat.{pow-le-pow_right, div-eq_of_lt}
use mathlib.Core.Logic.{dite}
use native.Mathlib.Decide.{dec_lt}
use Rattle.lst_model.specs.Cells.{cells_of}
use Rattle.lst_bits.specs.Encodings as bits
use Rattle.lst_bits.specs.Encodings.{kind_code, encoding_of, AreWithin, IsEncodingWord}
use Rattle.lst_core_state.specs.Cells.{act_of, act_with, kind_of, mask_of, nulls_of, IsCell}

act_words : (e : ℕ) (values : List ℕ) → act_of e values ≡ act_with (kind_of e) (mask_of e) (cells_of (nulls_of e) 0 values)
unfolding act_of
act_words e values = refl

-- an encoding word that says what the values hold is the encoding of some write
module _ (columns e : ℕ) (values : ℕ → ℕ) (few : columns ≤ 8) (cell : IsCell columns e values) where
  codes : (kind_of e ≡ 1) ⊎ ((kind_of e ≡ 2) ⊎ (kind_of e ≡ 3))
  codes = ⊎_elim (λ (h : (kind_of e ≡ 1) × (mask_of e ≡ 2 ^ columns - 1)). inl h.0)
      (λ (h : ((kind_of e ≡ 2) × (0 < mask_of e) × (mask_of e < 2 ^ columns)) ⊎ ((kind_of e ≡ 3) × (mask_of e ≡ 0))). inr (⊎_elim
      (λ (g : (kind_of e ≡ 2) × (0 < mask_of e) × (mask_of e < 2 ^ columns)). inl g.0) (λ (g : (kind_of e ≡ 3) × (mask_of e ≡ 0)). inr g.0) h)) cell.kind

  kind_range : (0 < kind_of e) × (kind_of e ≤ 3)
  kind_range = ⊎_elim (λ (a : kind_of e ≡ 1). (omega arith, omega arith))
      (λ (h : (kind_of e ≡ 2) ⊎ (kind_of e ≡ 3)). ⊎_elim (λ (a : kind_of e ≡ 2). (omega arith, omega arith)) (λ (a : kind_of e ≡ 3). (omega arith, omega arith)) h) codes

  -- no column that there isn't is null
  none_above : (column : ℕ) → columns ≤ column → nulls_of e / 2 ^ column ≡ 0
  none_above column high = div-eq_of_lt (let a = cell.nulls in let p : 2 ^ columns ≤ 2 ^ column = pow-le-pow_right {n = 2} (omega arith) {i = columns} {j = column} high in omega arith)

  nulls_within : AreWithin (nulls_of e) (mask_of e)
  nulls_within column has = dite (dec_lt column columns)
      (λ low. eqb-true (mask_of e / 2 ^ column % 2) 1 ((cell.each column low).within (eq-eqb (nulls_of e / 2 ^ column % 2) 1 has)))
      (λ high. absurd (let z = none_above column (omega arith) in omega arith))

  pub cell_encoded : IsEncodingWord e
  cell_encoded = let kind = kind_range in record {
    wide = let a = cell.nulls in let p : 2 ^ columns ≤ 2 ^ 8 = pow-le-pow_right {n = 2} (omega arith) {i = columns} {j = 8} few in omega arith;
    some = kind.0;
    kind = kind.1;
    within = nulls_within;
  }

  -- the act of the words, by the encoding that was unpacked
  code_is : (k : ℕ) → (k ≡ 1) ⊎ ((k ≡ 2) ⊎ (k ≡ 3)) → kind_code (bits.kind_of k) ≡ k
  code_is k (inl a) = subst (λ (n : ℕ). kind_code (bits.kind_of n) ≡ n) (sym a) refl
  code_is k (inr (inl a)) = subst (λ (n : ℕ). kind_code (bits.kind_of n) ≡ n) (sym a) refl
  code_is k (inr (inr a)) = subst (λ (n : ℕ). kind_code (bits.kind_of n) ≡ n) (sym a) refl

  pub act_is : (list : List ℕ) → act_of e list ≡ act_with (kind_code (encoding_of e).kind) (encoding_of e).mask (cells_of (encoding_of e).nulls 0 list)
  act_is list = act_words e list ∙ ap (λ (k : ℕ). act_with k (mask_of e) (cells_of (nulls_of e) 0 list)) (sym (code_is (kind_of e) codes))
