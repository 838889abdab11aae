-- The number of a column, from tail to tail.
use Rattle.std.proofs.Common.{◌≡◌, ◌⊎◌, ℕ, zero, suc, ◌+◌, ◌-◌, ◌^◌, ◌<◌, ◌≤◌, List, [], ◌∷◌, ◌++◌, Bool, true, false, cond, eqb, Contains, refl, sym, ap, ◌∙◌, inl, inr, ⊎_elim}
use Rattle.std.specs.Prelude.{Option, None, unwrap_or, slice_index}
use Rattle.lst_bits.specs.declared.encodings.Encoding.{Encoding}
use Rattle.lst_bits.specs.declared.encodings.Kind.TheVariants as kinds
use Rattle.lst_bits.specs.Encodings as bits
use Rattle.lst_bits.specs.Encodings.{kind_code, encoding_of, IsMaskOf}
use Rattle.lst_model.specs.Cells.{Cell, cells_of, has_bit}
use Rattle.lst_model.specs.Histories.{row_after, row_from}
use Rattle.lst_model.specs.Soundness.{Fits, FitInTurn}
use Rattle.lst_core_state.specs.Lists.{acts, above}
use Rattle.lst_core_state.specs.declared.known.Known.{Known}
use Rattle.lst_core_state.specs.Cells.{kind_of, mask_of, act_with}
use Rattle.lst_rule.specs.declared.view.View.{View}
use Rattle.lst_rule.specs.Rule.{knows}
use Rattle.lst_rule.specs.Copies.{Version, fact_of, AreKnown, AreVersionsOf, IsVersionOf}
use Rattle.lst_rule.specs.Seen.{sees, act_by, seen_acts}
use Rattle.lst_rule.proofs.Encoded.{act_is}
use Rattle.lst_walk.specs.Patches.{cell_in, IsWide}
use Rattle.lst_walk.specs.Numbered.{seen_versions, number_by, number_from, number_in, FoldsAreCells}
use Rattle.lst_walk.proofs.Chains.{row_step, fit_step, wide_row}
use Rattle.lst_walk.proofs.Meanings.{numbers_by}
use Rattle.lst_walk.proofs.Acting.{del_told}
use Rattle.lst_walk.proofs.Masks.{masked, mask_told, mask_untold}
use Rattle.lst_walk.proofs.Using.{sight_fits}
use Rattle.lst_walk.proofs.Ranged.{tails_tell}

-- ---- the number of a column

-- what versions leave of it, one after the other
after : ℕ → ℕ → List Version → ℕ
after column x [] = x
after column x (c ∷ cs) = after column (number_by column c x) cs

after_snoc : (column x : ℕ) (cs : List Version) (c : Version) → after column x (cs ++ c ∷ []) ≡ number_by column c (after column x cs)
unfolding after
after_snoc column x [] c = refl
after_snoc column x (d ∷ cs) c = after_snoc column (number_by column d x) cs c

-- the loop goes over what is told
loop_after : (told : ℕ → Bool) (version : ℕ → Version) (column low x m : ℕ) → number_from told version column low x m ≡ after column x (acts told version (above low m))
unfolding after
loop_after told version column low x zero = refl
loop_after told version column low x (suc m) = ap (λ (y : ℕ). cond (told (low + suc m)) (number_by column (version (low + suc m)) y) y) (loop_after told version column low x m) ∙ step (told (low + suc m))
  where
    done : List Version
    done = acts told version (above low m)

    step : (b : Bool) → cond b (number_by column (version (low + suc m)) (after column x (acts told version (above low m)))) (after column x (acts told version (above low m))) ≡ after column x (cond b (acts told version (above low m) ++ version (low + suc m) ∷ []) (acts told version (above low m)))
    step true = sym (after_snoc column x (acts told version (above low m)) (version (low + suc m)))
    step false = refl

-- a version that is seen does to the number what it does to the row
module _ (v : View) (s rec column : ℕ) (few : v.limits.columns ≤ 8) (short : column < v.limits.columns) (d : Version) (is : IsVersionOf v.limits rec d) (fact : Contains (knows v s).facts (fact_of d)) (older : Option (List Cell)) (wide : IsWide v.limits.columns older) (fits : Fits older (act_by d)) where
  abbrev e : Encoding
  e = encoding_of d.encoding

  act : act_by d ≡ act_with (kind_code (encoding_of d.encoding).kind) (encoding_of d.encoding).mask (cells_of (encoding_of d.encoding).nulls 0 d.values)
  act = act_is v.limits.columns d.encoding (λ i. slice_index d.values i) few is.cell d.values

  mask : IsMaskOf v.limits.columns (encoding_of d.encoding).kind (encoding_of d.encoding).mask
  mask = masked v.limits v s d.tail d e refl record { rec = rec; is = is; known = fact; at = refl } refl

  held : (x : ℕ) → has_bit (mask_of d.encoding) column ≡ true → x ≡ slice_index d.values column → number_in column (row_after older (act_by d)) ≡ x
  held x bit at = ap (λ (o : Option ℕ). unwrap_or o 0) (mask_told d e act (numbers_by v.limits rec d is) v.limits.columns column x mask short is.wide bit at older wide fits)

  left : has_bit (mask_of d.encoding) column ≡ false → ((encoding_of d.encoding).kind ≡ kinds.Put) ⊎ ((encoding_of d.encoding).kind ≡ kinds.Set) → number_in column (row_after older (act_by d)) ≡ number_in column older
  left bit kind = ap (λ (o : Option ℕ). unwrap_or o 0) (mask_untold d e act v.limits.columns column mask short is.wide bit kind older)

  gone : (encoding_of d.encoding).kind ≡ kinds.Del → number_in column (row_after older (act_by d)) ≡ 0
  gone kind = ap (λ (o : Option ℕ). unwrap_or o 0) (del_told d e act v.limits.columns column kind older wide fits)

  number_step : number_in column (row_after older (act_by d)) ≡ number_by column d (number_in column older)
  number_step = choose (has_bit (mask_of d.encoding) column) refl
    where
      kind_is : (n : ℕ) → kind_of d.encoding ≡ n → (encoding_of d.encoding).kind ≡ bits.kind_of n
      kind_is n f = ap bits.kind_of f

      other : (n : ℕ) → kind_of d.encoding ≡ n → eqb n 3 ≡ false → cond (eqb (kind_of d.encoding) 3) 0 (number_in column older) ≡ number_in column older
      other n f g = ap (λ (b : Bool). cond b 0 (number_in column older)) (ap (λ (x : ℕ). eqb x 3) f ∙ g)

      choose : (b : Bool) → has_bit (mask_of d.encoding) column ≡ b → number_in column (row_after older (act_by d)) ≡ cond b (slice_index d.values column) (cond (eqb (kind_of d.encoding) 3) 0 (number_in column older))
      choose true bit = held (slice_index d.values column) bit refl
      choose false bit = ⊎_elim
          (λ (put : (kind_of d.encoding ≡ 1) × (mask_of d.encoding ≡ 2 ^ v.limits.columns - 1)). left bit (inl (kind_is 1 put.0)) ∙ sym (other 1 put.0 refl))
          (λ (rest : ((kind_of d.encoding ≡ 2) × (0 < mask_of d.encoding) × (mask_of d.encoding < 2 ^ v.limits.columns)) ⊎ ((kind_of d.encoding ≡ 3) × (mask_of d.encoding ≡ 0))). ⊎_elim
          (λ (set : (kind_of d.encoding ≡ 2) × (0 < mask_of d.encoding) × (mask_of d.encoding < 2 ^ v.limits.columns)). left bit (inr (kind_is 2 set.0)) ∙ sym (other 2 set.0 refl))
          (λ (del : (kind_of d.encoding ≡ 3) × (mask_of d.encoding ≡ 0)). gone (kind_is 3 del.0) ∙ sym (ap (λ (n : ℕ). cond (eqb n 3) 0 (number_in column older)) del.0))
          rest)
          is.cell.kind

-- the number of the row that is seen, by the newer versions and what the older ones leave
module _ (v : View) (s rec column : ℕ) (few : v.limits.columns ≤ 8) (short : column < v.limits.columns) (older : List Version) where
  abbrev k : Known
  k = knows v s

  abbrev x : ℕ
  x = number_in column (row_from None (seen_acts (knows v s) s older))

  rows_after : (cs : List Version) → AreVersionsOf v.limits rec (cs ++ older) → AreKnown (knows v s).facts (cs ++ older) → FitInTurn None (seen_acts (knows v s) s (cs ++ older))
      → after column x (seen_versions (knows v s) s cs) ≡ number_in column (row_from None (seen_acts (knows v s) s (cs ++ older)))
  unfolding after
  rows_after [] are known fits = refl
  rows_after (d ∷ cs) are known fits = step (sees k s d.writer) refl (rows_after cs are.1 known.1 (fit_step k s d (cs ++ older) fits).0) ∙ sym (ap (number_in column) (row_step k s d (cs ++ older)))
    where
      step : (b : Bool) → sees (knows v s) s d.writer ≡ b → after column x (seen_versions (knows v s) s cs) ≡ number_in column (row_from None (seen_acts (knows v s) s (cs ++ older)))
          → after column x (cond b (seen_versions (knows v s) s cs ++ d ∷ []) (seen_versions (knows v s) s cs))
          ≡ number_in column (cond b (row_after (row_from None (seen_acts (knows v s) s (cs ++ older))) (act_by d)) (row_from None (seen_acts (knows v s) s (cs ++ older))))
      step true seen rest = after_snoc column x (seen_versions (knows v s) s cs) d ∙ (ap (number_by column d) rest
          ∙ sym (number_step v s rec column few short d are.0 known.0 (row_from None (seen_acts (knows v s) s (cs ++ older))) (wide_row v.limits rec (knows v s) s (cs ++ older) are.1) ((fit_step (knows v s) s d (cs ++ older) fits).1 seen)))
      step false seen rest = rest

pub folds_are_cells : FoldsAreCells
folds_are_cells v s rec column low m x newer older told version p has short known over upto tells is = (
  cell_in column (row_from None (seen_acts (knows v s) s (newer ++ older))),
  (seen_acts (knows v s) s (newer ++ older), known.sees, refl),
  loop_after told version column low x m ∙ (ap (after column x) (tails_tell v s rec low m newer older told version p has known over upto tells)
      ∙ (ap (λ (y : ℕ). after column y (seen_versions (knows v s) s newer)) is
      ∙ rows_after v s rec column p.allowed.sound.sized.columns.1 short older newer known.is.chain.whole known.is.chain.known (sight_fits v s rec (seen_acts (knows v s) s (newer ++ older)) p has.host has.opened known.sees))),
)
