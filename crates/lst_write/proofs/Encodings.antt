-- The words of an act say the act.
use Rattle.std.proofs.Common.{◌≡◌, ℕ, zero, suc, ◌+◌, ◌-◌, ◌*◌, ◌/◌, ◌%◌, ◌^◌, ◌<◌, ◌≤◌, List, [], ◌∷◌, Bool, true, false, Option, Some, None, length, drop, map, get_or, slice_index, refl, sym, subst, ap, ◌∙◌, arith, inl, inr, eq-eqb, eqb-true, true≢false}
use Rattle.std.specs.Prelude.{is_some, is_none, option_map, unwrap_or, slice_index_or}
use Rattle.std.specs.Option.{IsSome}
use Rattle.std.proofs.lemmas.List.{length-drop, length-map, get_or-map}
use Rattle.std.proofs.Math.Nat.{pow-le-pow_right}
use mathlib.Core.Logic.{dite}
use native.Mathlib.Decide.{dec_lt}
use mir.Val.{bool_byte}
use Rattle.lst_model.specs.declared.acts.Act.{Act}
use Rattle.lst_model.specs.declared.acts.Act.TheVariants.{Put, Set, Del}
use Rattle.lst_model.specs.Cells.{Cell, number_of, has_bit, cells_of, null_bits, bits_to_null, bits_set, is_to_null, changed_number}
use Rattle.lst_model.specs.CellLaws.{row_is_own, bits_where-below, no_bits, null_bits_are_null}
use Rattle.lst_model.proofs.Cells.{no_bit_above, null_is_set, patch_is_patched, number_left_out, number_of_null}
use Rattle.lst_bits.specs.Encodings.{AreWithin}
use Rattle.lst_core_state.specs.Cells.{mask_of, kind_of, slot_of, nulls_of, listed, act_of, act_with, IsCell}
use Rattle.lst_rule.proofs.PostingBits.{full_bit, full_has}
use Rattle.lst_write.specs.Cells.{IsActFor, encoding_of, value_of}

-- ---- masks of patches

pub bits_set-numbers : (patch : List (Option Cell)) → bits_set (map (option_map number_of) patch) ≡ bits_set patch
bits_set-numbers [] = refl
bits_set-numbers (None ∷ patch) = ap (λ (n : ℕ). 0 + 2 * n) (bits_set-numbers patch)
bits_set-numbers (Some cell ∷ patch) = ap (λ (n : ℕ). 1 + 2 * n) (bits_set-numbers patch)

pub mask_fits : (changes : List (Option ℕ)) (column : ℕ) → 0 < column → length changes ≤ 8 → 2 * bits_set (drop column changes) + 1 ≤ 255
mask_fits changes column some few = let h = bits_where-below is_some (drop column changes) in let e : length (drop column changes) ≡ length changes - column = length-drop column changes in
    let p : 2 ^ length (drop column changes) ≤ 2 ^ 7 = pow-le-pow_right {n = 2} (omega arith) {i = length (drop column changes)} {j = 7} (omega arith) in omega arith

pub byte_low : (b : Bool) → bool_byte b ≤ 1
byte_low true = omega arith
byte_low false = omega arith

-- the number of a change
pub change_number : (patch : List (Option Cell)) (c : ℕ) (other : Option ℕ) → c < length patch → unwrap_or (get_or (map (option_map number_of) patch) c other) 0 ≡ changed_number (get_or patch c None)
change_number patch c other low = ap (λ (o : Option ℕ). unwrap_or o 0) (get_or-map (option_map number_of) patch c None other low) ∙ by (get_or patch c None)
  where
    by : (change : Option Cell) → unwrap_or (option_map number_of change) 0 ≡ changed_number change
    by None = refl
    by (Some None) = refl
    by (Some (Some number)) = refl

-- ---- bits

-- the null columns of a row are columns of it
pub row_within : (columns : ℕ) (row : List Cell) → length row ≡ columns → AreWithin (null_bits row) (2 ^ columns - 1)
row_within columns row wide c has = dite (dec_lt c columns)
    (λ low. full_bit columns c low)
    (λ high. absurd (true≢false (sym (eq-eqb (null_bits row / 2 ^ c % 2) 1 has) ∙ no_bit_above is_none row c (omega arith))))

pub patch_within : (patch : List (Option Cell)) → AreWithin (bits_to_null patch) (bits_set patch)
patch_within patch c has = eqb-true (bits_set patch / 2 ^ c % 2) 1 (null_is_set patch c (eq-eqb (bits_to_null patch / 2 ^ c % 2) 1 has))

pub none_within : (mask : ℕ) → AreWithin 0 mask
none_within mask c has = absurd (true≢false (sym (eq-eqb (0 / 2 ^ c % 2) 1 has) ∙ no_bits c))

-- ---- an act read back

numbers_listed : (numbers : List ℕ) (f : ℕ → ℕ) (c : ℕ) → ((i : ℕ) → i < length numbers → f (c + i) ≡ slice_index numbers i) → listed f c (length numbers) ≡ numbers
numbers_listed [] f c same = refl
numbers_listed (x ∷ numbers) f c same = λ i. (ap f (let e : c ≡ c + 0 = omega arith in e) ∙ same 0 (omega arith)) i
    ∷ numbers_listed numbers f (suc c) (λ k low. ap f (let e : suc c + k ≡ c + suc k = omega arith in e) ∙ same (suc k) (omega arith)) i

row_values : (columns : ℕ) (row : List Cell) → length row ≡ columns → listed (value_of (Put row)) 0 columns ≡ map number_of row
row_values columns row wide = ap (λ (n : ℕ). listed (value_of (Put row)) 0 n) (sym wide ∙ sym (length-map row number_of))
    ∙ numbers_listed (map number_of row) (value_of (Put row)) 0 (λ i low. ap (slice_index (map number_of row)) (let z : 0 + i ≡ i = omega arith in z))

patch_values : (columns : ℕ) (patch : List (Option Cell)) → length patch ≡ columns → listed (value_of (Set patch)) 0 columns ≡ map changed_number patch
patch_values columns patch wide = ap (λ (n : ℕ). listed (value_of (Set patch)) 0 n) (sym wide ∙ sym (length-map patch changed_number))
    ∙ numbers_listed (map changed_number patch) (value_of (Set patch)) 0 (λ i low. ap (λ (c : ℕ). changed_number (get_or patch c None)) (let z : 0 + i ≡ i = omega arith in z)
    ∙ sym (get_or-map changed_number patch i None 0 (let w = length-map patch changed_number in omega arith)))

-- ---- the words of an act

mask_some : (patch : List (Option Cell)) (k : ℕ) (o : Option Cell) → k < length patch → slice_index_or patch k o ≡ o → IsSome o → 0 < bits_set patch
mask_some [] k o low is some = absurd (omega arith)
mask_some (Some x ∷ patch) k o low is some = omega arith
mask_some (None ∷ patch) zero o low is some = absurd (true≢false (sym (subst (λ (p : Option Cell). IsSome p) (sym is) some)))
mask_some (None ∷ patch) (suc k) o low is some = let h = mask_some patch k o (omega arith) is some in omega arith

module _ (columns rec : ℕ) (few : columns ≤ 8) where
  wide : 2 ^ columns ≤ 256
  wide = pow-le-pow_right {n = 2} (omega arith) {i = columns} {j = 8} few

  some : 1 ≤ 2 ^ columns
  some = pow-le-pow_right {n = 2} (omega arith) {i = 0} {j = columns} (omega arith)

  put_parts : (row : List Cell) → let e = encoding_of columns rec (Put row) in (mask_of e ≡ 2 ^ columns - 1) × (kind_of e ≡ 1) × (slot_of e ≡ rec % 256) × (nulls_of e ≡ null_bits row)
  put_parts row = let a = wide in let b = some in (omega arith, omega arith, omega arith, omega arith)

  set_parts : (patch : List (Option Cell)) → length patch ≡ columns → let e = encoding_of columns rec (Set patch) in (mask_of e ≡ bits_set patch) × (kind_of e ≡ 2) × (slot_of e ≡ rec % 256) × (nulls_of e ≡ bits_to_null patch)
  set_parts patch width = let a = wide in let b = bits_where-below is_some patch in let f : 2 ^ length patch ≡ 2 ^ columns = ap (λ (n : ℕ). 2 ^ n) width in (omega arith, omega arith, omega arith, omega arith)

  del_parts : let e = encoding_of columns rec Del in (mask_of e ≡ 0) × (kind_of e ≡ 3) × (slot_of e ≡ rec % 256) × (nulls_of e ≡ 0)
  del_parts = (omega arith, omega arith, omega arith, omega arith)

  -- the slot is the record's
  pub slot_is : (act : Act) → IsActFor columns act → slot_of (encoding_of columns rec act) ≡ rec % 256
  slot_is (Put row) is = (put_parts row).2
  slot_is (Set patch) is = (set_parts patch is.width).2
  slot_is Del is = del_parts.2

  -- the words say the act
  pub act_says : (act : Act) → IsActFor columns act → act_of (encoding_of columns rec act) (listed (value_of act) 0 columns) ≡ act
  unfolding act_of
  act_says (Put row) is = let q = put_parts row in
      (λ i. act_with (q.1 i) (q.0 i) (cells_of (q.3 i) 0 (row_values columns row is i))) ∙ ap (λ (cells : List Cell). Put cells) (row_is_own row)
  act_says (Set patch) is = let q = set_parts patch is.width in
      (λ i. act_with (q.1 i) (q.0 i) (cells_of (q.3 i) 0 (patch_values columns patch is.width i))) ∙ ap (λ (changes : List (Option Cell)). Set changes) (patch_is_patched patch)
  act_says Del is = let q = del_parts in λ i. act_with (q.1 i) (q.0 i) (cells_of (q.3 i) 0 (listed (value_of Del) 0 columns))

  -- and are those of a cell
  pub is_cell : (act : Act) → IsActFor columns act → IsCell columns (encoding_of columns rec act) (value_of act)
  is_cell (Put row) is = let q = put_parts row in let null = null_bits_are_null row in record {
    nulls = let e = q.3 in let a = bits_where-below is_none row in let f : 2 ^ length row ≡ 2 ^ columns = ap (λ (n : ℕ). 2 ^ n) is in omega arith;
    kind = inl (q.1, q.0);
    each = λ c low. let full : has_bit (mask_of (encoding_of columns rec (Put row))) c ≡ true = ap (λ (m : ℕ). has_bit m c) q.0 ∙ full_has columns c low in record {
      within = λ bit. full;
      null = λ bit. null.zeros c 0 (let w = length-map row number_of in omega arith) (ap (λ (n : ℕ). has_bit n c) (sym q.3) ∙ bit);
      else = λ none. absurd (true≢false (sym full ∙ none));
    };
  }
  is_cell (Set patch) is = let q = set_parts patch is.width in let a = bits_where-below is_some patch in let f : 2 ^ length patch ≡ 2 ^ columns = ap (λ (n : ℕ). 2 ^ n) is.width in let sets = is.sets in
      let b = mask_some patch sets.0 sets.1 sets.2 sets.3 sets.4 in record {
        nulls = let e = q.3 in let d = bits_where-below is_to_null patch in omega arith;
        kind = inr (inl (q.1, (let m = q.0 in omega arith), (let m = q.0 in omega arith)));
        each = λ c low. record {
          within = λ bit. ap (λ (m : ℕ). has_bit m c) q.0 ∙ null_is_set patch c (ap (λ (n : ℕ). has_bit n c) (sym q.3) ∙ bit);
          null = λ bit. number_of_null patch c (let w = is.width in omega arith) (ap (λ (n : ℕ). has_bit n c) (sym q.3) ∙ bit);
          else = λ none. number_left_out patch c (let w = is.width in omega arith) (ap (λ (m : ℕ). has_bit m c) (sym q.0) ∙ none);
        };
      }
  is_cell Del is = let q = del_parts in record {
    nulls = let e = q.3 in let b = some in omega arith;
    kind = inr (inr (q.1, q.0));
    each = λ c low. record {
      within = λ bit. absurd (true≢false (sym bit ∙ (ap (λ (n : ℕ). has_bit n c) q.3 ∙ no_bits c)));
      null = λ bit. refl;
      else = λ none. refl;
    };
  }
