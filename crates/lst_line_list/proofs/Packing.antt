-- The bits and the numbers of a patch: with one more column, with one more column set, and of the row that it makes.
use Rattle.std.proofs.Common.{◌≡◌, ℕ, zero, suc, ◌+◌, ◌*◌, ◌-◌, ◌/◌, ◌%◌, ◌^◌, ◌<◌, ◌≤◌, Bool, true, false, not, ◌||◌, cond, eqb, List, [], ◌∷◌, ◌++◌, length, get_or, set, map, Option, Some, None, refl, sym, subst, ap, ◌∙◌, arith, take, drop}
use Rattle.std.proofs.Math.Nat.{pow-succ', pow-le-pow_right}
use Rattle.std.proofs.lemmas.Nat.{one_shl, and_mask}
use Rattle.std.proofs.lemmas.Bool.{true≢false, ne_eqb}
use Rattle.std.proofs.lemmas.List.{map-append, map-set, length-map, length-set, length_push, append-nil, drop_all, take_all}
use Rattle.std.specs.Prelude.{bit_and, is_none, is_some, unwrap_or}
use Rattle.std.specs.List.{list_any, refill}
use Rattle.lst_model.specs.Cells.{Cell, number_of, has_bit, cells_of, patched, bits_where, null_bits, is_to_null, bits_to_null, bits_set, changed_number}
use Rattle.lst_model.specs.CellLaws.{bits_where-below, bits_where-snoc}
use Rattle.lst_model.proofs.Cells.{patch_is_patched, bit_of}
use Rattle.lst_line_list.specs.Packed.{patch_of, ArePacked}

-- what is written over all the places is there
pub refilled : {X : Type 0} (xs ys : List X) → length ys ≡ length xs → take (length xs) (ys ++ drop (length ys) xs) ≡ ys
refilled xs ys e = ap (λ rest. take (length xs) (ys ++ rest)) (drop_all (length ys) xs (omega arith)) ∙ (ap (take (length xs)) (append-nil ys) ∙ take_all (length xs) ys (omega arith))

-- numbers with the bits of a patch tell that patch
pub record Tells (set nulls : ℕ) (numbers : List ℕ) (patch : List (Option Cell)) : Type 0 where
  pub are : ArePacked set nulls numbers (patch_of set nulls numbers)
  pub tells : patch_of set nulls numbers ≡ patch

pub told : (set nulls : ℕ) (numbers : List ℕ) (patch : List (Option Cell)) → ArePacked set nulls numbers patch → Tells set nulls numbers patch
told set nulls numbers patch are =
    let is : patch_of set nulls numbers ≡ patch = (λ j. patched (are.sets j) 0 (cells_of (are.null j) 0 (are.are j))) ∙ patch_is_patched patch in
    record { are = subst (λ (p : List (Option Cell)). ArePacked set nulls numbers p) (sym is) are; tells = is }

-- ---- one more column

pub pushed : (set nulls more_set more_nulls : ℕ) (numbers : List ℕ) (patch : List (Option Cell)) (change : Option Cell) → ArePacked set nulls numbers patch → length patch < 8
    → more_set ≡ set + cond (is_some change) (2 ^ length patch) 0 → more_nulls ≡ nulls + cond (is_to_null change) (2 ^ length patch) 0
    → Tells more_set more_nulls (numbers ++ changed_number change ∷ []) (patch ++ change ∷ [])
pushed set nulls more_set more_nulls numbers patch change are low sets null = told more_set more_nulls (numbers ++ changed_number change ∷ []) (patch ++ change ∷ []) (record {
  sets = sets ∙ (ap (λ n. n + cond (is_some change) (2 ^ length patch) 0) are.sets ∙ sym (bits_where-snoc is_some patch change));
  null = null ∙ (ap (λ n. n + cond (is_to_null change) (2 ^ length patch) 0) are.null ∙ sym (bits_where-snoc is_to_null patch change));
  are = ap (λ (ns : List ℕ). ns ++ changed_number change ∷ []) are.are ∙ sym (map-append changed_number patch (change ∷ []));
  few = omega (arith, length_push patch change, low);
})

-- ---- one more column set

module _ {A : Type 0} (test : A → Bool) where
  bits_set_at : (items : List A) (c : ℕ) (item other : A) → c < length items → test (get_or items c other) ≡ false → bits_where test (set items c item) ≡ bits_where test items + cond (test item) (2 ^ c) 0
  bits_set_at [] c item other low free = absurd (omega arith)
  bits_set_at (first ∷ items) zero item other low free = by (test first) (test item) free
    where
      by : (a b : Bool) → a ≡ false → cond b 1 0 + 2 * bits_where test items ≡ (cond a 1 0 + 2 * bits_where test items) + cond b (2 ^ 0) 0
      by true b is = absurd (true≢false is)
      by false true is = omega arith
      by false false is = omega arith
  bits_set_at (first ∷ items) (suc c) item other low free = by (test item) (bits_set_at items c item other (omega arith) free) (pow-succ' 2 c)
    where
      by : (b : Bool) → bits_where test (set items c item) ≡ bits_where test items + cond b (2 ^ c) 0 → 2 ^ suc c ≡ 2 * 2 ^ c
          → cond (test first) 1 0 + 2 * bits_where test (set items c item) ≡ (cond (test first) 1 0 + 2 * bits_where test items) + cond b (2 ^ suc c) 0
      by true rest p = omega arith
      by false rest p = omega arith

-- a column that isn't set doesn't become null
kept_not_null : (change : Option Cell) → is_some change ≡ false → is_to_null change ≡ false
kept_not_null None is = refl
kept_not_null (Some cell) is = absurd (true≢false is)

kept_number : (change : Option Cell) → is_some change ≡ false → changed_number change ≡ 0
kept_number None is = refl
kept_number (Some cell) is = absurd (true≢false is)

-- a number that is there already needn't be written
same_number : (patch : List (Option Cell)) (c : ℕ) → c < length patch → is_some (get_or patch c None) ≡ false → set (map changed_number patch) c 0 ≡ map changed_number patch
same_number [] c low free = absurd (omega arith)
same_number (change ∷ patch) zero low free = ap (λ n. n ∷ map changed_number patch) (sym (kept_number change free))
same_number (change ∷ patch) (suc c) low free = ap (λ (ns : List ℕ). changed_number change ∷ ns) (same_number patch c (omega arith) free)

module _ (set_bits nulls more_set more_nulls : ℕ) (numbers : List ℕ) (patch : List (Option Cell)) (c : ℕ) (are : ArePacked set_bits nulls numbers patch)
    (low : c < length patch) (free : is_some (get_or patch c None) ≡ false) (sets : more_set ≡ set_bits + 2 ^ c) where
  set_is : (cell : Cell) → more_set ≡ bits_set (set patch c (Some cell))
  set_is cell = sets ∙ (ap (λ n. n + 2 ^ c) are.sets ∙ sym (bits_set_at is_some patch c (Some cell) None low free))

  null_is : (cell : Cell) → more_nulls ≡ nulls + cond (is_none cell) (2 ^ c) 0 → more_nulls ≡ bits_to_null (set patch c (Some cell))
  null_is cell null = null ∙ (ap (λ n. n + cond (is_none cell) (2 ^ c) 0) are.null ∙ sym (bits_set_at is_to_null patch c (Some cell) None low (kept_not_null (get_or patch c None) free)))

  pub set_to_number : (number : ℕ) → more_nulls ≡ nulls → Tells more_set more_nulls (set numbers c number) (set patch c (Some (Some number)))
  set_to_number number null = told more_set more_nulls (set numbers c number) (set patch c (Some (Some number))) (record {
    sets = set_is (Some number);
    null = null_is (Some number) (omega (arith, null));
    are = ap (λ (ns : List ℕ). set ns c number) are.are ∙ sym (map-set changed_number patch c (Some (Some number)));
    few = omega (arith, length-set patch c (Some (Some number)), are.few);
  })

  pub set_to_null : more_nulls ≡ nulls + 2 ^ c → Tells more_set more_nulls numbers (set patch c (Some None))
  set_to_null null = told more_set more_nulls numbers (set patch c (Some None)) (record {
    sets = set_is None;
    null = null_is None null;
    are = are.are ∙ (sym (same_number patch c low free) ∙ sym (map-set changed_number patch c (Some None)));
    few = omega (arith, length-set patch c (Some None), are.few);
  })

-- a bit more is within eight bits
pub bits_fit : (test : Option Cell → Bool) (patch : List (Option Cell)) (c : ℕ) (item : Option Cell) → c < length patch → length patch ≤ 8 → test (get_or patch c None) ≡ false → test item ≡ true → bits_where test patch + 2 ^ c < 256
bits_fit test patch c item low few free is =
    let more : bits_where test (set patch c item) ≡ bits_where test patch + 2 ^ c = bits_set_at test patch c item None low free ∙ ap (λ b. bits_where test patch + cond b (2 ^ c) 0) is in
    let below = bits_where-below test (set patch c item) in
    let up : 2 ^ length (set patch c item) ≤ 2 ^ 8 = pow-le-pow_right {n = 2} (omega arith) {i = length (set patch c item)} {j = 8} (omega (arith, length-set patch c item, few)) in
    omega (arith, more, below, up)

pub bits_fit_more : (test : Option Cell → Bool) (patch : List (Option Cell)) → length patch < 8 → bits_where test patch + 2 ^ length patch < 256
bits_fit_more test patch few =
    let below = bits_where-below test patch in
    let up : 2 ^ length patch ≤ 2 ^ 7 = pow-le-pow_right {n = 2} (omega arith) {i = length patch} {j = 7} (omega (arith, few)) in
    omega (arith, below, up)

-- ---- whether one is set

pub any_bit : {A : Type 0} (test : A → Bool) (items : List A) → not (eqb (bits_where test items) 0) ≡ list_any test items
any_bit test [] = refl
any_bit test (item ∷ items) = by (test item) (any_bit test items)
  where
    by : (b : Bool) → not (eqb (bits_where test items) 0) ≡ list_any test items → not (eqb (cond b 1 0 + 2 * bits_where test items) 0) ≡ b || list_any test items
    by true rest = ap not (ne_eqb (1 + 2 * bits_where test items) 0 (λ is. absurd (omega (arith, is))))
    by false rest = doubled (bits_where test items) ∙ rest
      where
        doubled : (n : ℕ) → not (eqb (0 + 2 * n) 0) ≡ not (eqb n 0)
        doubled zero = refl
        doubled (suc n) = ap not (ne_eqb (0 + 2 * suc n) 0 (λ is. absurd (omega (arith, is))) ∙ sym (ne_eqb (suc n) 0 (λ is. absurd (omega (arith, is)))))

-- ---- the row that a patch makes

abbrev pub row_made : List (Option Cell) → List Cell
row_made patch = map (λ change. unwrap_or change None) patch

pub row_bits : (patch : List (Option Cell)) → null_bits (row_made patch) + bits_set patch + 1 ≡ 2 ^ length patch + bits_to_null patch
row_bits [] = refl
row_bits (change ∷ patch) = by change (null_bits (row_made patch)) (bits_set patch) (bits_to_null patch) (row_bits patch) (pow-succ' 2 (length patch))
  where
    by : (change : Option Cell) (a b d : ℕ) → a + b + 1 ≡ 2 ^ length patch + d → 2 ^ suc (length patch) ≡ 2 * 2 ^ length patch
        → (cond (is_none (unwrap_or change None)) 1 0 + 2 * a) + (cond (is_some change) 1 0 + 2 * b) + 1 ≡ 2 ^ suc (length patch) + (cond (is_to_null change) 1 0 + 2 * d)
    by None a b d h p = omega arith
    by (Some None) a b d h p = omega arith
    by (Some (Some number)) a b d h p = omega arith

pub row_numbers : (patch : List (Option Cell)) → map number_of (row_made patch) ≡ map changed_number patch
row_numbers [] = refl
row_numbers (change ∷ patch) = λ j. same change j ∷ row_numbers patch j
  where
    same : (change : Option Cell) → number_of (unwrap_or change None) ≡ changed_number change
    same None = refl
    same (Some cell) = refl

-- ---- a packed patch, as it is kept

pub same_tells : (set nulls : ℕ) (numbers others : List ℕ) (patch other : List (Option Cell)) → Tells set nulls numbers patch → others ≡ numbers → other ≡ patch → Tells set nulls others other
same_tells set nulls numbers others patch other tells ns ps =
    subst (λ (p : List (Option Cell)). Tells set nulls others p) (sym ps) (subst (λ (k : List ℕ). Tells set nulls k patch) (sym ns) tells)

-- a bit by its place
pub bit_at : (place size : ℕ) → place ≡ size → size < 8 → (1 * 2 ^ place) % 256 ≡ 2 ^ size
bit_at place size is low = let bit : (1 * 2 ^ place) % 2 ^ 8 ≡ 2 ^ place = one_shl place 8 (omega (arith, is, low)) in bit ∙ ap (λ k. 2 ^ k) is

-- what is written at a place is there
pub written : (xs ys : List ℕ) (c x : ℕ) → ys ≡ xs → refill (length xs) xs (set ys c x) ≡ set xs c x
written xs ys c x is = ap (λ (zs : List ℕ). refill (length xs) xs (set zs c x)) is ∙ refilled xs (set xs c x) (length-set xs c x)

module _ (set_bits nulls : ℕ) (numbers : List ℕ) (patch : List (Option Cell)) (is : patch_of set_bits nulls numbers ≡ patch) (made : ArePacked set_bits nulls numbers (patch_of set_bits nulls numbers)) where
  pub own : ArePacked set_bits nulls numbers patch
  own = subst (λ (p : List (Option Cell)). ArePacked set_bits nulls numbers p) is made

  pub wide : length patch ≡ length numbers
  wide = sym (length-map patch changed_number) ∙ sym (ap length own.are)

  -- one more column
  module _ (low : length patch < 8) where
    place_bit : (place : ℕ) → place ≡ length numbers → (1 * 2 ^ place) % 256 ≡ 2 ^ length patch
    place_bit place at = bit_at place (length patch) (at ∙ sym wide) low

    pub push_set_fits : (place : ℕ) → place ≡ length numbers → set_bits + (1 * 2 ^ place) % 256 < 256
    push_set_fits place at = omega (arith, place_bit place at, bits_fit_more is_some patch low, own.sets)

    pub push_null_fits : (place : ℕ) → place ≡ length numbers → nulls + (1 * 2 ^ place) % 256 < 256
    push_null_fits place at = omega (arith, place_bit place at, bits_fit_more is_to_null patch low, own.null)

    pub push_kept : (longer : List ℕ) (change : Option Cell) → longer ≡ numbers ++ 0 ∷ [] → change ≡ None → Tells set_bits nulls longer (patch ++ change ∷ [])
    push_kept longer change ns is_none = same_tells set_bits nulls (numbers ++ 0 ∷ []) longer (patch ++ None ∷ []) (patch ++ change ∷ [])
        (pushed set_bits nulls set_bits nulls numbers patch None own low (omega arith) (omega arith)) ns (ap (λ (x : Option Cell). patch ++ x ∷ []) is_none)

    pub push_null : (place other : ℕ) → place ≡ length numbers → other ≡ length numbers → (longer : List ℕ) (change : Option Cell) → longer ≡ numbers ++ 0 ∷ [] → change ≡ Some None
        → Tells (set_bits + (1 * 2 ^ place) % 256) (nulls + (1 * 2 ^ other) % 256) longer (patch ++ change ∷ [])
    push_null place other at at_other longer change ns is_null = same_tells (set_bits + (1 * 2 ^ place) % 256) (nulls + (1 * 2 ^ other) % 256) (numbers ++ 0 ∷ []) longer (patch ++ Some None ∷ []) (patch ++ change ∷ [])
        (pushed set_bits nulls (set_bits + (1 * 2 ^ place) % 256) (nulls + (1 * 2 ^ other) % 256) numbers patch (Some None) own low
        (ap (λ n. set_bits + n) (place_bit place at)) (ap (λ n. nulls + n) (place_bit other at_other))) ns (ap (λ (x : Option Cell). patch ++ x ∷ []) is_null)

    pub push_number : (place number : ℕ) → place ≡ length numbers → (longer : List ℕ) (change : Option Cell) → longer ≡ numbers ++ number ∷ [] → change ≡ Some (Some number)
        → Tells (set_bits + (1 * 2 ^ place) % 256) nulls longer (patch ++ change ∷ [])
    push_number place number at longer change ns is_number = same_tells (set_bits + (1 * 2 ^ place) % 256) nulls (numbers ++ number ∷ []) longer (patch ++ Some (Some number) ∷ []) (patch ++ change ∷ [])
        (pushed set_bits nulls (set_bits + (1 * 2 ^ place) % 256) nulls numbers patch (Some (Some number)) own low
        (ap (λ n. set_bits + n) (place_bit place at)) (omega arith)) ns (ap (λ (x : Option Cell). patch ++ x ∷ []) is_number)

  -- a column
  module _ (c : ℕ) (low : c < length patch) where
    pub place_fits : c < 8
    place_fits = omega (arith, low, own.few)

    pub bit_is_set : eqb (bit_and (set_bits / 2 ^ c) 1) 1 ≡ is_some (get_or patch c None)
    bit_is_set = ap (λ m. eqb m 1) (and_mask (set_bits / 2 ^ c) 1) ∙ (ap (λ n. has_bit n c) own.sets ∙ bit_of is_some patch c None low)

    module _ (free : is_some (get_or patch c None) ≡ false) where
      column_bit : (1 * 2 ^ c) % 256 ≡ 2 ^ c
      column_bit = bit_at c c refl place_fits

      pub set_fits : set_bits + (1 * 2 ^ c) % 256 < 256
      set_fits = omega (arith, column_bit, bits_fit is_some patch c (Some None) low own.few free refl, own.sets)

      pub null_fits : nulls + (1 * 2 ^ c) % 256 < 256
      null_fits = omega (arith, column_bit, bits_fit is_to_null patch c (Some None) low own.few (kept_not_null (get_or patch c None) free) refl, own.null)

      pub number_set : (number : ℕ) (after : List ℕ) (cell : Cell) → after ≡ set numbers c number → cell ≡ Some number → Tells (set_bits + (1 * 2 ^ c) % 256) nulls after (set patch c (Some cell))
      number_set number after cell ns is_number = same_tells (set_bits + (1 * 2 ^ c) % 256) nulls (set numbers c number) after (set patch c (Some (Some number))) (set patch c (Some cell))
          (set_to_number set_bits nulls (set_bits + (1 * 2 ^ c) % 256) nulls numbers patch c own low free (ap (λ n. set_bits + n) column_bit) number refl) ns (ap (λ (x : Cell). set patch c (Some x)) is_number)

      pub null_set : (cell : Cell) → cell ≡ None → Tells (set_bits + (1 * 2 ^ c) % 256) (nulls + (1 * 2 ^ c) % 256) numbers (set patch c (Some cell))
      null_set cell is_null = same_tells (set_bits + (1 * 2 ^ c) % 256) (nulls + (1 * 2 ^ c) % 256) numbers numbers (set patch c (Some None)) (set patch c (Some cell))
          (set_to_null set_bits nulls (set_bits + (1 * 2 ^ c) % 256) (nulls + (1 * 2 ^ c) % 256) numbers patch c own low free (ap (λ n. set_bits + n) column_bit) (ap (λ n. nulls + n) column_bit)) refl (ap (λ (x : Cell). set patch c (Some x)) is_null)

  -- the null columns of the row
  module _ (size set_too : ℕ) (sized : size ≡ length numbers) (sets : set_too ≡ set_bits) where
    columns_bit : (1 * 2 ^ size) % 4294967296 ≡ 2 ^ length patch
    columns_bit = let bit : (1 * 2 ^ size) % 2 ^ 32 ≡ 2 ^ size = one_shl size 32 (omega (arith, sized, wide, own.few)) in bit ∙ ap (λ k. 2 ^ k) (sized ∙ sym wide)

    pub sets_within : set_too ≤ (1 * 2 ^ size) % 4294967296 - 1
    sets_within = omega (arith, columns_bit, bits_where-below is_some patch, own.sets, sets)

    module _ (nulls_too : ℕ) (null : nulls_too ≡ nulls) where
      pub row_is : (1 * 2 ^ size) % 4294967296 - 1 - set_too + nulls_too ≡ null_bits (row_made patch)
      row_is = omega (arith, columns_bit, bits_where-below is_some patch, own.sets, own.null, sets, null, row_bits patch)

      pub row_fits : (1 * 2 ^ size) % 4294967296 - 1 - set_too + nulls_too ≤ 255
      row_fits =
          let up : 2 ^ length (row_made patch) ≤ 2 ^ 8 = pow-le-pow_right {n = 2} (omega arith) {i = length (row_made patch)} {j = 8} (omega (arith, length-map patch (λ (change : Option Cell). unwrap_or change None), own.few)) in
          omega (arith, row_is, bits_where-below is_none (row_made patch), up)
