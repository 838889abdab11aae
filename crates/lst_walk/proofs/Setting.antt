-- Columns that a patch is known to set.
use Rattle.std.proofs.Common.{[], ◌∷◌, zero, suc, ◌≡◌, ◌≢◌, ℕ, ◌+◌, ◌<◌, List, Bool, true, false, cond, length, refl, sym, subst, ap, ◌∙◌, arith, eqb-true, true≢false}
use Rattle.std.specs.Prelude.{Option, None, Some, slice_get, bit_or}
use Rattle.std.specs.Int.{bit_at}
use Rattle.std.proofs.lemmas.Nat.Bits.{bit_at_or, bit_at-zero, bit_at-lt}
use Rattle.lst_model.specs.Cells.{Cell, cells_of, patched, has_bit}
use Rattle.lst_bits.specs.Encodings.{HasColumn}
use Rattle.lst_walk.specs.Patches.{merged, newest, AreSet}
use Rattle.lst_model.specs.CellLaws.{length-cells_of}
use Rattle.lst_walk.proofs.Lists.{length-patched, merged_none, patched_none, none_some}
use Rattle.lst_walk.proofs.Acting.{bit_set}

-- no column is known to be set
pub none_known : (mask : ℕ) (patch : List (Option Cell)) → mask ≡ 0 → AreSet mask patch
none_known mask patch is column held none = let e = ap (λ (m : ℕ). bit_at m column) is ∙ bit_at-zero column in omega arith

-- a mask that another one has is told by it
held_of : (mask set column : ℕ) → bit_or mask set ≡ set → has_bit mask column ≡ true → HasColumn set column
held_of mask set column all bit =
    let e = sym (ap (λ (m : ℕ). bit_at m column) all) ∙ bit_at_or mask set column in let one : bit_at mask column ≡ 1 = eqb-true (bit_at mask column) 1 bit in
    let l = bit_at-lt set column in omega arith

-- ---- a set of columns that are set already adds nothing

head_is : (x : Option Cell) (b : Bool) (item : Cell) → (b ≡ true → x ≢ None) → newest x (cond b (Some item) None) ≡ x
head_is (Some x) b item set = refl
head_is None true item set = absurd (set refl refl)
head_is None false item set = refl

adds_nothing : (mask k : ℕ) (patch : List (Option Cell)) (cells : List Cell) → ((column at : ℕ) → at ≡ k + column → has_bit mask at ≡ true → slice_get patch column ≢ Some None) → merged patch (patched mask k cells) ≡ patch
adds_nothing mask k [] cells set = refl
adds_nothing mask k (x ∷ patch) [] set = refl
adds_nothing mask k (x ∷ patch) (item ∷ cells) set =
    ap (λ (o : Option Cell). o ∷ merged patch (patched mask (suc k) cells)) (head_is x (has_bit mask k) item (λ bit none. set 0 k (omega arith) bit (ap (λ o. Some o) none)))
    ∙ ap (λ (os : List (Option Cell)). x ∷ os) (adds_nothing mask (suc k) patch cells (λ column at e bit. set (suc column) at (omega (arith, e)) bit))

pub set_still : (mask set : ℕ) (patch : List (Option Cell)) (cells : List Cell) → bit_or mask set ≡ set → AreSet set patch → merged patch (patched mask 0 cells) ≡ patch
set_still mask set patch cells all known = adds_nothing mask 0 patch cells (λ column at e bit. let is : at ≡ column = omega (arith, e) in known column (held_of mask set column all (subst (λ (n : ℕ). has_bit mask n ≡ true) is bit)))

-- ---- more of them are set

pub set_more : (mask set : ℕ) (patch more : List (Option Cell)) → AreSet set patch → ((column : ℕ) → slice_get more column ≡ Some None → (slice_get patch column ≡ Some None) × (has_bit mask column ≡ false)) → AreSet (bit_or set mask) more
set_more mask set patch more known left column held none =
    let l = left column none in
    let e = sym (bit_at_or set mask column) ∙ held in
    let clear : bit_at mask column ≢ 1 = (λ one. true≢false (sym (bit_set mask column one) ∙ l.1)) in
    let a = bit_at-lt set column in let b = bit_at-lt mask column in
    known column (omega (arith, clear)) l.0

pub cells_wide : (columns : ℕ) (patch : List (Option Cell)) (nulls : ℕ) (values : List ℕ) → length values ≡ columns → length patch ≡ columns → length patch ≡ length (cells_of nulls 0 values)
cells_wide columns patch nulls values width wide = wide ∙ sym (length-cells_of nulls 0 values ∙ width)

-- what is left unset by a patch and an older set was so in both
pub set_left : (mask : ℕ) (cells : List Cell) (patch more : List (Option Cell)) → length patch ≡ length cells → more ≡ merged patch (patched mask 0 cells)
    → (column : ℕ) → slice_get more column ≡ Some None → (slice_get patch column ≡ Some None) × (has_bit mask column ≡ false)
set_left mask cells patch more wide made column none =
    let p = length-patched mask 0 cells in let q = merged_none patch (patched mask 0 cells) column (omega arith) (ap (λ xs. slice_get xs column) (sym made) ∙ none) in
    let low = low_of (patched mask 0 cells) column None q.1 in (q.0, patched_none mask cells column (omega arith) q.1)
  where
    low_of : {A : Type 0} (xs : List A) (k : ℕ) (x : A) → slice_get xs k ≡ Some x → k < length xs
    low_of [] k x at = none_some x at
    low_of (y ∷ xs) zero x at = omega arith
    low_of (y ∷ xs) (suc k) x at = let r = low_of xs k x at in omega arith
