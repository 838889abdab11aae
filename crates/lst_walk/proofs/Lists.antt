-- Rows and patches as lists.
use Rattle.std.proofs.Common.{◌≢◌, map, ◌≡◌, ℕ, zero, suc, ◌+◌, ◌<◌, ◌≤◌, List, [], ◌∷◌, ◌++◌, Bool, true, false, cond, length, get_or, take, refl, sym, ap, ◌∙◌, arith, true≢false}
use Rattle.std.specs.Prelude.{Option, None, Some, is_some, slice_index, slice_get, slice_index_or, slice_set, unwrap_or, replicate}
use Rattle.std.specs.List.{list_all}
use Rattle.lst_model.specs.declared.acts.Act.TheVariants.{Set}
use Rattle.lst_model.specs.Cells.{Cell, number_of, number_at, cell_of, cells_of, overlaid, patched, has_bit}
use Rattle.lst_model.specs.Histories.{row_after}
use Rattle.lst_pages.specs.Rows.{cell_at, column_of}
use Rattle.lst_walk.specs.Patches.{newest, merged, cell_in, IsWide}

pub none_some : {A B : Type 0} (x : A) → None ≡ Some x → B
none_some x e = absurd (true≢false (sym (ap is_some e)))

-- ---- one more element

take_next : {A : Type 0} (k : ℕ) (ys : List A) (x : A) → slice_get ys k ≡ Some x → take k ys ++ x ∷ [] ≡ take (suc k) ys
take_next zero [] x at = none_some x at
take_next zero (y ∷ ys) x at = ap (λ z. z ∷ []) (sym (ap (λ o. unwrap_or o x) at))
take_next (suc k) [] x at = none_some x at
take_next (suc k) (y ∷ ys) x at = ap (λ zs. y ∷ zs) (take_next k ys x at)

pub take_more : {A : Type 0} (xs ys : List A) (k : ℕ) (x : A) → xs ≡ take k ys → slice_get ys k ≡ Some x → xs ++ x ∷ [] ≡ take (k + 1) ys
take_more {A} xs ys k x is at = ap (λ (zs : List A). zs ++ x ∷ []) is ∙ (take_next k ys x at ∙ ap (λ (n : ℕ). take n ys) (let e : suc k ≡ k + 1 = omega arith in e))

pub take_whole : {A : Type 0} (ys : List A) (n : ℕ) → length ys ≤ n → take n ys ≡ ys
take_whole [] zero low = refl
take_whole [] (suc n) low = refl
take_whole (y ∷ ys) zero low = absurd (omega arith)
take_whole (y ∷ ys) (suc n) low = ap (λ zs. y ∷ zs) (take_whole ys n (omega arith))

-- ---- lengths

pub length-merged : (newer older : List (Option Cell)) → length (merged newer older) ≡ length newer
length-merged [] older = refl
length-merged (x ∷ newer) [] = refl
length-merged (x ∷ newer) (y ∷ older) = ap suc (length-merged newer older)

pub length-patched : (mask c : ℕ) (values : List Cell) → length (patched mask c values) ≡ length values
length-patched mask c [] = refl
length-patched mask c (x ∷ values) = ap suc (length-patched mask (suc c) values)

pub length-unset : (n : ℕ) → length {A = Option Cell} (replicate n None) ≡ n
length-unset zero = refl
length-unset (suc n) = ap suc (length-unset n)

-- ---- elements

pub overlaid_at : (row : List Cell) (patch : List (Option Cell)) (k : ℕ) (o : Option Cell) → k < length row → slice_get patch k ≡ Some o → slice_get (overlaid row patch) k ≡ Some (unwrap_or o (get_or row k None))
overlaid_at [] patch k o low at = absurd (omega arith)
overlaid_at (cell ∷ row) [] zero o low at = none_some o at
overlaid_at (cell ∷ row) [] (suc k) o low at = none_some o at
overlaid_at (cell ∷ row) (x ∷ patch) zero o low at = ap (λ y. Some (unwrap_or y cell)) (ap (λ p. unwrap_or p o) at)
overlaid_at (cell ∷ row) (x ∷ patch) (suc k) o low at = overlaid_at row patch k o (omega arith) at

pub merged_at : (newer older : List (Option Cell)) (k : ℕ) (a b : Option Cell) → slice_get newer k ≡ Some a → slice_get older k ≡ Some b → slice_get (merged newer older) k ≡ Some (newest a b)
merged_at [] older k a b at below = none_some a at
merged_at (x ∷ newer) [] zero a b at below = none_some b below
merged_at (x ∷ newer) [] (suc k) a b at below = none_some b below
merged_at (x ∷ newer) (y ∷ older) zero a b at below = λ i. Some (newest (ap (λ p. unwrap_or p a) at i) (ap (λ p. unwrap_or p b) below i))
merged_at (x ∷ newer) (y ∷ older) (suc k) a b at below = merged_at newer older k a b at below

pub patched_at : (mask c : ℕ) (values : List Cell) (k : ℕ) → k < length values → slice_get (patched mask c values) k ≡ Some (cond (has_bit mask (c + k)) (Some (get_or values k None)) None)
patched_at mask c [] k low = absurd (omega arith)
patched_at mask c (x ∷ values) zero low = ap (λ (n : ℕ). Some (cond (has_bit mask n) (Some x) None)) (let e : c ≡ c + zero = omega arith in e)
patched_at mask c (x ∷ values) (suc k) low = patched_at mask (suc c) values k (omega arith) ∙ ap (λ (n : ℕ). Some (cond (has_bit mask n) (Some (get_or values k None)) None)) (let e : suc c + k ≡ c + suc k = omega arith in e)

-- where the newer one of two patches sets nothing and both are none, neither does
newest_none : (a b : Option Cell) → newest a b ≡ None → (a ≡ None) × (b ≡ None)
newest_none None b e = (refl, e)
newest_none (Some x) b e = none_some x (sym e)

pub merged_none : (newer older : List (Option Cell)) (k : ℕ) → length newer ≡ length older → slice_get (merged newer older) k ≡ Some None → (slice_get newer k ≡ Some None) × (slice_get older k ≡ Some None)
merged_none [] older k same at = none_some None at
merged_none (x ∷ newer) [] k same at = absurd (omega arith)
merged_none (x ∷ newer) (y ∷ older) zero same at = let q = newest_none x y (ap (λ o. unwrap_or o None) at) in (ap (λ o. Some o) q.0, ap (λ o. Some o) q.1)
merged_none (x ∷ newer) (y ∷ older) (suc k) same at = merged_none newer older k (omega arith) at

bit_none : (b : Bool) (x : Cell) → cond b (Some x) None ≡ None → b ≡ false
bit_none true x e = none_some x (sym e)
bit_none false x e = refl

-- ---- rows under patches

newest_cell : (a b : Option Cell) (cell : Cell) → unwrap_or b (unwrap_or a cell) ≡ unwrap_or (newest b a) cell
newest_cell a None cell = refl
newest_cell a (Some x) cell = refl

-- a set puts its cell where no newer one stands, and else leaves what is there
pub newest_set : (a : Option Cell) (set : Bool) (x : Cell) → is_some a ≡ false → set ≡ true → newest a (cond set (Some x) None) ≡ Some x
newest_set None true x none is = refl
newest_set None false x none is = absurd (true≢false (sym is))
newest_set (Some y) set x none is = absurd (true≢false none)

pub newest_held : (a : Option Cell) (set : Bool) (x : Cell) → is_some a ≡ true → newest a (cond set (Some x) None) ≡ a
newest_held None set x held = absurd (true≢false (sym held))
newest_held (Some y) set x held = refl

pub newest_left : (a : Option Cell) (set : Bool) (x : Cell) → set ≡ false → newest a (cond set (Some x) None) ≡ a
newest_left None true x is = absurd (true≢false is)
newest_left None false x is = refl
newest_left (Some y) set x is = refl

overlaid_twice : (row : List Cell) (newer older : List (Option Cell)) → length newer ≡ length older → overlaid (overlaid row older) newer ≡ overlaid row (merged newer older)
overlaid_twice [] newer older same = refl
overlaid_twice (cell ∷ row) [] [] same = refl
overlaid_twice (cell ∷ row) [] (a ∷ older) same = absurd (omega arith)
overlaid_twice (cell ∷ row) (b ∷ newer) [] same = absurd (omega arith)
overlaid_twice (cell ∷ row) (b ∷ newer) (a ∷ older) same = λ i. newest_cell a b cell i ∷ overlaid_twice row newer older (let e : length newer ≡ length older = omega arith in e) i

pub set_twice : (row : Option (List Cell)) (newer older : List (Option Cell)) → length newer ≡ length older → row_after (row_after row (Set older)) (Set newer) ≡ row_after row (Set (merged newer older))
set_twice None newer older same = refl
set_twice (Some row) newer older same = ap (λ (r : List Cell). Some r) (overlaid_twice row newer older same)

overlaid_unset : (row : List Cell) (n : ℕ) → overlaid row (replicate n None) ≡ row
overlaid_unset [] n = refl
overlaid_unset (cell ∷ row) zero = refl
overlaid_unset (cell ∷ row) (suc n) = ap (λ (r : List Cell). cell ∷ r) (overlaid_unset row n)

pub set_unset : (row : Option (List Cell)) (n : ℕ) → row_after row (Set (replicate n None)) ≡ row
set_unset None n = refl
set_unset (Some row) n = ap (λ (r : List Cell). Some r) (overlaid_unset row n)

-- a patch that sets each column leaves no cell of the row
overlaid_whole : (row values : List Cell) (patch : List (Option Cell)) → length row ≡ length patch → length values ≡ length patch → list_all is_some patch ≡ true → overlaid row patch ≡ overlaid values patch
overlaid_whole [] [] patch wide same all = refl
overlaid_whole [] (x ∷ values) patch wide same all = absurd (omega arith)
overlaid_whole (cell ∷ row) [] patch wide same all = absurd (omega arith)
overlaid_whole (cell ∷ row) (x ∷ values) [] wide same all = absurd (omega arith)
overlaid_whole (cell ∷ row) (x ∷ values) (None ∷ patch) wide same all = absurd (true≢false (sym all))
overlaid_whole (cell ∷ row) (x ∷ values) (Some y ∷ patch) wide same all = ap (λ (r : List Cell). y ∷ r) (overlaid_whole row values patch (let e : length row ≡ length patch = omega arith in e) (let e : length values ≡ length patch = omega arith in e) all)

pub whole_row : (columns : ℕ) (row : Option (List Cell)) (values : List Cell) (patch : List (Option Cell)) → IsWide columns row → length values ≡ columns → length patch ≡ columns → is_some row ≡ true → list_all is_some patch ≡ true → row_after row (Set patch) ≡ Some (overlaid values patch)
whole_row columns None values patch wide same few some all = absurd (true≢false (sym some))
whole_row columns (Some row) values patch wide same few some all = let w : length row ≡ columns = wide in ap (λ (r : List Cell). Some r) (overlaid_whole row values patch (omega arith) (omega arith) all)

-- ---- one column

number_unset : (row : List Cell) (patch : List (Option Cell)) (k : ℕ) → slice_get patch k ≡ Some None → number_at k (overlaid row patch) ≡ number_at k row
number_unset [] patch k at = refl
number_unset (cell ∷ row) [] k at = refl
number_unset (cell ∷ row) (x ∷ patch) zero at = ap (λ o. number_of (unwrap_or o cell)) (ap (λ p. unwrap_or p x) at)
number_unset (cell ∷ row) (x ∷ patch) (suc k) at = number_unset row patch k at

number_set : (row : List Cell) (patch : List (Option Cell)) (k : ℕ) (x : Cell) → k < length row → slice_get patch k ≡ Some (Some x) → number_at k (overlaid row patch) ≡ number_of x
number_set [] patch k x low at = absurd (omega arith)
number_set (cell ∷ row) [] zero x low at = none_some (Some x) at
number_set (cell ∷ row) [] (suc k) x low at = none_some (Some x) at
number_set (cell ∷ row) (y ∷ patch) zero x low at = ap (λ o. number_of (unwrap_or o cell)) (ap (λ p. unwrap_or p y) at)
number_set (cell ∷ row) (y ∷ patch) (suc k) x low at = number_set row patch k x (omega arith) at

pub cell_unset : (row : Option (List Cell)) (patch : List (Option Cell)) (k : ℕ) → slice_get patch k ≡ Some None → cell_in k (row_after row (Set patch)) ≡ cell_in k row
cell_unset None patch k at = refl
cell_unset (Some row) patch k at = ap (λ (n : ℕ). Some n) (number_unset row patch k at)

pub cell_set : (row : Option (List Cell)) (patch : List (Option Cell)) (columns k : ℕ) (x : Cell) → IsWide columns row → k < columns → is_some row ≡ true → slice_get patch k ≡ Some (Some x) → cell_in k (row_after row (Set patch)) ≡ Some (number_of x)
cell_set None patch columns k x wide low some at = absurd (true≢false (sym some))
cell_set (Some row) patch columns k x wide low some at = let w : length row ≡ columns = wide in ap (λ (n : ℕ). Some n) (number_set row patch k x (omega arith) at)

-- the number of a cell, and the cell that a value word stands for
pub number_here : (row : List Cell) (k : ℕ) → k < length row → number_of (get_or row k None) ≡ number_at k row
number_here [] k low = absurd (omega arith)
number_here (cell ∷ row) zero low = refl
number_here (cell ∷ row) (suc k) low = number_here row k (omega arith)

cell_here : (nulls c : ℕ) (values : List ℕ) (k : ℕ) → k < length values → get_or (cells_of nulls c values) k None ≡ cell_of nulls (c + k) (slice_index values k)
cell_here nulls c [] k low = absurd (omega arith)
cell_here nulls c (x ∷ values) zero low = ap (λ (n : ℕ). cell_of nulls n x) (let e : c ≡ c + zero = omega arith in e)
cell_here nulls c (x ∷ values) (suc k) low = cell_here nulls (suc c) values k (omega arith) ∙ ap (λ (n : ℕ). cell_of nulls n (slice_index values k)) (let e : suc c + k ≡ c + suc k = omega arith in e)

pub cell_first : (nulls : ℕ) (values : List ℕ) (k : ℕ) → k < length values → get_or (cells_of nulls 0 values) k None ≡ cell_of nulls k (slice_index values k)
cell_first nulls values k low = cell_here nulls 0 values k low ∙ ap (λ (n : ℕ). cell_of nulls n (slice_index values k)) (let e : 0 + k ≡ k = omega arith in e)

pub take_same : {A : Type 0} (n m : ℕ) (x : A) → n ≤ m → take n (replicate m x) ≡ replicate n x
take_same zero zero x low = refl
take_same zero (suc m) x low = refl
take_same (suc n) zero x low = absurd (omega arith)
take_same (suc n) (suc m) x low = ap (λ xs. x ∷ xs) (take_same n m x (omega arith))

pub patched_first : (mask : ℕ) (values : List Cell) (k : ℕ) → k < length values → slice_get (patched mask 0 values) k ≡ Some (cond (has_bit mask k) (Some (get_or values k None)) None)
patched_first mask values k low = patched_at mask 0 values k low ∙ ap (λ (n : ℕ). Some (cond (has_bit mask n) (Some (get_or values k None)) None)) (let f : 0 + k ≡ k = omega arith in f)

-- a column that a set leaves has no bit in its mask
pub patched_none : (mask : ℕ) (values : List Cell) (k : ℕ) → k < length values → slice_get (patched mask 0 values) k ≡ Some None → has_bit mask k ≡ false
patched_none mask values k low at = bit_none (has_bit mask k) (get_or values k None) (ap (λ o. unwrap_or o None) (sym (patched_first mask values k low) ∙ at))

-- ---- a patch with one more cell of the row

overlaid_known : (row : List Cell) (patch : List (Option Cell)) (k : ℕ) (cell : Cell) → k < length patch → cell_at k (overlaid row patch) ≡ cell → overlaid row (slice_set patch k (Some cell)) ≡ overlaid row patch
overlaid_known [] patch k cell low is = refl
overlaid_known (x ∷ row) [] k cell low is = absurd (omega arith)
overlaid_known (x ∷ row) (y ∷ patch) zero cell low is = ap (λ z. z ∷ overlaid row patch) (sym is)
overlaid_known (x ∷ row) (y ∷ patch) (suc k) cell low is = ap (λ r. unwrap_or y x ∷ r) (overlaid_known row patch k cell (omega arith) is)

pub set_known : (row : Option (List Cell)) (patch : List (Option Cell)) (k : ℕ) (cell : Cell) → k < length patch → column_of k (row_after row (Set patch)) ≡ Some cell → row_after row (Set (slice_set patch k (Some cell))) ≡ row_after row (Set patch)
set_known None patch k cell low is = none_some cell is
set_known (Some row) patch k cell low is = ap (λ (r : List Cell). Some r) (overlaid_known row patch k cell low (ap (λ (o : Option Cell). unwrap_or o None) is))

pub column_some : (k : ℕ) (row : Option (List Cell)) (cell : Cell) → column_of k row ≡ Some cell → is_some row ≡ true
column_some k None cell is = none_some cell is
column_some k (Some row) cell is = refl

-- no other column changes by it
overlaid_other : (row : List Cell) (patch : List (Option Cell)) (k other : ℕ) (cell : Cell) → other ≢ k → cell_at other (overlaid row (slice_set patch k (Some cell))) ≡ cell_at other (overlaid row patch)
overlaid_other [] patch k other cell ne = refl
overlaid_other (x ∷ row) [] k other cell ne = refl
overlaid_other (x ∷ row) (y ∷ patch) zero zero cell ne = absurd (ne refl)
overlaid_other (x ∷ row) (y ∷ patch) zero (suc other) cell ne = refl
overlaid_other (x ∷ row) (y ∷ patch) (suc k) zero cell ne = refl
overlaid_other (x ∷ row) (y ∷ patch) (suc k) (suc other) cell ne = overlaid_other row patch k other cell (λ e. ne (omega arith))

pub column_other : (row : Option (List Cell)) (patch : List (Option Cell)) (k other : ℕ) (cell : Cell) → other ≢ k → column_of other (row_after row (Set (slice_set patch k (Some cell)))) ≡ column_of other (row_after row (Set patch))
column_other None patch k other cell ne = refl
column_other (Some row) patch k other cell ne = ap (λ (x : Cell). Some x) (overlaid_other row patch k other cell ne)

-- a row of one cell in all columns
pub cell_same : (n k : ℕ) (cell : Cell) → k < n → cell_at k (replicate n cell) ≡ cell
cell_same zero k cell low = absurd (omega arith)
cell_same (suc n) zero cell low = refl
cell_same (suc n) (suc k) cell low = cell_same n k cell (omega arith)

-- a patch that sets each column is the row
overlaid_all : (row : List Cell) (patch : List (Option Cell)) → length row ≡ length patch → list_all is_some patch ≡ true → overlaid row patch ≡ map (λ cell. unwrap_or cell None) patch
overlaid_all [] [] same all = refl
overlaid_all [] (y ∷ patch) same all = absurd (omega arith)
overlaid_all (x ∷ row) [] same all = absurd (omega arith)
overlaid_all (x ∷ row) (None ∷ patch) same all = absurd (true≢false (sym all))
overlaid_all (x ∷ row) (Some y ∷ patch) same all = ap (λ (r : List Cell). y ∷ r) (overlaid_all row patch (let e : length row ≡ length patch = omega arith in e) all)

pub row_all : (columns : ℕ) (row : Option (List Cell)) (patch : List (Option Cell)) → IsWide columns row → length patch ≡ columns → is_some (row_after row (Set patch)) ≡ true → list_all is_some patch ≡ true → row_after row (Set patch) ≡ Some (map (λ cell. unwrap_or cell None) patch)
row_all columns None patch wide same some all = absurd (true≢false (sym some))
row_all columns (Some row) patch wide same some all = let w : length row ≡ columns = wide in ap (λ (r : List Cell). Some r) (overlaid_all row patch (omega arith) all)

-- where not each column is set, some column isn't
pub some_unset : (patch : List (Option Cell)) → list_all is_some patch ≡ false → (k : ℕ) × (k < length patch) × (slice_get patch k ≡ Some None)
some_unset [] none = absurd (true≢false none)
some_unset (None ∷ patch) none = (0, omega arith, refl)
some_unset (Some y ∷ patch) none = let q = some_unset patch none in (suc q.0, (let low = q.1 in omega arith), q.2)

pub none_set : (n : ℕ) → 0 < n → list_all is_some (replicate {A = Option Cell} n None) ≡ false
none_set zero some = absurd (omega arith)
none_set (suc n) some = refl

-- a place that is still unset is another one
pub still_unset : (patch : List (Option Cell)) (k j : ℕ) (cell : Cell) → k < length patch → slice_get (slice_set patch k (Some cell)) j ≡ Some None → (slice_get patch j ≡ Some None) × (j ≢ k)
still_unset [] k j cell low at = absurd (omega arith)
still_unset (y ∷ patch) zero zero cell low at = none_some cell (sym (ap (λ o. unwrap_or o None) at))
still_unset (y ∷ patch) zero (suc j) cell low at = (at, λ e. omega arith)
still_unset (y ∷ patch) (suc k) zero cell low at = (at, λ e. omega arith)
still_unset (y ∷ patch) (suc k) (suc j) cell low at = let q = still_unset patch k j cell (omega arith) at in (q.0, λ e. q.1 (omega arith))

-- a cell of the row of a patch
pub filled_at : (patch : List (Option Cell)) (k : ℕ) → k < length patch → slice_get (map (λ cell. unwrap_or cell None) patch) k ≡ Some (unwrap_or (slice_index_or patch k None) None)
filled_at [] k low = absurd (omega arith)
filled_at (y ∷ patch) zero low = refl
filled_at (y ∷ patch) (suc k) low = filled_at patch k (omega arith)
