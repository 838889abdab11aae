-- The row of a chain, version by version.
use Rattle.std.proofs.Common.{◌≡◌, ℕ, ◌<◌, List, [], ◌∷◌, ◌++◌, Bool, true, false, cond, eqb, length, map, refl, sym, subst, ap, ◌∙◌, true≢false}
use Rattle.std.specs.Prelude.{Option, None, Some, is_some, unwrap_or, replicate}
use Rattle.std.specs.List.{list_all}
use Rattle.std.proofs.lemmas.List.{length-replicate}
use Rattle.lst_layout.specs.declared.limits.Limits.{Limits}
use Rattle.lst_model.specs.declared.acts.Act.{Act}
use Rattle.lst_model.specs.declared.acts.Act.TheVariants.{Put, Set, Del}
use Rattle.lst_model.specs.Cells.{Cell, cells_of, patched}
use Rattle.lst_model.specs.Histories.{row_after, row_from}
use Rattle.lst_model.specs.Soundness.{Fits, FitInTurn}
use Rattle.lst_model.proofs.Folds.{row_from-append}
use Rattle.lst_core_state.specs.declared.known.Known.{Known}
use Rattle.lst_rule.specs.Copies.{Version, AreVersionsOf}
use Rattle.lst_rule.specs.Seen.{sees, act_by, seen_acts}
use Rattle.lst_walk.specs.Patches.{seen_after, IsWide}
use Rattle.lst_pages.specs.Rows.{cell_at, column_of}
use Rattle.lst_walk.proofs.Lists.{row_all, cell_same}
use Rattle.lst_model.specs.CellLaws.{length-cells_of}
use Rattle.lst_model.proofs.Overlays.{length-overlaid}
use Rattle.lst_core_state.specs.Cells.{act_of, act_with, mask_of, kind_of, nulls_of}

-- the newest version acts on the row of the older ones
pub row_step : (v : Known) (s : ℕ) (c : Version) (cs : List Version) → row_from None (seen_acts v s (c ∷ cs)) ≡ seen_after v s c (row_from None (seen_acts v s cs))
row_step v s c cs = choose (sees v s c.writer)
  where
    choose : (b : Bool) → row_from None (cond b (seen_acts v s cs ++ act_by c ∷ []) (seen_acts v s cs)) ≡ cond b (row_after (row_from None (seen_acts v s cs)) (act_by c)) (row_from None (seen_acts v s cs))
    choose true = row_from-append None (seen_acts v s cs) (act_by c ∷ [])
    choose false = refl

turn_front : (row : Option (List Cell)) (xs ys : List Act) → FitInTurn row (xs ++ ys) → FitInTurn row xs
turn_front row [] ys turn = tt
turn_front row (x ∷ xs) ys turn = (turn.0, turn_front (row_after row x) xs ys turn.1)

turn_last : (row : Option (List Cell)) (xs : List Act) (a : Act) → FitInTurn row (xs ++ a ∷ []) → Fits (row_from row xs) a
turn_last row [] a turn = turn.0
turn_last row (x ∷ xs) a turn = turn_last (row_after row x) xs a turn.1

-- the acts of the older versions fit, and what is seen of the newest fits the row that they make
pub fit_step : (v : Known) (s : ℕ) (c : Version) (cs : List Version) → FitInTurn None (seen_acts v s (c ∷ cs)) → FitInTurn None (seen_acts v s cs) × (sees v s c.writer ≡ true → Fits (row_from None (seen_acts v s cs)) (act_by c))
fit_step v s c cs = choose (sees v s c.writer)
  where
    choose : (b : Bool) → FitInTurn None (cond b (seen_acts v s cs ++ act_by c ∷ []) (seen_acts v s cs)) → FitInTurn None (seen_acts v s cs) × (b ≡ true → Fits (row_from None (seen_acts v s cs)) (act_by c))
    choose true turn = (turn_front None (seen_acts v s cs) (act_by c ∷ []) turn, λ _. turn_last None (seen_acts v s cs) (act_by c) turn)
    choose false turn = (turn, λ e. absurd (true≢false (sym e)))

-- a set fits a row only
pub set_fits : (row : Option (List Cell)) (patch : List (Option Cell)) → Fits row (Set patch) → is_some row ≡ true
set_fits None patch fit = absurd fit
set_fits (Some row) patch fit = refl

-- the act of an encoding word
act_words : (e : ℕ) (values : List ℕ) → act_of e values ≡ act_with (kind_of e) (mask_of e) (cells_of (nulls_of e) 0 values)
unfolding act_of
act_words e values = refl

-- rows have as many columns as the table
wide_for : (columns mask : ℕ) (put set : Bool) (cells : List Cell) (row : Option (List Cell)) → length cells ≡ columns → IsWide columns row → IsWide columns (row_after row (cond put (Put cells) (cond set (Set (patched mask 0 cells)) Del)))
wide_for columns mask true set cells row wide is = wide
wide_for columns mask false true cells None wide is = tt
wide_for columns mask false true cells (Some row) wide is = length-overlaid row _ ∙ is
wide_for columns mask false false cells row wide is = tt

pub wide_row : (l : Limits) (rec : ℕ) (v : Known) (s : ℕ) (cs : List Version) → AreVersionsOf l rec cs → IsWide l.columns (row_from None (seen_acts v s cs))
wide_row l rec v s [] are = tt
wide_row l rec v s (c ∷ cs) are = subst (λ (r : Option (List Cell)). IsWide l.columns r) (sym (row_step v s c cs)) (choose (sees v s c.writer) (wide_row l rec v s cs are.1))
  where
    choose : (b : Bool) → IsWide l.columns (row_from None (seen_acts v s cs)) → IsWide l.columns (cond b (row_after (row_from None (seen_acts v s cs)) (act_by c)) (row_from None (seen_acts v s cs)))
    choose true is = subst (λ (a : Act). IsWide l.columns (row_after (row_from None (seen_acts v s cs)) a)) (sym (act_words c.encoding c.values))
        (wide_for l.columns (mask_of c.encoding) (eqb (kind_of c.encoding) 1) (eqb (kind_of c.encoding) 2) (cells_of (nulls_of c.encoding) 0 c.values) (row_from None (seen_acts v s cs)) (length-cells_of (nulls_of c.encoding) 0 c.values ∙ are.0.wide) is)
    choose false is = is

-- ---- acts that make the same of a column as a patch that sets each

module _ (columns column : ℕ) (acts : List Act) (patch : List (Option Cell)) (low : column < columns) (few : length patch ≡ columns) (all : list_all is_some patch ≡ true) (made : (older : Option (List Cell)) → column_of column (row_from older acts) ≡ column_of column (row_after older (Set patch))) where
  abbrev row : List Cell
  row = map (λ cell. unwrap_or cell None) patch

  of_row : (older : List Cell) → length older ≡ columns → column_of column (row_from (Some older) acts) ≡ Some (cell_at column (map (λ cell. unwrap_or cell None) patch))
  of_row older wide = made (Some older) ∙ ap (column_of column) (row_all columns (Some older) patch wide few refl all)

  of_cell : (cell : Cell) → column_of column (row_from (Some (replicate columns cell)) acts) ≡ Some (cell_at column (map (λ c. unwrap_or c None) patch))
  of_cell cell = of_row (replicate columns cell) (length-replicate columns cell)

  some_of : {A : Type 0} (o : Option A) (x : A) → o ≡ None → o ≡ Some x → ⊥
  some_of o x none some = true≢false (sym (ap is_some (sym none ∙ some)))

  -- they fit no missing row
  none_fits : (xs : List Act) → acts ≡ xs → FitInTurn None xs → ⊥
  none_fits [] is turn = some_of None 0 refl (sym (cell_same columns column None low) ∙ (same ∙ cell_same columns column (Some 0) low))
    where
      at : (cell : Cell) → cell_at column (replicate columns cell) ≡ cell_at column row
      at cell = ap (λ (o : Option Cell). unwrap_or o None) (ap (λ (xs : List Act). column_of column (row_from (Some (replicate columns cell)) xs)) (sym is) ∙ of_cell cell)

      same : cell_at column (replicate columns None) ≡ cell_at column (replicate columns (Some 0))
      same = at None ∙ sym (at (Some 0))
  none_fits (Put cells ∷ xs) is turn = some_of (column_of column (row_from (Some cells) xs)) (cell_at column row)
      (ap (λ (ys : List Act). column_of column (row_from None ys)) (sym is) ∙ made None)
      (ap (λ (ys : List Act). column_of column (row_from (Some (replicate columns None)) ys)) (sym is) ∙ of_cell None)
  none_fits (Set changes ∷ xs) is turn = turn.0
  none_fits (Del ∷ xs) is turn = turn.0

  pub whole_decided : (older : Option (List Cell)) → IsWide columns older → FitInTurn older acts → column_of column (row_from older acts) ≡ column_of column (Some (map (λ cell. unwrap_or cell None) patch))
  whole_decided (Some older) wide turn = of_row older wide
  whole_decided None wide turn = absurd (none_fits acts refl turn)
