-- A line that is kept, alone and behind others.
use Rattle.std.proofs.Common.{◌≡◌, ℕ, suc, ◌+◌, ◌<◌, ◌≤◌, List, [], ◌∷◌, ◌++◌, length, take, drop, map, get_or, Option, Some, refl, sym, subst, ap, ◌∙◌, arith, length-append, length-drop, append_assoc}
use Rattle.std.proofs.lemmas.List.{take-append-le, drop-append-le, take_all, drop_at, length-map, map-append}
use Rattle.std.proofs.lemmas.List.Elements.{All-head, All-tail, All-same, All-push, All-weaker, All-get_or}
use Rattle.std.proofs.lemmas.Option.{slice_get-map, slice_get-get_or}
use Rattle.std.specs.Prelude.{slice_get, option_map}
use Rattle.std.specs.List.{All}
use Rattle.lst_model.specs.Cells.{Cell, number_of, cells_of, patched, null_bits, bits_to_null, bits_set, changed_number, AreNull}
use Rattle.lst_model.specs.CellLaws.{row_is_own, null_bits_are_null}
use Rattle.lst_model.proofs.Cells.{patch_is_patched}
use Rattle.lst_model.specs.declared.lines.Line.{Line}
use Rattle.lst_model.specs.declared.lines.Line.TheVariants as line
use Rattle.lst_model.specs.declared.lines.Call.TheVariants as call
use Rattle.lst_line_list.specs.declared.kinds.Kind.{Kind}
use Rattle.lst_line_list.specs.declared.kinds.Kind.TheVariants.{Insert, Update}
use Rattle.lst_line_list.specs.declared.kinds.Kept.{Kept}
use Rattle.lst_line_list.proofs.Packing.{row_made, row_numbers}
use Rattle.lst_line_list.specs.Kinds.{width, told, AreOf, own, line_of, IsKept, Keeps, KeepsCall}

-- ---- behind others

-- a line that is kept has the same numbers where more stand behind them
stays : (numbers added : List ℕ) (k : Kept) → k.start + width k.kind ≤ length numbers → own (numbers ++ added) k ≡ own numbers k
stays numbers added k within = ap (take (width k.kind)) (drop-append-le k.start numbers added (omega arith))
    ∙ take-append-le (width k.kind) (drop k.start numbers) added (let n = length-drop k.start numbers in omega arith)

kept_stays : (numbers added : List ℕ) (k : Kept) → IsKept numbers k → IsKept (numbers ++ added) k
kept_stays numbers added k is = record {
  within = let n = length-append numbers added in let low = is.within in omega arith;
  are = subst (AreOf k.kind) (sym (stays numbers added k is.within)) is.are;
}

lines_stay : (numbers added : List ℕ) (kept : List Kept) → All (IsKept numbers) kept → map (line_of (numbers ++ added)) kept ≡ map (line_of numbers) kept
lines_stay numbers added [] all = refl
lines_stay numbers added (k ∷ kept) all =
    let first = stays numbers added k (All-head (IsKept numbers) k kept all).within in
    let rest = lines_stay numbers added kept (All-tail (IsKept numbers) k kept all) in
    (λ j. told k.session k.kind (first j) ∷ rest j)

-- the numbers of the line that was kept last
module _ (k : Kept) (line : Line) (numbers longer : List ℕ) (keeps : Keeps k line numbers longer) where
  own_added : own longer k ≡ keeps.added
  own_added = ap (λ (ns : List ℕ). take (width k.kind) (drop k.start ns)) keeps.adds
      ∙ (ap (take (width k.kind)) (drop_at numbers keeps.added k.start (sym keeps.begins))
      ∙ take_all (width k.kind) keeps.added (let w = keeps.wide in omega arith))

  last_kept : IsKept longer k
  last_kept = record {
    within = let n = ap length keeps.adds ∙ length-append numbers keeps.added in let b = keeps.begins in let w = keeps.wide in omega arith;
    are = subst (AreOf k.kind) (sym own_added) keeps.are;
  }

  last_told : line_of longer k ≡ line
  last_told = ap (told k.session k.kind) own_added ∙ keeps.tells

  pub are_kept : (kept more : List Kept) → All (IsKept numbers) kept → more ≡ kept ++ k ∷ [] → All (IsKept longer) more
  are_kept kept more all is = All-same (IsKept longer) more (kept ++ k ∷ []) is
      (All-push (IsKept longer) kept k
      (All-weaker (IsKept numbers) (IsKept longer) (λ x h. subst (λ (ns : List ℕ). IsKept ns x) (sym keeps.adds) (kept_stays numbers keeps.added x h)) kept all)
      last_kept)

  pub are_told : (kept more : List Kept) → All (IsKept numbers) kept → more ≡ kept ++ k ∷ [] → map (line_of longer) more ≡ map (line_of numbers) kept ++ line ∷ []
  are_told kept more all is =
      let before : map (line_of longer) kept ≡ map (line_of numbers) kept = ap (λ (ns : List ℕ). map (line_of ns) kept) keeps.adds ∙ lines_stay numbers keeps.added kept all in
      ap (map (line_of longer)) is
      ∙ (map-append (line_of longer) kept (k ∷ [])
      ∙ (ap (λ (ls : List Line). ls ++ line_of longer k ∷ []) before
      ∙ ap (λ (l : Line). map (line_of numbers) kept ++ l ∷ []) last_told))

-- ---- what is kept at a place

pub kept_at : (numbers : List ℕ) (kept : List Kept) (place : ℕ) (k : Kept) → place < length kept → k ≡ get_or kept place k → All (IsKept numbers) kept → IsKept numbers k
kept_at numbers kept place k low is all = subst (IsKept numbers) (sym is) (All-get_or (IsKept numbers) kept place k low all)

pub told_at : (numbers : List ℕ) (kept : List Kept) (place : ℕ) (k : Kept) → place < length kept → k ≡ get_or kept place k → slice_get (map (line_of numbers) kept) place ≡ Some (line_of numbers k)
told_at numbers kept place k low is = slice_get-map (line_of numbers) kept place
    ∙ ap (option_map (line_of numbers)) (slice_get-get_or kept place k low ∙ ap (λ (x : Kept). Some x) (sym is))

-- ---- one line

pub keeps : (session start : ℕ) (kind : Kind) (line : Line) (numbers between longer : List ℕ) → start ≡ length numbers → between ≡ numbers → KeepsCall session kind line between longer
    → Keeps (record { start = start; session = session; kind = kind }) line numbers longer
keeps session start kind line numbers between longer begins same call = record {
  added = call.added;
  adds = call.adds ∙ ap (λ (ns : List ℕ). ns ++ call.added) same;
  begins = begins;
  wide = call.wide;
  are = call.are;
  tells = call.tells;
}

pub insert_kept : (session key : ℕ) (row : List Cell) (cells nulls : ℕ) (numbers between longer : List ℕ) → cells ≡ length row → cells ≤ 8 → nulls ≡ null_bits row
    → between ≡ numbers ++ key ∷ [] → longer ≡ between ++ map number_of row → KeepsCall session (Insert cells nulls) (line.Call session (call.Insert key row)) numbers longer
insert_kept session key row cells nulls numbers between longer wide few null first rest = record {
  added = key ∷ map number_of row;
  adds = rest ∙ (ap (λ (ns : List ℕ). ns ++ map number_of row) first ∙ append_assoc numbers (key ∷ []) (map number_of row));
  wide = ap suc (length-map row number_of ∙ sym wide);
  are = (few, subst (λ (n : ℕ). AreNull 0 n (map number_of row)) (sym null) (null_bits_are_null row));
  tells = ap (λ (n : ℕ). line.Call session (call.Insert key (cells_of n 0 (map number_of row)))) null ∙ ap (λ (r : List Cell). line.Call session (call.Insert key r)) (row_is_own row);
}

pub update_kept : (session key : ℕ) (patch : List (Option Cell)) (cells set nulls : ℕ) (numbers between longer : List ℕ) → cells ≡ length patch → cells ≤ 8 → set ≡ bits_set patch → nulls ≡ bits_to_null patch
    → between ≡ numbers ++ key ∷ [] → longer ≡ between ++ map changed_number patch → KeepsCall session (Update cells set nulls) (line.Call session (call.Update key patch)) numbers longer
update_kept session key patch cells set nulls numbers between longer wide few sets null first rest = record {
  added = key ∷ map changed_number patch;
  adds = rest ∙ (ap (λ (ns : List ℕ). ns ++ map changed_number patch) first ∙ append_assoc numbers (key ∷ []) (map changed_number patch));
  wide = ap suc (length-map patch changed_number ∙ sym wide);
  are = few;
  tells = (λ j. line.Call session (call.Update key (patched (sets j) 0 (cells_of (null j) 0 (map changed_number patch)))))
      ∙ ap (λ (p : List (Option Cell)). line.Call session (call.Update key p)) (patch_is_patched patch);
}

-- ---- a call with a key and a number for each column

pub columns_kept : (session start key : ℕ) (kind : Kind) (columns numbers between first longer : List ℕ) → start ≡ length numbers → between ≡ numbers → first ≡ between ++ key ∷ [] → longer ≡ first ++ columns
    → width kind ≡ suc (length columns) → AreOf kind (key ∷ columns) → Keeps (record { start = start; session = session; kind = kind }) (told session kind (key ∷ columns)) numbers longer
columns_kept session start key kind columns numbers between first longer begins same one rest wide are = record {
  added = key ∷ columns;
  adds = rest ∙ (ap (λ (ns : List ℕ). ns ++ columns) (one ∙ ap (λ (ns : List ℕ). ns ++ key ∷ []) same) ∙ append_assoc numbers (key ∷ []) columns);
  begins = begins;
  wide = sym wide;
  are = are;
  tells = refl;
}

pub update_told : (session key cells set nulls : ℕ) (columns : List ℕ) (patch : List (Option Cell)) → set ≡ bits_set patch → nulls ≡ bits_to_null patch → columns ≡ map changed_number patch
    → told session (Update cells set nulls) (key ∷ columns) ≡ line.Call session (call.Update key patch)
update_told session key cells set nulls columns patch sets null are =
    (λ j. line.Call session (call.Update key (patched (sets j) 0 (cells_of (null j) 0 (are j)))))
    ∙ ap (λ (p : List (Option Cell)). line.Call session (call.Update key p)) (patch_is_patched patch)

module _ (nulls : ℕ) (columns : List ℕ) (patch : List (Option Cell)) (null : nulls ≡ null_bits (row_made patch)) (are : columns ≡ map changed_number patch) where
  pub insert_told : (session key cells : ℕ) → told session (Insert cells nulls) (key ∷ columns) ≡ line.Call session (call.Insert key (row_made patch))
  insert_told session key cells =
      (λ j. line.Call session (call.Insert key (cells_of (null j) 0 ((are ∙ sym (row_numbers patch)) j))))
      ∙ ap (λ (r : List Cell). line.Call session (call.Insert key r)) (row_is_own (row_made patch))

  pub insert_nulls : AreNull 0 nulls columns
  insert_nulls = subst (λ (ns : List ℕ). AreNull 0 nulls ns) (sym (are ∙ sym (row_numbers patch)))
      (subst (λ (n : ℕ). AreNull 0 n (map number_of (row_made patch))) (sym null) (null_bits_are_null (row_made patch)))
