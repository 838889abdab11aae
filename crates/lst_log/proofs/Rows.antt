-- Rows whose numbers are of 64 bits.
use Rattle.std.proofs.Common.{◌≡◌, ℕ, suc, ◌^◌, ◌<◌, List, [], ◌∷◌, length, map, get_or, Option, Some, None, Bool, true, refl, sym, ap, subst, ◌∙◌, arith}
use Rattle.std.proofs.lemmas.List.{length-map}
use Rattle.std.specs.Prelude.{◌↔◌, IsTrue, IfSome, IsSome, Any, option_map}
use Rattle.lst_model.specs.Lines.{IsPatch}
use Rattle.std.specs.List.{AllByRecursion}
use Rattle.lst_model.specs.Cells.{Cell, number_of}
use Rattle.lst_log.specs.Format.{IsCell, IsChange}

cells_fit : (row : List Cell) → ((i : ℕ) → get_or (map number_of row) i 0 < 2 ^ 64) → AllByRecursion IsCell row
cells_fit [] low = tt
cells_fit (None ∷ row) low = (tt, cells_fit row (λ i. low (suc i)))
cells_fit (Some number ∷ row) low = (low 0, cells_fit row (λ i. low (suc i)))

pub row_fits : (test : Bool) (row : List Cell) (numbers : List ℕ) (columns : ℕ) → numbers ≡ map number_of row → ((i : ℕ) → get_or numbers i 0 < 2 ^ 64) → (IsTrue test ↔ (length numbers ≡ columns))
    → IsTrue test ↔ ((length row ≡ columns) × AllByRecursion IsCell row)
row_fits test row numbers columns is low decides =
    let wide : length numbers ≡ length row = ap length is ∙ length-map row number_of in
    let low_too : (i : ℕ) → get_or (map number_of row) i 0 < 2 ^ 64 = subst (λ (ns : List ℕ). (i : ℕ) → get_or ns i 0 < 2 ^ 64) is low in
    (λ t. (sym wide ∙ decides.0 t, cells_fit row low_too), λ both. decides.1 (wide ∙ both.0))

changes_fit : (patch : List (Option Cell)) → ((i : ℕ) → i < length (map (option_map number_of) patch) → IfSome (get_or (map (option_map number_of) patch) i None) (λ number. number < 2 ^ 64)) → AllByRecursion IsChange patch
changes_fit [] low = tt
changes_fit (None ∷ patch) low = (tt, changes_fit patch (λ i short. low (suc i) (omega arith)))
changes_fit (Some None ∷ patch) low = (tt, changes_fit patch (λ i short. low (suc i) (omega arith)))
changes_fit (Some (Some number) ∷ patch) low = (low 0 (omega arith), changes_fit patch (λ i short. low (suc i) (omega arith)))

pub patch_fits : (test : Bool) (patch : List (Option Cell)) (changes : List (Option ℕ)) (columns : ℕ) → changes ≡ map (option_map number_of) patch
    → ((i : ℕ) → i < length changes → IfSome (get_or changes i None) (λ number. number < 2 ^ 64)) → length changes ≡ columns → (IsTrue test ↔ Any IsSome patch)
    → IsTrue test ↔ (IsPatch columns patch × AllByRecursion IsChange patch)
patch_fits test patch changes columns is low wide decides =
    let width : length patch ≡ columns = sym (length-map patch (option_map number_of)) ∙ sym (ap length is) ∙ wide in
    let low_too = subst (λ (cs : List (Option ℕ)). (i : ℕ) → i < length cs → IfSome (get_or cs i None) (λ number. number < 2 ^ 64)) is low in
    (λ t. (record { width = width; sets = decides.0 t }, changes_fit patch low_too), λ both. decides.1 both.0.sets)

pub row_has_place : (row : List Cell) (numbers : List ℕ) (columns : ℕ) → numbers ≡ map number_of row → ((i : ℕ) → get_or numbers i 0 < 2 ^ 64) → length row ≡ columns → (length row ≡ columns) × AllByRecursion IsCell row
row_has_place row numbers columns is low wide = (row_fits true row numbers columns is low (λ t. ap length is ∙ length-map row number_of ∙ wide, λ e. refl)).0 refl

pub patch_has_place : (patch : List (Option Cell)) (changes : List (Option ℕ)) (columns : ℕ) → changes ≡ map (option_map number_of) patch
    → ((i : ℕ) → i < length changes → IfSome (get_or changes i None) (λ number. number < 2 ^ 64)) → IsPatch columns patch → IsPatch columns patch × AllByRecursion IsChange patch
patch_has_place patch changes columns is low of =
    (of, changes_fit patch (subst (λ (cs : List (Option ℕ)). (i : ℕ) → i < length cs → IfSome (get_or cs i None) (λ number. number < 2 ^ 64)) is low))
