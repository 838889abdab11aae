-- The numbers of a patch's own changes.
use Rattle.std.proofs.Common.{◌≡◌, ℕ, List, [], ◌∷◌, map, refl}
use Rattle.std.specs.Prelude.{Option, None, Some, unwrap_or, option_map}
use Rattle.std.specs.List.{flat_map}
use Rattle.lst_model.specs.Cells.{Cell, number_of, changed_number}

pub settings_are : (patch : List (Option Cell)) → flat_map (λ (change : Option ℕ). unwrap_or change 0 ∷ []) (map (option_map number_of) patch) ≡ map changed_number patch
settings_are [] = refl
settings_are (change ∷ patch) = (λ i. here change i ∷ settings_are patch i)
  where
    here : (c : Option Cell) → unwrap_or (option_map number_of c) 0 ≡ changed_number c
    here None = refl
    here (Some None) = refl
    here (Some (Some number)) = refl
