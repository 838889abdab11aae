-- Functions that change at one place, and choices.
use Rattle.std.proofs.Common.{◌≡◌, Bool, true, false, cond, refl}
pub use Rattle.lst_layout.proofs.Functions.{put_here, put_else, each_put, put_in_row, put_in_other, put_in_else}

-- what holds of both of two things holds of the one that is chosen
pub either : {A : Type 0} (P : A → Type 0) (b : Bool) (x y : A) → (b ≡ true → P x) → (b ≡ false → P y) → P (cond b x y)
either P true x y p q = p refl
either P false x y p q = q refl
