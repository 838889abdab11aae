-- What a reading by cases gives.
use Rattle.std.proofs.Common.{◌≡◌, ℕ, Bool, true, false, List, bytes_eq, Option, Some, None, option_map, refl, subst}
use Rattle.std.specs.Prelude.{if◌then◌else◌}
use Rattle.std.proofs.lemmas.Slice.Eq.{bytes_eq-Decides}
use Rattle.lst_replies.specs.Reading.{or_else, with_both}

-- whatever is read meets P
abbrev pub Reads : {X : Type 0} → (X → Type 0) → Option X → Type 0
Reads {X} P found = (x : X) → found ≡ Some x → P x

pub named : (word text : List ℕ) → bytes_eq word text ≡ true → word ≡ text
named word text e = (bytes_eq-Decides word text).0 e

module _ {X : Type 0} (P : X → Type 0) where
  pub reads_none : Reads P None
  reads_none x e = absurd cc

  pub reads_some : (y : X) → P y → Reads P (Some y)
  reads_some y p x e = let same : y ≡ x = cc in subst P same p

  pub reads_if : (b : Bool) (first second : Option X) → (b ≡ true → Reads P first) → Reads P second → Reads P (if b then first else second)
  reads_if true first second one other = one refl
  reads_if false first second one other = other

  pub reads_or : (first second : Option X) → Reads P first → Reads P second → Reads P (or_else first second)
  reads_or None second one other = other
  reads_or (Some y) second one other = one

  pub reads_map : {Y : Type 0} (f : Y → X) (found : Option Y) → ((y : Y) → found ≡ Some y → P (f y)) → Reads P (option_map f found)
  reads_map f None each = reads_none
  reads_map f (Some y) each = reads_some (f y) (each y refl)

  pub reads_both : {Y Z : Type 0} (f : Y → Z → X) (one : Option Y) (other : Option Z) → ((y : Y) (z : Z) → one ≡ Some y → other ≡ Some z → P (f y z)) → Reads P (with_both f one other)
  reads_both f None other each = reads_none
  reads_both f (Some y) None each = reads_none
  reads_both f (Some y) (Some z) each = reads_some (f y z) (each y z refl refl)
