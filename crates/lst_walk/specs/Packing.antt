-- What loads of packed words leave.
use Rattle.std.specs.Prelude.{◌≡◌, ℕ, List, refl}
use Rattle.std.proofs.Common.{subst, ◌∙◌}
use Rattle.lst_rule.specs.Rule.{knows}
use Rattle.lst_walk.specs.declared.packed.Packed.{Packed}
use Rattle.lst_walk.specs.Packed.{packed_words, Skims, skims_same, skims_on}

abbrev pub packed_by : Packed → List ℕ
packed_by p = packed_words p.seat.now.view p.s p.frame

-- the seat is the same, and its session has only loaded words of a frame: it knows what it knew
pub record Loads (one other : Packed) : Type 0 where
  pub store : other.store.now ≡ one.store.now
  pub same_reference : other.seat.ghost_name ≡ one.seat.ghost_name
  pub s : other.s ≡ one.s
  pub frame : other.frame ≡ one.frame
  pub first : other.first ≡ one.first
  pub skims : Skims one.seat.now.view other.seat.now.view one.s
  pub same : knows other.seat.now.view one.s ≡ knows one.seat.now.view one.s

-- of no load, and of loads one after another
pub loads_none : (one : Packed) → Loads one one
loads_none one = record { store = refl; same_reference = refl; s = refl; frame = refl; first = refl; skims = skims_same one.seat.now.view one.s; same = refl }

pub loads_on : (one other third : Packed) → Loads one other → Loads other third → Loads one third
loads_on one other third a b = record {
  store = b.store ∙ a.store;
  same_reference = b.same_reference ∙ a.same_reference;
  s = b.s ∙ a.s;
  frame = b.frame ∙ a.frame;
  first = b.first ∙ a.first;
  skims = skims_on one.seat.now.view other.seat.now.view third.seat.now.view one.s a.skims (subst (λ (n : ℕ). Skims other.seat.now.view third.seat.now.view n) a.s b.skims);
  same = subst (λ (n : ℕ). knows third.seat.now.view n ≡ knows other.seat.now.view n) a.s b.same ∙ a.same;
}
