use Rattle.std.proofs.Common.{ℕ, List, slice_index, arith, ap, subst, sym, length-set, ◌∙◌}
use Rattle.lst_pack.specs.Forms.{Packs}
use Rattle.lst_merge.proofs.Wording.{values_next, rest_next}
use Rattle.lst_merge.proofs.entries.read_values.Goals as goal

pub loop-slot-init : goal.loop-slot-init
loop-slot-init c = record { long = omega arith; read = λ packed packs i low. absurd (omega arith); rest = λ packed packs i high. ap (λ (xs : List ℕ). slice_index xs i) (c.unpack.ensures packed (subst (λ (ws : List ℕ). Packs ws packed) (sym c.packed_words.ensures) packs)) }

pub loop-slot-preserved : goal.loop-slot-preserved
loop-slot-preserved c = let long = c.loop-slot.invariant.long in record {
  long = length-set c.loop-slot.values c.loop-slot.slot c.present_value.result ∙ long;
  read = values_next (slice_index c.args.words.now) c.loop-slot.values c.loop-slot.slot c.present_value.result (omega arith) c.loop-slot.invariant.read c.loop-slot.invariant.rest c.present_value.ensures;
  rest = rest_next (slice_index c.args.words.now) c.loop-slot.values c.loop-slot.slot c.present_value.result c.loop-slot.invariant.rest;
}
