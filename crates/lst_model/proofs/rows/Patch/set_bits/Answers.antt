use Rattle.std.proofs.Common.{◌≡◌, ◌≤◌, ◌<◌, ◌+◌, ◌*◌, ◌-◌, ◌^◌, ℕ, List, [], ◌∷◌, length, map, Option, Some, None, Bool, true, false, refl, ap, ◌∙◌, arith, drop, length-drop}
use Rattle.std.specs.Prelude.{is_some, option_map}
use Rattle.std.proofs.Math.Nat.{pow-le-pow_right}
use mir.Val.{bool_byte}
use Rattle.lst_model.specs.Cells.{Cell, number_of, bits_set}
use Rattle.lst_model.specs.CellLaws.{bits_where-below}
use Rattle.lst_model.proofs.rows.Patch.set_bits.Goals as goal

bits_set-numbers : (patch : List (Option Cell)) → bits_set (map (option_map number_of) patch) ≡ bits_set patch
bits_set-numbers [] = refl
bits_set-numbers (None ∷ patch) = ap (λ (n : ℕ). 0 + 2 * n) (bits_set-numbers patch)
bits_set-numbers (Some cell ∷ patch) = ap (λ (n : ℕ). 1 + 2 * n) (bits_set-numbers patch)

mask_fits : (changes : List (Option ℕ)) (column : ℕ) → 0 < column → length changes ≤ 8 → 2 * bits_set (drop column changes) + 1 ≤ 255
mask_fits changes column some few = let h = bits_where-below is_some (drop column changes) in let e : length (drop column changes) ≡ length changes - column = length-drop column changes in
    let p : 2 ^ length (drop column changes) ≤ 2 ^ 7 = pow-le-pow_right {n = 2} (omega arith) {i = length (drop column changes)} {j = 7} (omega arith) in omega arith

byte_low : (b : Bool) → bool_byte b ≤ 1
byte_low true = omega arith
byte_low false = omega arith

pub overflow_mul-mask : goal.overflow_mul-mask
overflow_mul-mask c = let h = mask_fits c.numbers-changes.result.now c.loop-column.column c.loop-column-test.true c.numbers-changes.ensures.few in let e = c.loop-column.invariant.1 in omega arith

pub overflow_add-mask : goal.overflow_add-mask
overflow_add-mask c = let h = mask_fits c.numbers-changes.result.now c.loop-column.column c.loop-column-test.true c.numbers-changes.ensures.few in let e = c.loop-column.invariant.1 in let b = byte_low c.is_some.result in omega arith

pub returns : goal.returns
returns c = let e = c.loop-column.invariant.1 in let z : c.loop-column.column ≡ 0 = omega (arith, c.loop-column-test.false) in
    e ∙ (ap (λ (n : ℕ). bits_set (drop n c.numbers-changes.result.now)) z ∙ (ap (bits_set {A = ℕ}) c.numbers-changes.ensures.numbers ∙ bits_set-numbers c.args.self.now))
