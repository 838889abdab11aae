-- The addresses of the first words of a range's tail records.
use Rattle.std.proofs.Common.{◌≡◌, ℕ, ◌+◌, ◌-◌, ◌*◌, ◌<◌, ◌≤◌, ap, arith}
use Rattle.std.proofs.Math.Nat.{add-mul}
use Rattle.lst_layout.specs.declared.limits.Limits.{Limits}
use Rattle.lst_layout.specs.declared.place.Place.TheVariants.{CellWord}
use Rattle.lst_layout.specs.Addresses.{address}
use Rattle.lst_layout.specs.Areas.{cell_words, words_of, tail_cells_start}
use Rattle.lst_layout.proofs.Apart.{below}
use Rattle.lst_layout.proofs.Lows.{tail_within}

-- rows of w words from t on, of which the one after `front` others begins at `start`
rows_after : (t front number w start words : ℕ) → 0 < number → start ≡ t + (front + 1 - 1) * w + 0 → words ≡ w → start + (number - 1) * words ≡ t + (front + number - 1) * w + 0
rows_after t front number w start words some at wide =
    let one : front + 1 - 1 ≡ front = omega arith in
    let here : (front + 1 - 1) * w ≡ front * w = ap (λ (n : ℕ). n * w) one in
    let same : front + number - 1 ≡ front + (number - 1) = omega arith in
    let there : (front + number - 1) * w ≡ (front + (number - 1)) * w = ap (λ (n : ℕ). n * w) same in
    let spread : (front + (number - 1)) * w ≡ front * w + (number - 1) * w = add-mul front (number - 1) w in
    let each : (number - 1) * words ≡ (number - 1) * w = ap (λ (n : ℕ). (number - 1) * n) wide in
    omega arith

pub first_after : (l : Limits) (front number start words : ℕ) → 0 < number → start ≡ address l (CellWord (front + 1) 0) → words ≡ cell_words l → start + (number - 1) * words ≡ address l (CellWord (front + number) 0)
unfolding address
first_after l front number start words some at wide = rows_after (tail_cells_start l) front number (cell_words l) start words some at wide

-- it is one of the store's words
pub first_low : (l : Limits) (range number start words : ℕ) → range < l.ranges → 0 < number → number ≤ l.tails → start ≡ address l (CellWord (range * l.tails + 1) 0) → words ≡ cell_words l → start + (number - 1) * words < words_of l
first_low l range number start words low some few at wide =
    let is = first_after l (range * l.tails) number start words some at wide in
    let inside = below l (CellWord (range * l.tails + number) 0) (tail_within l range number 0 (record { in_range = low; some = some; few = few; in_cell = omega arith })) in
    omega arith
