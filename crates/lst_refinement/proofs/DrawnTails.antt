-- The tails that the ranges of a crew's store count.
use Rattle.std.proofs.Common.{◌≡◌, ◌≢◌, ℕ, suc, ◌+◌, ◌-◌, ◌*◌, ◌/◌, ◌<◌, ◌≤◌, true, ap, arith, ⊎_elim}
use Rattle.std.proofs.Math.Nat.{mul-le-mul_right, suc-mul, le-div_iff_mul-le}
use mathlib.Core.Logic.{dite}
use native.Mathlib.Decide.{dec_lt}
use Rattle.lst_layout.specs.declared.limits.Limits.{Limits}
use Rattle.lst_core_state.specs.Lists.{Has}
use Rattle.lst_core_state.specs.declared.known.Hold.{Hold}
use Rattle.lst_core_state.specs.Cells.{record_count, tail_range, record_of}
use Rattle.lst_core_state.specs.Index.{is_placed}
use Rattle.lst_core_state.specs.State.{Words, Core, line, record_in}
use Rattle.lst_core_state.specs.Sound.{Drawn}
use Rattle.lst_core_state.proofs.Positions.{placed_says}
use Rattle.lst_core_state.proofs.VersionsKept.{one_range}
use Rattle.lst_refinement.specs.Crews.{IsCrew}

-- the tails of a range lie below those of a later one
rows_le : (tails a b : ℕ) → a < b → a * tails + tails ≤ b * tails
rows_le tails a b h = let q : (suc a) * tails ≤ b * tails = mul-le-mul_right tails (omega arith) in let e : (suc a) * tails ≡ a * tails + tails = suc-mul a tails in omega arith

module _ (c : Core) (crew : IsCrew c) where
  abbrev L : Limits
  L = c.limits

  abbrev w : Words
  w = c.words

  counted_drawn : (range k : ℕ) → range < L.ranges → k < w.counts range → Drawn L w.counts range (range * L.tails + suc k)
  counted_drawn range k low h = let few = crew.tails range low in (omega arith, omega arith, omega arith)

  -- a tail that a range of the store counts is on a chain, so it is stored
  pub counted_stored : (range k : ℕ) → range < L.ranges → k < w.counts range → 0 < w.cells (range * L.tails + suc k) 0
  counted_stored range k low h = let t : ℕ = range * L.tails + suc k in ⊎_elim
      (λ (p : (r : ℕ) × (r < record_count L) × Has t (line L w r)). (crew.sound.versions.lines p.0 p.1).stored t p.2)
      (λ (p : (s : ℕ) × (s < L.sessions) × ((c.known s).hold.tail ≡ t)). let none : (c.known p.0).hold.tail ≡ 0 = ap (λ (x : Hold). x.tail) (crew.idle p.0 p.1).hold in let same = p.2 in absurd (omega arith))
      (crew.sound.listed.tails range t low (counted_drawn range k low h))

  -- a record in the index was drawn
  pub placed_low : (r : ℕ) → is_placed L w.index r ≡ true → r < w.counter
  placed_low r is = let at = placed_says L w.index r is in let holds = at.2 in let filled = (crew.sound.index.filled at.0 (omega arith)).low in omega arith

  pub stored_low : (t : ℕ) → 0 < w.cells t 0 → record_in L w.cells t < w.counter
  stored_low t some = placed_low (record_in L w.cells t) (crew.sound.versions.stored t some).index

  -- the records of a range beyond the store's are none of the store's
  beyond_record : (range k : ℕ) → L.ranges ≤ range → record_count L ≤ record_in L w.cells (range * L.tails + suc k)
  unfolding record_of tail_range
  beyond_record range k high = let some = crew.sound.sized.tails.0 in let rows : L.ranges * L.tails ≤ range * L.tails = mul-le-mul_right L.tails high in
      let below : L.ranges ≤ (range * L.tails + suc k - 1) / L.tails = (le-div_iff_mul-le {k = L.tails} {x = L.ranges} {y = range * L.tails + suc k - 1} some).1 (omega arith) in omega arith

  -- none of the tails that the ranges count is of the next record
  pub counted_apart : (range k : ℕ) → k < w.counts range → w.counter < record_count L → record_in L w.cells (range * L.tails + suc k) ≢ w.counter
  counted_apart range k h room e = dite (dec_lt range L.ranges)
      (λ low. let before = stored_low (range * L.tails + suc k) (counted_stored range k low h) in omega arith)
      (λ other. let beyond = beyond_record range k (grind (arith, other)) in omega arith)

  -- nor is one of another range
  pub others_apart : (range other n k : ℕ) → range < L.ranges → other ≢ range → 0 < n → n ≤ L.tails → k < w.counts other → other * L.tails + suc k ≢ range * L.tails + n
  others_apart range other n k low ne some few h e = dite (dec_lt other L.ranges)
      (λ inside. let most = crew.tails other inside in ne (one_range L w c.known crew.sound.sized crew.sound.times crew.sound.each crew.sound.versions other range (range * L.tails + n) (omega arith) (omega arith) (omega arith) (omega arith)))
      (λ outside. let rows = rows_le L.tails range other (grind (arith, outside, low)) in omega arith)

  -- the next tail of a range is blank
  pub next_blank : (range n : ℕ) → range < L.ranges → n ≡ w.counts range + 1 → n ≤ L.tails → w.cells (range * L.tails + n) 0 ≡ 0
  next_blank range n low next few = crew.sound.tail_words.undrawn (range * L.tails + n) 0 (λ other h d. let above = d.0 in let high = d.1 in let most = d.2 in
      let same : other ≡ range = one_range L w c.known crew.sound.sized crew.sound.times crew.sound.each crew.sound.versions other range (range * L.tails + n) above high (omega arith) (omega arith) in
      let e : other * L.tails + w.counts other ≡ range * L.tails + w.counts range = ap (λ (x : ℕ). x * L.tails + w.counts x) same in omega arith)
