-- What a told state counts.
use Rattle.std.proofs.Common.{◌≡◌, ℕ, zero, suc, ◌+◌, ◌*◌, ◌∷◌, [], length, refl, arith, length-append}
use Rattle.lst_layout.specs.declared.limits.Limits.{Limits}
use Rattle.lst_core_state.specs.Cells.{listed}
use Rattle.lst_core_state.specs.State.{Words, writes_of}
use Rattle.lst_core_state.proofs.Histories.{length-history}
use Rattle.lst_refinement.specs.Telling.{accepted_at, accepted_first}
use Rattle.lst_refinement.specs.Laws.{CountsAreTold}

length-listed : (word : ℕ → ℕ) (p n : ℕ) → length (listed word p n) ≡ n
length-listed word p zero = refl
length-listed word p (suc n) = let e = length-listed word (suc p) n in omega arith

pub length-accepted : (l : Limits) (w : Words) (range n : ℕ) → length (accepted_first l w range n) ≡ n
length-accepted l w range zero = refl
length-accepted l w range (suc n) = let e = length-accepted l w range n in omega (arith, length-append (accepted_first l w range n) (accepted_at l w (range * l.tails + suc n) ∷ []))

pub counts_are_told : CountsAreTold
counts_are_told c crew = record {
  clock = length-history c.words.clock c.words.log c.words.begins (writes_of c.limits c.words);
  records = length-listed c.words.keys 0 c.words.counter;
  tails = λ range. length-accepted c.limits c.words range (c.words.counts range);
}
