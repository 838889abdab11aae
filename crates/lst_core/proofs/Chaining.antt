-- The steps of a walk along a chain.
use Rattle.std.proofs.Common.{◌≡◌, ◌≢◌, ℕ, ◌+◌, ◌-◌, ◌*◌, ◌/◌, ◌%◌, ◌<◌, ◌≤◌, List, sym, subst, ap, ◌∙◌, arith, suc, suc-mul, ◌^◌}
use Rattle.lst_layout.specs.declared.limits.Limits.{Limits}
use Rattle.lst_layout.specs.declared.place.Place.TheVariants.{LogWord, StateWord}
use Rattle.lst_layout.specs.Limits.{IsValid}
use Rattle.lst_layout.specs.Addresses as layout
use Rattle.lst_layout.specs.Words.{Words, shown}
use Rattle.lst_core_state.specs.Cells.{tail_at, tail_range, tail_count, record_count}
use Rattle.lst_core_state.specs.State.{writer, writer_at, back_in, head_of}
use Rattle.lst_core_state.proofs.CellsKept.{tail_at-some, tail_at-none}
use Rattle.lst_core_state.proofs.Steps.{writer_odd, writer_even}
use Rattle.lst_core_state.proofs.Decoded.{head_few}
use Rattle.lst_core.specs.Reading.{IsRead}
use Rattle.lst_core.proofs.Found.{stamp_within, writer_within}
use Rattle.lst_core_state.proofs.Bounds.{tail_few}

pub back_some : (l : Limits) (cells : ℕ → ℕ → ℕ) (t n : ℕ) → n ≡ cells t 2 → n ≢ 0 → (t - 1) / l.tails * l.tails + n ≡ back_in l cells t
unfolding tail_range
back_some l cells t n is some = sym (ap (tail_at l.tails ((t - 1) / l.tails)) (sym is) ∙ tail_at-some l.tails ((t - 1) / l.tails) n (omega arith))

pub back_none : (l : Limits) (cells : ℕ → ℕ → ℕ) (t n : ℕ) → n ≡ cells t 2 → n ≡ 0 → 0 ≡ back_in l cells t
back_none l cells t n is none = sym (ap (tail_at l.tails (tail_range l.tails t)) (sym is ∙ none) ∙ tail_at-none l.tails (tail_range l.tails t))

pub head_some : (l : Limits) (r word n : ℕ) → n ≡ word / 2 → n ≢ 0 → r / 256 * l.tails + n ≡ head_of l r word
head_some l r word n is some = sym (ap (tail_at l.tails (r / 256)) (sym is) ∙ tail_at-some l.tails (r / 256) n (omega arith))

pub head_none : (l : Limits) (r word n : ℕ) → n ≡ word / 2 → n ≡ 0 → 0 ≡ head_of l r word
head_none l r word n is none = sym (ap (tail_at l.tails (r / 256)) (sym is ∙ none) ∙ tail_at-none l.tails (r / 256))

pub tails_few : (l : Limits) → IsValid l → tail_count l ≤ 1048576
tails_few l sized = let a = sized.tails.1 in let b = sized.ranges in let some = b.0 in let h = tail_few (l.ranges - 1) l.tails l.ranges l.tails (omega arith) b.1 a (omega arith) in let e : (l.ranges - 1) * l.tails + l.tails ≡ l.ranges * l.tails = row (l.ranges - 1) l.tails l.ranges (omega arith) in omega arith
  where
    row : (a t b : ℕ) → a + 1 ≡ b → a * t + t ≡ b * t
    row a t b e = let s : suc a * t ≡ a * t + t = suc-mul a t in let f : suc a ≡ b = omega arith in let g : suc a * t ≡ b * t = ap (λ (x : ℕ). x * t) f in omega arith

pub fits_tail : (l : Limits) → IsValid l → (n : ℕ) → n ≤ tail_count l → n < 2 ^ 32
fits_tail l sized n few = let h = tails_few l sized in omega arith

module _ (l : Limits) (ws : List ℕ) (r : IsRead l ws) where
  abbrev w : Words
  w = shown l ws

  pub newest_few : (rec : ℕ) → rec < record_count l → head_of l rec (w.heads rec) ≤ tail_count l
  newest_few rec low = head_few l w r.known r.sound.sized r.sound.times r.sound.each r.sound.versions rec low

  pub odd_writer : (t start : ℕ) → start ≡ w.cells t 0 → start % 2 ≡ 1 → start / 2 ≡ writer_at w t
  odd_writer t start is odd = sym (ap (writer w.log) (sym is) ∙ writer_odd w.log start odd)

  pub even_writer : (t start x : ℕ) → start ≡ w.cells t 0 → start % 2 ≢ 1 → x ≡ w.log (start / 2) → x ≡ writer_at w t
  even_writer t start x is even found = found ∙ sym (ap (writer w.log) (sym is) ∙ writer_even w.log start (omega arith))

  pub even_log : (t start : ℕ) → 0 < w.cells t 0 → start ≡ w.cells t 0 → start % 2 ≢ 1 → layout.IsWithin l (LogWord (start / 2))
  even_log t start some is even = subst (λ (x : ℕ). layout.IsWithin l (LogWord (x / 2))) (sym is) (stamp_within l ws r t some (let e : start % 2 ≡ w.cells t 0 % 2 = ap (λ (x : ℕ). x % 2) is in omega arith))

  pub within_writer : (t x : ℕ) → 0 < w.cells t 0 → x ≡ writer_at w t → layout.IsWithin l (StateWord (x % 16) (x / 16))
  within_writer t x some is = subst (λ (y : ℕ). layout.IsWithin l (StateWord (y % 16) (y / 16))) (sym is) (writer_within l ws r t some)
