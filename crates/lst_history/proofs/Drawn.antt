-- Tail records that aren't drawn have no writes.
use Rattle.std.proofs.Common.{◌≡◌, ℕ, zero, suc, ◌+◌, ◌-◌, ◌*◌, ◌<◌, ◌≤◌, true, subst, sym, ap, ◌∙◌, arith, ⊎_elim}
use Rattle.std.proofs.Math.Nat.{mul-le-mul_right, suc-mul}
use Rattle.lst_layout.specs.declared.limits.Limits.{Limits}
use Rattle.lst_layout.specs.Words.{Words}
use Rattle.lst_core_state.specs.declared.known.Known.{Known}
use Rattle.lst_core_state.specs.Cells.{tail_count}
use Rattle.lst_core_state.proofs.Decoded.{by_blank}
use Rattle.lst_core_state.proofs.VersionsKept.{one_range}
use Rattle.lst_rule.specs.declared.view.View.{View}
use Rattle.lst_rule.specs.Rule.{Allowed}
use Rattle.lst_rule.specs.Learned.{Possible}
use Rattle.lst_rule.proofs.Knowing.{whole_words}
use Rattle.lst_history.specs.Peeks.{words_in}
use Rattle.lst_history.specs.Commits.{gathered_until, IsOfNone, IsDrawn}
use Rattle.lst_history.proofs.Joining.{passed_tail}

-- a tail record of a range is one of all
pub range_within : (l : Limits) (range n : ℕ) → range < l.ranges → n < l.tails → range * l.tails + n < tail_count l
range_within l range n low few = let q : (suc range) * l.tails ≤ l.ranges * l.tails = mul-le-mul_right l.tails (omega arith) in let e : (suc range) * l.tails ≡ range * l.tails + l.tails = suc-mul range l.tails in omega arith

module _ (v : View) (possible : Possible v) (whole : v.whole ≡ true) where
  abbrev l : Limits
  l = v.limits

  abbrev w : Words
  w = words_in v

  abbrev K : ℕ → Known
  K = possible.known

  allowed : Allowed v v.words possible.known possible.merger
  allowed = whole_words v possible.words possible.known possible.merger possible.allowed whole

  undrawn : (range m : ℕ) → 0 < m → m ≤ v.limits.tails → (words_in v).counts range < m → IsOfNone (words_in v) (range * v.limits.tails + m)
  undrawn range m some few over u low past = let t : ℕ = range * l.tails + m in by_blank w.log w.cells (w.log u) t
      (allowed.sound.tail_words.undrawn t 0 (λ other h drawn. let above = drawn.0 in let high = drawn.1 in let most = drawn.2 in
      let same : other ≡ range = one_range l w K allowed.sound.sized allowed.sound.times allowed.sound.each allowed.sound.versions other range t above high (omega arith) (omega arith) in
      let e : other * l.tails + w.counts other ≡ range * l.tails + w.counts range = ap (λ (x : ℕ). x * l.tails + w.counts x) same in omega arith))

  -- k more of them
  passed_over : (range n k : ℕ) → (words_in v).counts range ≤ n → n + k ≤ v.limits.tails → gathered_until v.limits (words_in v) (range * v.limits.tails + n) ≡ gathered_until v.limits (words_in v) (range * v.limits.tails + (n + k))
  passed_over range n zero most few = ap (gathered_until l w) (let e : range * l.tails + n ≡ range * l.tails + (n + zero) = omega arith in e)
  passed_over range n (suc k) most few = let t : ℕ = range * l.tails + (n + k) in let next : t + 1 ≡ range * l.tails + (n + suc k) = omega arith in
      passed_over range n k most (omega arith) ∙ (passed_tail l w t (subst (IsOfNone w) (sym next) (undrawn range (n + suc k) (omega arith) few (omega arith))) ∙ ap (gathered_until l w) next)

  -- so a range's writes are those of its drawn ones
  pub range_gathered : (range n : ℕ) → IsDrawn v.limits (words_in v) range n → gathered_until v.limits (words_in v) (range * v.limits.tails + n) ≡ gathered_until v.limits (words_in v) ((range + 1) * v.limits.tails)
  range_gathered range n drawn = let few = drawn.0 in let end : range * l.tails + l.tails ≡ (range + 1) * l.tails = sym (suc-mul range l.tails) ∙ ap (λ (r : ℕ). r * l.tails) (let e : suc range ≡ range + 1 = omega arith in e) in ⊎_elim
      (λ (all : n ≡ l.tails). ap (λ (m : ℕ). gathered_until l w (range * l.tails + m)) all ∙ ap (gathered_until l w) end)
      (λ (counted : n ≡ w.counts range). let k : ℕ = l.tails - n in let same : range * l.tails + (n + k) ≡ (range + 1) * l.tails = (let e : range * l.tails + (n + k) ≡ range * l.tails + l.tails = omega arith in e) ∙ end in
      passed_over range n k (omega arith) (omega arith) ∙ ap (gathered_until l w) same)
      drawn.2
