-- Walks along a key's run through the index.
use Rattle.std.proofs.Common.{◌≡◌, ◌≢◌, ℕ, ◌+◌, ◌-◌, ◌%◌, ◌^◌, ◌<◌, ◌≤◌, List, true, sym, subst, ap, ◌∙◌, arith}
use mathlib.Core.Logic.{dite}
use native.Mathlib.Decide.{ℕ_discrete}
use Rattle.lst_layout.specs.declared.limits.Limits.{Limits}
use Rattle.lst_layout.specs.Limits.{IsValid}
use Rattle.lst_layout.specs.Areas.{index_bits, index_positions}
use Rattle.lst_layout.specs.Words.{Words, shown}
use Rattle.lst_probe.specs.Run.{start_of, run_position}
use Rattle.lst_core_state.specs.Cells.{record_count}
use Rattle.lst_core_state.specs.Index.{size, first_of, position_of, is_placed, Reaches}
use Rattle.lst_core_state.proofs.Positions.{size_enough, position_low, placed_says, placed_holds}
use Rattle.lst_core.specs.Reading.{IsRead}
use Rattle.lst_core.specs.Seeks.{Seeks, Comes}

module _ (l : Limits) (sized : IsValid l) where
  pub bits_some : 1 ≤ index_bits l
  unfolding size
  bits_some = dite (ℕ_discrete (index_bits l) 0)
      (λ e. let h = (size_enough l sized).0 in let some = sized.ranges.0 in let one : size l ≡ 2 ^ 0 = ap (λ (b : ℕ). 2 ^ b) e in absurd (omega arith))
      (λ ne. omega arith)

  pub position_is : (key offset first : ℕ) → first ≡ start_of key (index_bits l) → (positions : ℕ) → positions ≡ index_positions l → (first + offset) % positions ≡ position_of l key offset
  unfolding size first_of run_position
  position_is key offset first e positions f = λ i. (e i + offset) % f i

module _ (l : Limits) (ws : List ℕ) (read : IsRead l ws) where
  abbrev w : Words
  w = shown l ws

  abbrev sized : IsValid l
  sized = read.sound.sized

  pub filled_low : (q : ℕ) → 0 < w.index q → w.index q ≤ record_count l
  filled_low q some = (read.sound.index.filled q some).few

  module _ (r key : ℕ) (at : key ≡ w.keys r) where
    -- where the record is in the index, its position in its key's run
    found_at : is_placed l w.index r ≡ true → (n : ℕ) × (n < index_positions l) × (w.index (position_of l key n) ≡ r + 1) × ((i : ℕ) → i < n → 0 < w.index (position_of l key i))
    unfolding size
    found_at is = let q = placed_says l w.index r is in let f = read.sound.index.filled q.0 (let e = q.2 in omega arith) in let k : w.keys (w.index q.0 - 1) ≡ key = ap w.keys (let e = q.2 in omega arith) ∙ sym at in
        (f.at, f.short, subst (λ (x : ℕ). w.index (position_of l x f.at) ≡ r + 1) k (ap w.index (sym f.is) ∙ q.2), λ i h. subst (λ (x : ℕ). 0 < w.index (position_of l x i)) k (f.run i h))

    pub placed_found : (offset : ℕ) → w.index (position_of l key offset) ≡ r + 1 → is_placed l w.index r ≡ true
    placed_found offset is = placed_holds l w.index r (position_of l key offset) (position_low l sized key offset) is

    pub placed_absent : (offset : ℕ) → Seeks l w key r offset → w.index (position_of l key offset) ≡ 0 → ¬ (is_placed l w.index r ≡ true)
    placed_absent offset seeks free is = let q = found_at is in dite (ℕ_discrete q.0 offset)
        (λ e. let f = ap (λ (i : ℕ). w.index (position_of l key i)) e in let g = q.2 in omega arith)
        (λ ne. let low : q.0 < offset → ⊥ = λ h. (seeks q.0 h).1 q.2 in let high : offset < q.0 → ⊥ = λ h. let f = q.3 offset h in omega arith in either_way q.0 offset ne low high)
      where
        either_way : (a b : ℕ) → a ≢ b → (a < b → ⊥) → (b < a → ⊥) → ⊥
        either_way a b ne low high = ne (omega arith)

    pub placed_none : (offset : ℕ) → Seeks l w key r offset → index_positions l ≤ offset → ¬ (is_placed l w.index r ≡ true)
    placed_none offset seeks end is = let q = found_at is in let h = q.1 in (seeks q.0 (omega arith)).1 q.2

    pub seeks_on : (offset : ℕ) → Seeks l w key r offset → w.index (position_of l key offset) ≢ r + 1 → w.index (position_of l key offset) ≢ 0 → Seeks l w key r (offset + 1)
    seeks_on offset seeks ne some i h = dite (ℕ_discrete i offset)
        (λ e. subst (λ (j : ℕ). (0 < w.index (position_of l key j)) × (w.index (position_of l key j) ≢ r + 1)) (sym e) (omega arith, ne))
        (λ d. seeks i (omega arith))

  module _ (key q : ℕ) where
    pub reached : (offset : ℕ) → Comes l w key q offset → offset < index_positions l → position_of l key offset ≡ q → Reaches l w.keys w.index key q
    unfolding size
    reached offset comes low is = (offset, low, sym is, comes.0)

    -- where the run stops at a offset before the position, it doesn't come there
    pub stopped : (offset : ℕ) → Comes l w key q offset → position_of l key offset ≢ q → ((0 < w.index (position_of l key offset)) × (w.keys (w.index (position_of l key offset) - 1) ≢ key) → ⊥) → ¬ Reaches l w.keys w.index key q
    stopped offset comes ne stops is = dite (ℕ_discrete is.0 offset)
        (λ e. ne (sym (is.2 ∙ ap (position_of l key) e)))
        (λ d. apart is.0 offset d (λ h. comes.1 is.0 h (sym is.2)) (λ h. stops (is.3 offset h)))
      where
        apart : (a b : ℕ) → a ≢ b → (a < b → ⊥) → (b < a → ⊥) → ⊥
        apart a b ne low high = ne (omega arith)

    pub ended : (offset : ℕ) → Comes l w key q offset → index_positions l ≤ offset → ¬ Reaches l w.keys w.index key q
    unfolding size
    ended offset comes end is = let h = is.1 in comes.1 is.0 (omega arith) (sym is.2)

    pub comes_on : (offset : ℕ) → Comes l w key q offset → position_of l key offset ≢ q → w.index (position_of l key offset) ≢ 0 → w.keys (w.index (position_of l key offset) - 1) ≢ key → Comes l w key q (offset + 1)
    comes_on offset comes ne some other = (
      λ i h. dite (ℕ_discrete i offset) (λ e. subst (λ (j : ℕ). (0 < w.index (position_of l key j)) × (w.keys (w.index (position_of l key j) - 1) ≢ key)) (sym e) (omega arith, other)) (λ d. comes.0 i (omega arith)),
      λ i h. dite (ℕ_discrete i offset) (λ e. subst (λ (j : ℕ). position_of l key j ≢ q) (sym e) ne) (λ d. comes.1 i (omega arith)),
    )

  -- the answers of the loops
  module _ (key offset position word : ℕ) (at : position ≡ position_of l key offset) (is : word ≡ w.index position) where
    pub word_is : word ≡ w.index (position_of l key offset)
    word_is = is ∙ ap w.index at

    pub yes_placed : (r : ℕ) → key ≡ w.keys r → word ≡ r + 1 → is_placed l w.index r ≡ true
    yes_placed r k e = placed_found r key k offset (sym word_is ∙ e)

    pub no_placed : (r : ℕ) → key ≡ w.keys r → Seeks l w key r offset → word ≡ 0 → ¬ (is_placed l w.index r ≡ true)
    no_placed r k seeks e = placed_absent r key k offset seeks (sym word_is ∙ e)

    pub more_placed : (r : ℕ) → key ≡ w.keys r → Seeks l w key r offset → word ≢ r + 1 → word ≢ 0 → Seeks l w key r (offset + 1)
    more_placed r k seeks ne some = seeks_on r key k offset seeks (λ e. ne (word_is ∙ e)) (λ e. some (word_is ∙ e))

    module _ (goal : ℕ) (comes : Comes l w key goal offset) (other : position ≢ goal) where
      ne : position_of l key offset ≢ goal
      ne e = other (at ∙ e)

      pub empty_stops : word ≡ 0 → ¬ Reaches l w.keys w.index key goal
      empty_stops e = stopped key goal offset comes ne (λ q. let h = q.0 in let f : w.index (position_of l key offset) ≡ 0 = sym word_is ∙ e in omega arith)

      pub same_stops : (found : ℕ) → found ≡ w.keys (word - 1) → found ≡ key → ¬ Reaches l w.keys w.index key goal
      same_stops found f e = stopped key goal offset comes ne (λ q. q.1 (ap (λ (x : ℕ). w.keys (x - 1)) (sym word_is) ∙ (sym f ∙ e)))

      pub more_comes : (found : ℕ) → word ≢ 0 → found ≡ w.keys (word - 1) → found ≢ key → Comes l w key goal (offset + 1)
      more_comes found some f d = comes_on key goal offset comes ne (λ e. some (word_is ∙ e)) (λ e. d (f ∙ (ap (λ (x : ℕ). w.keys (x - 1)) word_is ∙ e)))

    pub word_low : word ≢ 0 → word ≤ record_count l
    word_low some = subst (λ (x : ℕ). x ≤ record_count l) (sym word_is) (filled_low (position_of l key offset) (let e = word_is in omega arith))
