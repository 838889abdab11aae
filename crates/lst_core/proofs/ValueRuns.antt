-- Walks along a value's run through a column's postings.
use Rattle.std.proofs.Common.{◌≡◌, ◌≢◌, ℕ, ◌+◌, ◌-◌, ◌%◌, ◌^◌, ◌<◌, ◌≤◌, List, Bool, true, refl, sym, subst, ap, ◌∙◌, arith, nat_lt, lt-ltb, ltb-true, true≢false}
use Rattle.std.proofs.lemmas.Bool.{not-true, not_from_false, false_from_ne_true}
use mathlib.Core.Logic.{dite}
use native.Mathlib.Decide.{ℕ_discrete, dec_lt}
use Rattle.lst_layout.specs.declared.limits.Limits.{Limits}
use Rattle.lst_layout.specs.Limits.{IsValid}
use Rattle.lst_layout.specs.Areas.{posting_bits, posting_positions, IsIndexed}
use Rattle.lst_layout.specs.Words.{Words, shown}
use Rattle.lst_probe.specs.Run.{start_of, run_position, IsReachable}
use Rattle.lst_probe.proofs.Runs.{passes_next}
use Rattle.lst_core_state.specs.Cells.{tail_count, has_number}
use Rattle.lst_core_state.specs.Postings.{postings_size, value_first, value_position, IsAlike, IsPosted, IsPostable}
use Rattle.lst_core_state.specs.declared.known.Hold.{Hold}
use Rattle.std.specs.Prelude.{◌↔◌, IsTrue, not}
use Rattle.lst_core_state.proofs.PostingsKept.{tails_some, tails_low}
use Rattle.lst_core.specs.Reading.{IsRead}
use Rattle.lst_core.specs.Seeks.{SeeksTail, ComesToTail, IsSettled, AreSettled}

module _ (l : Limits) (sized : IsValid l) where
  pub posting_bits_some : 1 ≤ posting_bits l
  unfolding postings_size
  posting_bits_some = dite (ℕ_discrete (posting_bits l) 0)
      (λ e. let h = tails_low l sized in let some = tails_some l sized in let one : postings_size l ≡ 2 ^ 0 = ap (λ (b : ℕ). 2 ^ b) e in absurd (omega arith))
      (λ ne. omega arith)

  pub value_position_is : (value offset first : ℕ) → first ≡ start_of value (posting_bits l) → (positions : ℕ) → positions ≡ posting_positions l → (first + offset) % positions ≡ value_position l value offset
  unfolding postings_size value_first run_position
  value_position_is value offset first e positions f = λ i. (e i + offset) % f i

-- a position of a column's postings
pub position_within : (l : Limits) (q n : ℕ) → n ≡ posting_positions l → IsTrue (nat_lt q n) ↔ q < postings_size l
unfolding postings_size
position_within l q n at = (λ t. subst (λ (m : ℕ). q < m) at (ltb-true q n t), λ h. lt-ltb q n (subst (λ (m : ℕ). q < m) (sym at) h))

-- a word there is 0 or a tail
pub tail_few : (l : Limits) (ws : List ℕ) → IsRead l ws → (column q : ℕ) → (shown l ws).postings column q ≤ tail_count l
tail_few l ws read column q = dite (ℕ_discrete ((shown l ws).postings column q) 0) (λ z. omega arith)
    (λ ne. (read.sound.versions.stored ((shown l ws).postings column q) (read.sound.postings.filled column q (omega arith)).stored).few)

module _ (l : Limits) (ws : List ℕ) (column r value : ℕ) where
  abbrev w : Words
  w = shown l ws

  abbrev tails : ℕ → ℕ
  tails = w.postings column

  abbrev at : ℕ → ℕ
  at i = value_position l value i

  abbrev IsOther : ℕ → Type 0
  IsOther t = ¬ IsAlike l w.cells column r value t

  abbrev Posted : Type 0
  Posted = IsPosted l w.cells tails column r value

  posted_found : (offset : ℕ) → SeeksTail l w column r value offset → offset < posting_positions l → 0 < tails (at offset) → IsAlike l w.cells column r value (tails (at offset)) → Posted
  unfolding postings_size
  posted_found offset seeks short some alike = record { position = at offset; reached = record { offset = offset; short = short; is = refl; filled = λ i h. (seeks i h).0 }; some = some; alike = alike }

  -- what is posted stands at the offset at which the walk is, or after it
  met : (p : Posted) → IsAlike l w.cells column r value (tails (at p.reached.offset))
  met p = subst (λ (q : ℕ). IsAlike l w.cells column r value (tails q)) p.reached.is p.alike

  posted_absent : (offset : ℕ) → SeeksTail l w column r value offset → tails (at offset) ≡ 0 → ¬ Posted
  posted_absent offset seeks free p = dite (dec_lt p.reached.offset offset)
      (λ h. (seeks p.reached.offset h).1 (met p))
      (λ late. dite (ℕ_discrete p.reached.offset offset)
      (λ e. let same : tails p.position ≡ tails (at offset) = ap tails (p.reached.is ∙ ap at e) in let some = p.some in omega arith)
      (λ ne. let some = p.reached.filled offset (grind (arith, late, ne)) in omega arith))

  pub posted_none : (offset : ℕ) → SeeksTail l w column r value offset → posting_positions l ≤ offset → ¬ Posted
  unfolding postings_size
  posted_none offset seeks end p = let h = p.reached.short in (seeks p.reached.offset (omega arith)).1 (met p)

  seeks_on : (offset : ℕ) → SeeksTail l w column r value offset → tails (at offset) ≢ 0 → IsOther (tails (at offset)) → SeeksTail l w column r value (offset + 1)
  seeks_on offset seeks some other = passes_next tails IsOther (postings_size l) (value_first l value) offset seeks (omega arith) other

  -- the answers of the loops, at an offset whose position has the word `tail`
  module _ (offset position tail : ℕ) (is_at : position ≡ value_position l value offset) (is : tail ≡ w.postings column position) where
    tail_is : tail ≡ tails (at offset)
    tail_is = is ∙ ap tails is_at

    alike_at : IsAlike l w.cells column r value tail → IsAlike l w.cells column r value (tails (at offset))
    alike_at a = subst (IsAlike l w.cells column r value) tail_is a

    other_at : ¬ IsAlike l w.cells column r value tail → IsOther (tails (at offset))
    other_at other a = other (subst (IsAlike l w.cells column r value) (sym tail_is) a)

    pub yes_posted : SeeksTail l w column r value offset → offset < posting_positions l → tail ≢ 0 → IsAlike l w.cells column r value tail → Posted
    yes_posted seeks short some a = posted_found offset seeks short (let e = tail_is in omega arith) (alike_at a)

    pub no_posted : SeeksTail l w column r value offset → tail ≡ 0 → ¬ Posted
    no_posted seeks none = posted_absent offset seeks (sym tail_is ∙ none)

    pub more_posted : SeeksTail l w column r value offset → tail ≢ 0 → ¬ IsAlike l w.cells column r value tail → SeeksTail l w column r value (offset + 1)
    more_posted seeks some other = seeks_on offset seeks (λ e. some (tail_is ∙ e)) (other_at other)

module _ (l : Limits) (ws : List ℕ) (column value goal : ℕ) where
  abbrev words : Words
  words = shown l ws

  abbrev word : ℕ → ℕ
  word i = words.postings column (value_position l value i)

  abbrev Reached : Type 0
  Reached = IsReachable (words.postings column) (postings_size l) (value_first l value) goal

  pub reached : (offset position : ℕ) → position ≡ value_position l value offset → ComesToTail l words column value goal offset → offset < posting_positions l → position ≡ goal → Reached
  unfolding postings_size
  reached offset position is_at comes low is = record { offset = offset; short = low; is = sym is ∙ is_at; filled = λ i h. (comes i h).0 }

  -- where the run is empty before the position, the position isn't reached
  pub stopped : (offset position found : ℕ) → position ≡ value_position l value offset → ComesToTail l words column value goal offset → position ≢ goal → found ≡ words.postings column position → found ≡ 0 → ¬ Reached
  stopped offset position found is_at comes apart is none r = dite (dec_lt r.offset offset) (λ h. (comes r.offset h).1 (sym r.is))
      (λ late. dite (ℕ_discrete r.offset offset)
      (λ e. apart (is_at ∙ (sym (ap (value_position l value) e) ∙ sym r.is)))
      (λ d. let some = r.filled offset (grind (arith, late, d)) in let empty : word offset ≡ 0 = ap (words.postings column) (sym is_at) ∙ (sym is ∙ none) in omega arith))

  pub ended : (offset : ℕ) → ComesToTail l words column value goal offset → posting_positions l ≤ offset → ¬ Reached
  unfolding postings_size
  ended offset comes end r = let h = r.short in (comes r.offset (omega arith)).1 (sym r.is)

  pub comes_on : (offset position found : ℕ) → position ≡ value_position l value offset → ComesToTail l words column value goal offset → position ≢ goal → found ≡ words.postings column position → found ≢ 0 → ComesToTail l words column value goal (offset + 1)
  comes_on offset position found is_at comes apart is some i h = dite (ℕ_discrete i offset)
      (λ e. subst (λ (j : ℕ). (0 < word j) × (value_position l value j ≢ goal)) (sym e) (let f : found ≡ word offset = is ∙ ap (words.postings column) is_at in omega arith, λ f. apart (is_at ∙ f)))
      (λ d. comes i (omega arith))

-- ---- columns

-- a column that is settled, as a call has it
pub settled_undue : (l : Limits) (w : Words) (r t column word : ℕ) → word ≡ w.cells t 1 → ¬ (IsIndexed l column × (has_number word column ≡ true)) → IsSettled l w r t column
settled_undue l w r t column word is undue indexed number = absurd (undue (indexed, ap (λ (e : ℕ). has_number e column) is ∙ number))

pub settled_due : (l : Limits) (w : Words) (r t column word value : ℕ) → word ≡ w.cells t 1 → value ≡ w.cells t (3 + column) → IsIndexed l column × (has_number word column ≡ true) → (b : Bool) → (IsTrue b ↔ IsPosted l w.cells (w.postings column) column r value) → IsTrue b ↔ IsSettled l w r t column
settled_due l w r t column word value is held due b says = (
  λ e indexed number. subst (λ (x : ℕ). IsPosted l w.cells (w.postings column) column r x) held (says.0 e),
  λ settled. says.1 (subst (λ (x : ℕ). IsPosted l w.cells (w.postings column) column r x) (sym held) (settled due.0 (sym (ap (λ (e : ℕ). has_number e column) is) ∙ due.1))),
)

pub settled_more : (l : Limits) (w : Words) (r t n : ℕ) → AreSettled l w r t n → IsSettled l w r t n → AreSettled l w r t (n + 1)
settled_more l w r t n before here column low = dite (ℕ_discrete column n)
    (λ e. subst (IsSettled l w r t) (sym e) here)
    (λ ne. before column (omega arith))

-- ---- whether a tail in hand may be posted, as a call has its words

module _ (l : Limits) (w : Words) (h : Hold) (column q word value : ℕ) (is : word ≡ w.cells h.tail 1) (held : value ≡ w.cells h.tail (3 + column)) where
  pub unnumbered : ¬ (has_number word column ≡ true) → ¬ IsPostable l w h column q
  unnumbered none p = none (ap (λ (e : ℕ). has_number e column) is ∙ p.number)

  pub unreached : ¬ IsReachable (w.postings column) (postings_size l) (value_first l value) q → ¬ IsPostable l w h column q
  unreached none p = none (subst (λ (x : ℕ). IsReachable (w.postings column) (postings_size l) (value_first l x) q) (sym held) p.reached)

  pub postable : has_number word column ≡ true → IsReachable (w.postings column) (postings_size l) (value_first l value) q
      → (b : Bool) → (IsTrue b ↔ IsPosted l w.cells (w.postings column) column (h.latch - 1) value) → IsTrue (not b) ↔ IsPostable l w h column q
  postable number reach b says = (
    λ t. record {
      number = sym (ap (λ (e : ℕ). has_number e column) is) ∙ number;
      reached = subst (λ (x : ℕ). IsReachable (w.postings column) (postings_size l) (value_first l x) q) held reach;
      unposted = λ posted. true≢false (sym (says.1 (subst (λ (x : ℕ). IsPosted l w.cells (w.postings column) column (h.latch - 1) x) (sym held) posted)) ∙ not-true b t);
    },
    λ p. not_from_false b (false_from_ne_true b (λ t. p.unposted (subst (λ (x : ℕ). IsPosted l w.cells (w.postings column) column (h.latch - 1) x) held (says.0 t)))),
  )
