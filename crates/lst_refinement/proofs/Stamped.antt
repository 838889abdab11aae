-- Words that name the same writers of the same tails tell the same commits and the same accepted writes. Stamps leave both.
use Rattle.std.proofs.Common.{◌≡◌, ℕ, zero, suc, ◌+◌, ◌-◌, ◌*◌, ◌/◌, ◌%◌, ◌<◌, eqb, nat_lt, [], ◌∷◌, ◌++◌, refl, ap, ◌∙◌, sym, arith, true≢false, ne_eqb, lt-ltb, ◌&&◌}
use Rattle.lst_layout.specs.declared.limits.Limits.{Limits}
use Rattle.lst_core_state.specs.Writes.{write}
use Rattle.lst_core_state.proofs.Writes.{writes_same}
use Rattle.lst_core_state.specs.declared.known.Known.{Known}
use Rattle.lst_core_state.specs.Cells.{tail_count}
use Rattle.lst_core_state.specs.State.{Words, writer, writer_at, record_in, act_in, is_by, writes_of, history_of}
use Rattle.lst_core_state.proofs.Histories.{history_same}
use Rattle.lst_core_state.proofs.Steps.{record_same, act_same}
use Rattle.lst_rule.specs.Watching.{IsStamped}
use Rattle.lst_refinement.specs.Telling.{accepted_at, accepted_first, told_store}
use Rattle.lst_refinement.specs.Laws.{StampsTellNothing}
use Rattle.lst_refinement.proofs.Openings.{store_same}

pub some_same : (x y : ℕ) → eqb y 0 ≡ eqb x 0 → nat_lt 0 y ≡ nat_lt 0 x
some_same zero zero same = refl
some_same zero (suc y) same = absurd (true≢false (sym same ∙ ne_eqb (suc y) 0 (λ e. omega arith)))
some_same (suc x) zero same = absurd (true≢false (same ∙ ne_eqb (suc x) 0 (λ e. omega arith)))
some_same (suc x) (suc y) same = lt-ltb 0 (suc y) (omega arith) ∙ sym (lt-ltb 0 (suc x) (omega arith))

-- the writes of tails up to a number
pub accepted_first_same : (l : Limits) (a b : Words) (range n : ℕ) → ((k : ℕ) → k < n → accepted_at l b (range * l.tails + suc k) ≡ accepted_at l a (range * l.tails + suc k)) → accepted_first l b range n ≡ accepted_first l a range n
accepted_first_same l a b range zero same = refl
accepted_first_same l a b range (suc n) same = λ i. accepted_first_same l a b range n (λ k low. same k (omega arith)) i ++ same n (omega arith) i ∷ []

-- words with the same writers
module _ (l : Limits) (a b : Words) (keys : (r : ℕ) → b.keys r ≡ a.keys r) (others : (t p : ℕ) → 0 < p → b.cells t p ≡ a.cells t p) (stored : (t : ℕ) → eqb (b.cells t 0) 0 ≡ eqb (a.cells t 0) 0) (writers : (t : ℕ) → writer_at b t ≡ writer_at a t) where
  key_at : (t : ℕ) → b.keys (record_in l b.cells t) ≡ a.keys (record_in l a.cells t)
  key_at t = ap b.keys (record_same l a.cells b.cells t (others t)) ∙ keys (record_in l a.cells t)

  by_at : (x t : ℕ) → is_by b.log b.cells x t ≡ is_by a.log a.cells x t
  by_at x t = λ i. some_same (a.cells t 0) (b.cells t 0) (stored t) i && eqb (writers t i) x

  pub writes_of_writers : (x : ℕ) → writes_of l b x ≡ writes_of l a x
  writes_of_writers x = writes_same (is_by a.log a.cells x) (is_by b.log b.cells x) (λ t. a.keys (record_in l a.cells t)) (λ t. b.keys (record_in l b.cells t)) (act_in l a.cells) (act_in l b.cells) (tail_count l) (by_at x)
      (λ t e. (key_at t, act_same l a.cells b.cells t (others t)))

  pub accepted_at_writers : (t : ℕ) → accepted_at l b t ≡ accepted_at l a t
  accepted_at_writers t = λ i. record { session = writers t i % 16; number = writers t i / 16; write = write (key_at t i) (act_same l a.cells b.cells t (others t) i) }

  pub accepted_writers : (range n : ℕ) → accepted_first l b range n ≡ accepted_first l a range n
  accepted_writers range n = accepted_first_same l a b range n (λ k low. accepted_at_writers (range * l.tails + suc k))

-- stamps of the words a
module _ (l : Limits) (a b : Words) (stamped : IsStamped a b) where
  abbrev w : Words
  w = record a { cells = b.cells }

  writers_stay : (t : ℕ) → writer_at w t ≡ writer_at a t
  writers_stay t = ap (λ (log : ℕ → ℕ). writer log (b.cells t 0)) (sym (ap (λ (x : Words). x.log) stamped.rest)) ∙ stamped.writers t

  history_stays : history_of l w ≡ history_of l a
  history_stays = history_same a.clock a.log a.log a.begins a.begins (writes_of l a) (writes_of l w)
      (λ t low high. λ i. record { session = a.log t % 16; number = a.log t / 16; begin = a.begins (a.log t % 16) (a.log t / 16) - 1; writes = writes_of_writers l a w (λ _. refl) stamped.others stamped.stored writers_stay (a.log t) i })

  stamped_store : (known : ℕ → Known) → told_store l w known ≡ told_store l a known
  stamped_store known = store_same (told_store l w known) (told_store l a known) history_stays refl (λ r. accepted_writers l a w (λ _. refl) stamped.others stamped.stored writers_stay r (a.counts r)) (λ _. refl) (λ _. refl) (λ _ _. refl)

pub stamps_tell_nothing : StampsTellNothing
stamps_tell_nothing l a b known stamped = ap (λ (x : Words). told_store l x known) stamped.rest ∙ stamped_store l a b stamped known
