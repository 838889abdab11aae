-- What looks and stamps leave of the words.
use Rattle.std.proofs.Common.{◌≡◌, ◌≢◌, ℕ, ◌+◌, ◌-◌, ◌*◌, ◌/◌, ◌%◌, List, true, eqb, set, refl, sym, subst, ap, ◌∙◌, arith, ne_eqb}
use mathlib.Core.Logic.{dite}
use native.Mathlib.Decide.{ℕ_discrete}
use Rattle.lst_layout.specs.declared.place.Place.{Place}
use Rattle.lst_layout.specs.Addresses.{address}
use Rattle.lst_layout.specs.Functions.{put_in}
use Rattle.lst_layout.specs.Words.{Words, shown}
use Rattle.lst_core_state.specs.declared.events.Event.{Event}
use Rattle.lst_core_state.specs.declared.events.Event.TheVariants.{Stamp}
use Rattle.lst_core_state.specs.State.{Core, writer, writer_at, state_at}
use Rattle.lst_core_state.specs.Step.{session_of, IsCommitted, words_after}
use Rattle.lst_core_state.specs.Sound.{Sound}
use Rattle.lst_core_state.proofs.CellsKept.{put_in_here, put_in_off, put_in_place}
use Rattle.lst_core_state.proofs.Steps.{writer_even}
use Rattle.lst_core_state.specs.State.{state_over}
use Rattle.lst_rule.specs.declared.view.View.{View}
use Rattle.lst_rule.specs.Rule.{knows}
use Rattle.lst_rule.specs.Learned.{Kept, Made}
use Rattle.lst_rule.proofs.Knowing.{whole_words}
use Rattle.lst_rule.specs.Watching.{IsStamped, KeepsStamps}

pub stamped_same : (w : Words) → IsStamped w w
stamped_same w = record { rest = refl; others = λ t p some. refl; stored = λ t. refl; writers = λ t. refl }

pub stamped_on : (a b c : Words) → IsStamped a b → IsStamped b c → IsStamped a c
stamped_on a b c p q = record {
  rest = q.rest ∙ ap (λ (w : Words). record w { cells = c.cells }) p.rest;
  others = λ t k some. q.others t k some ∙ p.others t k some;
  stored = λ t. q.stored t ∙ p.stored t;
  writers = λ t. q.writers t ∙ p.writers t;
}

-- a stamp of the tail x
module _ (c : Core) (sound : Sound c) (x : ℕ) (is : IsCommitted c.words x) where
  abbrev w : Words
  w = c.words

  abbrev time : ℕ
  time = state_at c.words x - 1

  abbrev after : Words
  after = record c.words { cells = put_in c.words.cells x 0 (2 * (state_at c.words x - 1)) }

  here : after.cells x 0 ≡ 2 * time
  here = put_in_here w.cells x 0 (2 * time)

  else : (t : ℕ) → t ≢ x → after.cells t 0 ≡ w.cells t 0
  else t other = put_in_off w.cells x 0 (2 * time) t 0 other

  -- the log at that time names its transaction
  named : writer_at after x ≡ writer_at w x
  named = let own : ℕ = writer_at w x in let begun = (sound.versions.stored x is.0).begun in let h = here in let low = is.1 in let high = is.2 in
      writer_even w.log (after.cells x 0) (omega arith) ∙ (ap w.log (let e : after.cells x 0 / 2 ≡ time = omega arith in e) ∙ (sound.times.found (own % 16) (own / 16) time begun.0 (omega arith) (omega arith) (omega arith) ∙ (omega arith)))

  pub stamp_stamps : IsStamped c.words (record c.words { cells = put_in c.words.cells x 0 (2 * (state_at c.words x - 1)) })
  stamp_stamps = record {
    rest = refl;
    others = λ t p some. put_in_place w.cells x 0 (2 * time) t p (λ e. omega arith);
    stored = λ t. dite (ℕ_discrete t x)
        (λ e. subst (λ (y : ℕ). eqb (after.cells y 0) 0 ≡ eqb (w.cells y 0) 0) (sym e) (let h = here in let low = is.1 in let some = is.0 in ne_eqb (after.cells x 0) 0 (λ z. omega arith) ∙ sym (ne_eqb (w.cells x 0) 0 (λ z. omega arith))))
        (λ other. ap (λ (y : ℕ). eqb y 0) (else t other));
    writers = λ t. dite (ℕ_discrete t x) (λ e. subst (λ (y : ℕ). writer_at after y ≡ writer_at w y) (sym e) named) (λ other. ap (writer w.log) (else t other));
  }

  pub stamp_keeps : KeepsStamps c.words (record c.words { cells = put_in c.words.cells x 0 (2 * (state_at c.words x - 1)) })
  stamp_keeps t even = dite (ℕ_discrete t x)
      (λ e. subst (λ (y : ℕ). after.cells y 0 % 2 ≡ 0) (sym e) (let h = here in omega arith))
      (λ other. ap (λ (y : ℕ). y % 2) (else t other) ∙ even)

-- the words that a view knows

pub kept_stamped : (v w : View) → w.limits ≡ v.limits → Kept v w → v.whole ≡ true → IsStamped (shown v.limits v.words) (shown w.limits w.words)
kept_stamped v w same kept whole = subst (λ (b : Words). IsStamped (shown v.limits v.words) b) (λ i. shown (sym same i) (sym (kept.words whole) i)) (stamped_same (shown v.limits v.words))

pub kept_keeps : (v w : View) → w.limits ≡ v.limits → Kept v w → v.whole ≡ true → KeepsStamps (shown v.limits v.words) (shown w.limits w.words)
kept_keeps v w same kept whole = subst (λ (b : Words). KeepsStamps (shown v.limits v.words) b) (λ i. shown (sym same i) (sym (kept.words whole) i)) (λ t even. even)

-- what a step makes of them
pub made_words : (v w : View) (e : Event) (p : Place) (x : ℕ) → Made v w e p x → v.whole ≡ true → shown w.limits w.words ≡ words_after v.limits (shown v.limits v.words) (knows v (session_of e)) e
made_words v w e p x made whole = let t = made.told in let known : v.words ≡ t.words = t.allowed.whole whole in
    (λ i. shown (made.view.limits i) ((made.words ∙ ap (λ (ws : List ℕ). set ws (address v.limits p) x) known) i)) ∙ (t.shows ∙ ap (λ (ws : List ℕ). words_after v.limits (shown v.limits ws) (knows v (session_of e)) e) (sym known))

pub made_stamped : (v w : View) (s range n x : ℕ) (p : Place) → Made v w (Stamp s range n) p x → v.whole ≡ true → IsStamped (shown v.limits v.words) (shown w.limits w.words)
made_stamped v w s range n x p made whole = let t = made.told in let a = whole_words v t.words t.known t.merger t.allowed whole in
    subst (λ (b : Words). IsStamped (shown v.limits v.words) b) (sym (made_words v w (Stamp s range n) p x made whole))
    (stamp_stamps (state_over v.limits v.words t.known t.merger) a.sound (range * v.limits.tails + n) (subst (λ (ws : List ℕ). IsCommitted (shown v.limits ws) (range * v.limits.tails + n)) (sym (t.allowed.whole whole)) t.enabled.1))

pub made_keeps : (v w : View) (s range n x : ℕ) (p : Place) → Made v w (Stamp s range n) p x → v.whole ≡ true → KeepsStamps (shown v.limits v.words) (shown w.limits w.words)
made_keeps v w s range n x p made whole = let t = made.told in let a = whole_words v t.words t.known t.merger t.allowed whole in
    subst (λ (b : Words). KeepsStamps (shown v.limits v.words) b) (sym (made_words v w (Stamp s range n) p x made whole))
    (stamp_keeps (state_over v.limits v.words t.known t.merger) a.sound (range * v.limits.tails + n) (subst (λ (ws : List ℕ). IsCommitted (shown v.limits ws) (range * v.limits.tails + n)) (sym (t.allowed.whole whole)) t.enabled.1))
