-- Stores of the words of a tail in hand, but its start word.
use Rattle.std.proofs.Common.{◌≡◌, ℕ, zero, suc, ◌+◌, ◌-◌, ◌^◌, ◌<◌, ◌≤◌, List, Bool, true, false, cond, bit_or, set, slice_index, slice_index_or, refl, sym, subst, ap, ◌∙◌, arith, ne_eqb, get_or-set_same, get_or-set_other, length-set}
use mathlib.Core.Logic.{dite}
use native.Mathlib.Decide.{ℕ_discrete}
use Rattle.lst_layout.specs.declared.place.Place.{Place}
use Rattle.lst_core_state.specs.declared.known.Known.{Known}
use Rattle.lst_core_state.specs.declared.known.Draft.{Draft}
use Rattle.lst_core_state.specs.declared.events.Event.TheVariants.{StoreCell}
use Rattle.lst_core_state.specs.Step.{Enabled, cell_started, word_stored}
use Rattle.lst_layout.specs.Functions.{put_in}
use Rattle.lst_layout.specs.Words.{Words, shown}
use Rattle.lst_layout.proofs.Functions.{put_in_other}
use Rattle.lst_rule.specs.declared.view.View.{View}
use Rattle.lst_rule.specs.Rule.{knows, hosts}
use Rattle.lst_rule.specs.Learned.{Learns, CanStand, Made}
use Rattle.lst_rule.proofs.Learning.{learns_on}
use Rattle.lst_rule.proofs.Stamps.{made_words}
use Rattle.lst_rule.specs.declared.store.Store.{Store}
use Rattle.lst_rule.specs.Seats.{Sitting}
use Rattle.lst_rule.specs.Stores.{IsSeatOf}
use Rattle.lst_write.specs.Appending.{ChangesTail, known_words, IsDraft, Stores}

-- the bits of the places below one, and then of that one
next_place : (p : ℕ) → 0 < p → p < 11 → bit_or (2 ^ p - 2) (2 ^ p) ≡ 2 ^ (p + 1) - 2
next_place zero some low = absurd (omega arith)
next_place (suc zero) some low = refl
next_place (suc (suc zero)) some low = refl
next_place (suc (suc (suc zero))) some low = refl
next_place (suc (suc (suc (suc zero)))) some low = refl
next_place (suc (suc (suc (suc (suc zero))))) some low = refl
next_place (suc (suc (suc (suc (suc (suc zero)))))) some low = refl
next_place (suc (suc (suc (suc (suc (suc (suc zero))))))) some low = refl
next_place (suc (suc (suc (suc (suc (suc (suc (suc zero)))))))) some low = refl
next_place (suc (suc (suc (suc (suc (suc (suc (suc (suc zero))))))))) some low = refl
next_place (suc (suc (suc (suc (suc (suc (suc (suc (suc (suc zero)))))))))) some low = refl
next_place (suc (suc (suc (suc (suc (suc (suc (suc (suc (suc (suc p))))))))))) some low = absurd (omega arith)

-- one more word
draft_on : (columns : ℕ) (d : Draft) (word : ℕ → ℕ) (p x : ℕ) → 0 < p → p < 11 → p < 3 + columns → x ≡ word p → IsDraft columns d word p → IsDraft columns (record d { words = set d.words p x; stored = bit_or d.stored (2 ^ p) }) word (p + 1)
draft_on columns d word p x some few low is draft = record {
  wide = length-set d.words p x ∙ draft.wide;
  stored = ap (λ (m : ℕ). bit_or m (2 ^ p)) draft.stored ∙ next_place p some few;
  same = λ q above below. dite (ℕ_discrete q p)
      (λ e. subst (λ (i : ℕ). slice_index (set d.words p x) i ≡ word i) (sym e) (get_or-set_same d.words p x 0 (let w = draft.wide in omega arith) ∙ is))
      (λ ne. get_or-set_other d.words p q x 0 ne ∙ draft.same q above (omega arith));
}

-- ---- the words of one tail

changes_none : (w : Words) (tail : ℕ) → ChangesTail w w tail
changes_none w tail = record { rest = refl; others = λ t p other. refl }

changes_on : (a b c : Words) (tail : ℕ) → ChangesTail a b tail → ChangesTail b c tail → ChangesTail a c tail
changes_on a b c tail x y = record {
  rest = y.rest ∙ ap (λ (w : Words). record w { cells = c.cells }) x.rest;
  others = λ t p other. y.others t p other ∙ x.others t p other;
}

-- after the words a, a word of the tail in hand is stored
pub changes_next : (a : Words) (v w : View) (s p x tail : ℕ) (at : Place) → v.whole ≡ true → (knows v s).hold.tail ≡ tail → ChangesTail a (known_words v) tail → Made v w (StoreCell s p x) at x → ChangesTail a (known_words w) tail
changes_next a v w s p x tail at whole is before made = let b : Words = known_words v in changes_on a b (known_words w) tail before
    (subst (λ (c : Words). ChangesTail b c tail) (sym (made_words v w (StoreCell s p x) at x made whole ∙ ap (λ (t : ℕ). record b { cells = put_in b.cells t p x }) is))
    record { rest = refl; others = λ t q other. ap (λ (row : ℕ → ℕ). row q) (put_in_other b.cells tail p x t other) })

-- ---- a step of the loop

module _ (store : Store) (v : View) (seat : Sitting) (s : ℕ) (word : ℕ → ℕ) (p : ℕ) (S : Stores store v seat s word p) where
  abbrev k : Known
  k = knows seat.view s

  -- a word may be stored, with a tail in hand that isn't whole
  pub store_enabled : (x : ℕ) → 0 < (knows v s).hold.tail → (knows v s).hold.is_whole ≡ false → Enabled seat.view.limits (knows seat.view s) (StoreCell s p x)
  store_enabled x tail blank = (
    subst (λ (z : Known). 0 < z.hold.tail) (sym S.view.now) tail,
    ap (λ (z : Known). z.hold.is_whole) S.view.now ∙ blank,
    λ e. absurd (let some = S.some in omega arith),
  )

  pub store_stands : (x : ℕ) → CanStand seat.view (StoreCell s p x)
  store_stands x words known merger a e = absurd (let some = S.some in omega arith)

  pub stores_on : (next : Sitting) (x : ℕ) (at : Place) → p < 3 + store.layout.limits.columns → store.layout.limits.columns ≤ 8 → x ≡ word p → IsSeatOf store next → Made seat.view next.view (StoreCell s p x) at x → Stores store v next s word (p + 1)
  stores_on next x at low few is seat_of made = let learns : Learns seat.view next.view s (word_stored k p x) = subst (λ (b : Bool). Learns seat.view next.view s (cond b (cell_started seat.view.limits (shown seat.view.limits made.told.words) k p x) (word_stored k p x))) (ne_eqb p 0 (λ e. let some = S.some in omega arith)) made.view in record {
    seat_of = seat_of;
    host = ap (λ (bs : List Bool). slice_index_or bs s false) learns.hosted ∙ S.host;
    view = subst (λ (z : Known). Learns v next.view s z) ((λ i. record (S.view.now i) { draft = record k.draft { words = set k.draft.words p x; stored = bit_or k.draft.stored (2 ^ p) } })
        ∙ (λ i. record (knows v s) { draft = sym (ap (λ (z : Known). z.draft) learns.now) i })) (learns_on v seat.view next.view s _ _ S.view learns);
    some = omega arith;
    low = omega arith;
    draft = subst (λ (d : Draft). IsDraft store.layout.limits.columns d word (p + 1)) (sym (ap (λ (z : Known). z.draft) learns.now))
        (draft_on store.layout.limits.columns k.draft word p x S.some (omega arith) low is S.draft);
    words = λ whole. changes_next (known_words v) seat.view next.view s p x (knows v s).hold.tail at (S.view.whole ∙ whole) (ap (λ (z : Known). z.hold.tail) S.view.now) (S.words whole) made;
  }

pub stores_start : (store : Store) (seat : Sitting) (s : ℕ) (word : ℕ → ℕ) → IsSeatOf store seat → hosts seat.view s ≡ true → IsDraft store.layout.limits.columns (knows seat.view s).draft word 1 → Stores store seat.view seat s word 1
stores_start store seat s word seat_of host draft = record {
  seat_of = seat_of;
  host = host;
  view = record { now = refl; others = λ t other. refl; hosted = refl; limits = refl; note = refl; note_facts = refl; whole = refl };
  some = omega arith;
  low = omega arith;
  draft = draft;
  words = λ whole. changes_none (known_words seat.view) (knows seat.view s).hold.tail;
}
