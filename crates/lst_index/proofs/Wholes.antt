-- The words of a view that knows each word.
use Rattle.std.proofs.Common.{◌≡◌, ℕ, List, true, sym, subst, ap, ◌∙◌, slice_set}
use Rattle.lst_layout.specs.declared.place.Place.{Place}
use Rattle.lst_layout.specs.Addresses.{address}
use Rattle.lst_layout.specs.Words.{shown, word_at}
use Rattle.lst_core_state.specs.declared.events.Event.{Event}
use Rattle.lst_core_state.specs.Step.{session_of, words_after}
use Rattle.lst_rule.specs.declared.view.View.{View}
use Rattle.lst_rule.specs.Rule.{knows}
use Rattle.lst_rule.specs.Learned.{Made, Met}

-- what a step found stands in them
pub met_word : (v w : View) (e : Event) (p : Place) (x y : ℕ) → Met v w e p x y → v.whole ≡ true → word_at (shown v.limits v.words) p ≡ y
met_word v w e p x y h whole = subst (λ (ws : List ℕ). word_at (shown v.limits ws) p ≡ y) (sym (h.made.told.allowed.whole whole)) h.found

-- and they are what the step makes of them
pub made_shows : (v w : View) (e : Event) (p : Place) (x : ℕ) → Made v w e p x → v.whole ≡ true → shown v.limits w.words ≡ words_after v.limits (shown v.limits v.words) (knows v (session_of e)) e
made_shows v w e p x h whole = let same : v.words ≡ h.told.words = h.told.allowed.whole whole in
    subst (λ (ws : List ℕ). shown v.limits w.words ≡ words_after v.limits (shown v.limits ws) (knows v (session_of e)) e) (sym same)
    (ap (shown v.limits) (h.words ∙ ap (λ (ws : List ℕ). slice_set ws (address v.limits p) x) same) ∙ h.told.shows)
