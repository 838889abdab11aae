-- Settled tails go on where they ended, whatever step is made.
use Rattle.std.proofs.Common.{◌≡◌, ℕ, zero, suc, ◌+◌, ◌-◌, ◌*◌, ◌<◌, ◌≤◌, List, [], ◌∷◌, Bool, true, false, cond, refl, ap, ◌∙◌, arith, length, nat_lt, nat_le, ◌&&◌, ltb-true, lt-ltb, leb-true, le-leb, length-append}
use Rattle.lst_model.specs.declared.commits.Commit.{Commit}
use Rattle.lst_core_state.specs.declared.events.Event.{Event}
use Rattle.lst_core_state.specs.declared.facts.Fact.TheVariants.{CellIs}
use Rattle.lst_core_state.specs.Cells.{listed}
use Rattle.lst_core_state.specs.State.{Words, Core, writer_at, state_at, history_of, writes_of}
use Rattle.lst_core_state.specs.Step.{IsWithin, IsEnabled, after}
use Rattle.lst_core_state.specs.Laws.{StepOf, published}
use Rattle.lst_core_state.specs.Sound as core_parts
use Rattle.lst_core_state.proofs.Decoded.{both_say}
use Rattle.lst_core_state.proofs.Histories.{length-history}
use Rattle.lst_core_state.proofs.Statements.{steps_are_sound}
use Rattle.lst_pages.specs.declared.tails.PageTail.{PageTail}
use Rattle.lst_pages.specs.Settled.{tail_by, tail_in, is_settled, front, settled_tails}
use Rattle.lst_pages.specs.Lists.{GoesOn}
use Rattle.lst_pages.specs.StateLaws.{TailsGrow}

-- what is so stays so, with the same item
front_goes : (so so' : ℕ → Bool) (item item' : ℕ → PageTail) → ((t : ℕ) → so t ≡ true → (so' t ≡ true) × (item' t ≡ item t)) → (t n : ℕ) → GoesOn (front so' item' t n) (front so item t n)
front_goes so so' item item' stays t zero = ([], refl)
front_goes so so' item item' stays t (suc n) = go (front_goes so so' item item' stays (suc t) n) (so t) refl
  where
    go : GoesOn (front so' item' (suc t) n) (front so item (suc t) n) → (b : Bool) → so t ≡ b → GoesOn (front so' item' t (suc n)) (cond b (item t ∷ front so item (suc t) n) [])
    go on false e = (front so' item' t (suc n), refl)
    go on true e = let h = stays t e in (on.0, ap (λ (b : Bool). cond b (item' t ∷ front so' item' (suc t) n) []) h.0 ∙ (λ i. h.1 i ∷ on.1 i))

-- nothing is settled where no tail is so
pub front_none : (so : ℕ → Bool) (item : ℕ → PageTail) → ((t : ℕ) → so t ≡ false) → (t n : ℕ) → front so item t n ≡ []
front_none so item none t zero = refl
front_none so item none t (suc n) = ap (λ (b : Bool). cond b (item t ∷ front so item (suc t) n) []) (none t)

both_hold : (a b : Bool) → a ≡ true → b ≡ true → (a && b) ≡ true
both_hold a b e f = ap (λ (x : Bool). x && b) e ∙ f

-- what a settled tail is, and when it is one
pub settled_says : (w : Words) (t : ℕ) → is_settled w t ≡ true → (0 < w.cells t 0) × (0 < state_at w t) × (state_at w t ≤ w.clock + 1)
settled_says w t is = let a = both_say (nat_lt 0 (w.cells t 0)) (nat_lt 0 (state_at w t) && nat_le (state_at w t) (w.clock + 1)) is in
    let b = both_say (nat_lt 0 (state_at w t)) (nat_le (state_at w t) (w.clock + 1)) a.1 in (ltb-true 0 (w.cells t 0) a.0, ltb-true 0 (state_at w t) b.0, leb-true (state_at w t) (w.clock + 1) b.1)

pub settled_so : (w : Words) (t : ℕ) → 0 < w.cells t 0 → 0 < state_at w t → state_at w t ≤ w.clock + 1 → is_settled w t ≡ true
settled_so w t some ended low = both_hold (nat_lt 0 (w.cells t 0)) (nat_lt 0 (state_at w t) && nat_le (state_at w t) (w.clock + 1)) (lt-ltb 0 (w.cells t 0) some)
    (both_hold (nat_lt 0 (state_at w t)) (nat_le (state_at w t) (w.clock + 1)) (lt-ltb 0 (state_at w t) ended) (le-leb (state_at w t) (w.clock + 1) low))

module _ (c : Core) (sound : core_parts.Sound c) (e : Event) (within : IsWithin c.limits e) (able : IsEnabled c e) where
  abbrev w : Words
  w = c.words

  abbrev v : Words
  v = (after c e).words

  step : StepOf c e (after c e)
  step = steps_are_sound c sound e within able

  later : w.clock ≤ v.clock
  later = let a = length-history w.clock w.log w.begins (writes_of c.limits w) in let b = length-history v.clock v.log v.begins (writes_of (after c e).limits v) in
      let h = ap (λ (cs : List Commit). length cs) step.history in let g = length-append (history_of c.limits w) (published c e) in omega arith

  stays : (t : ℕ) → is_settled w t ≡ true → (is_settled v t ≡ true) × (tail_in c.limits v t ≡ tail_in c.limits w t)
  stays t is = let q = settled_says w t is in let some = q.0 in let ended = q.1 in let low = q.2 in
      let cell = step.facts (CellIs t (writer_at w t) (w.cells t 1) (w.cells t 2) (listed (w.cells t) 3 c.limits.columns)) (some, refl, refl, refl, refl) in
      let same = (step.settled t some ended).3 in let up = later in (
        settled_so v t cell.0 (omega arith) (omega arith),
        λ i. tail_by (cell.2 i) (cell.4 i) (same i - 1),
      )

  grows : (range : ℕ) → GoesOn (settled_tails c.limits v range) (settled_tails c.limits w range)
  unfolding settled_tails
  grows range = front_goes (is_settled w) (is_settled v) (tail_in c.limits w) (tail_in c.limits v) stays (range * c.limits.tails + 1) c.limits.tails

pub tails_grow : TailsGrow
tails_grow c sound e within able range = grows c sound e within able range
