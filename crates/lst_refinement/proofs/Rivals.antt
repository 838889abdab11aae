-- The last accepted write of a key that isn't closed is the newest version of its chain that isn't, and its commit time is its state word's.
use Rattle.std.proofs.Common.{◌≡◌, ◌≢◌, ℕ, zero, suc, ◌+◌, ◌-◌, ◌*◌, ◌/◌, ◌%◌, ◌<◌, ◌≤◌, Bool, true, false, cond, not, List, [], ◌∷◌, ◌++◌, refl, sym, subst, ap, ◌∙◌, arith, ⊎_elim, inl, inr, ◌⊎◌, true≢false, eqb, eq-eqb, ne_eqb, eqb-true, lt-ltb, le-ltb}
use mathlib.Core.Logic.{dite}
use native.Mathlib.Decide.{ℕ_discrete}
use Rattle.std.specs.Prelude.{Option, Some, None, unwrap_or, nat_lt, ◌==◌, ◌&&◌}
use Rattle.lst_layout.specs.declared.limits.Limits.{Limits}
use Rattle.lst_model.specs.declared.replies.Cause.{Cause}
use Rattle.lst_model.specs.declared.replies.Cause.TheVariants.{Newer, Unfinished}
use Rattle.lst_core_state.specs.Lists.{Has, Links}
use Rattle.lst_core_state.proofs.Lists.{links_low}
use Rattle.lst_core_state.proofs.Sights.{is_false}
use Rattle.lst_machine.specs.State.{Accepted}
use Rattle.lst_machine.specs.Writes.{last_where, rival_of, conflict_at, conflict_with, conflict_of}
use Rattle.lst_machine.proofs.Appending.{last-append}
use Rattle.lst_core_state.specs.Cells.{record_count, range_of}
use Rattle.lst_core_state.specs.Index.{is_placed}
use Rattle.lst_core_state.specs.State.{Words, Core, entry, writer_at, state_at, record_in, back_in, head_of, name_of, line, history_of}
use Rattle.lst_core_state.specs.Sound.{InHand, Drawn, StoredOf}
use Rattle.lst_core_state.proofs.Decoded.{both_say}
use Rattle.lst_refinement.specs.Crews.{IsCrew}
use Rattle.lst_refinement.specs.Telling.{accepted_at, accepted_first, told}
use Rattle.lst_refinement.specs.Laws.{AllClosed, Conflicts, ConflictsAreTold}
use Rattle.lst_refinement.proofs.Keys.{key_place}
use Rattle.lst_refinement.proofs.Owns.{no_hand, drawn_stored}
use Rattle.lst_refinement.proofs.Timed.{untimed, timed}

-- the last of a range's writes that passes a test
module _ (l : Limits) (w : Words) (range : ℕ) (f : Accepted → Bool) where
  abbrev at : ℕ → Accepted
  at j = accepted_at l w (range * l.tails + j)

  last_none : (n : ℕ) → ((j : ℕ) → 0 < j → j ≤ n → f (at j) ≡ false) → last_where f (accepted_first l w range n) ≡ None
  last_none zero fails = refl
  last_none (suc n) fails = last-append f (accepted_first l w range n) (at (suc n))
      ∙ (ap (λ b. cond b (Some (at (suc n))) (last_where f (accepted_first l w range n))) (fails (suc n) (omega arith) (omega arith))
      ∙ last_none n (λ j some low. fails j some (omega arith)))

  last_some : (n j : ℕ) → 0 < j → j ≤ n → f (at j) ≡ true → ((k : ℕ) → j < k → k ≤ n → f (at k) ≡ false) → last_where f (accepted_first l w range n) ≡ Some (at j)
  last_some zero j some low passes fails = absurd (omega arith)
  last_some (suc n) j some low passes fails = last-append f (accepted_first l w range n) (at (suc n)) ∙ dite (ℕ_discrete j (suc n))
      (λ e. ap (λ b. cond b (Some (at (suc n))) (last_where f (accepted_first l w range n))) (ap (λ k. f (at k)) (sym e) ∙ passes) ∙ ap (λ k. Some (at k)) (sym e))
      (λ ne. ap (λ b. cond b (Some (at (suc n))) (last_where f (accepted_first l w range n))) (fails (suc n) (omega arith) (omega arith)) ∙ last_some n j some (omega arith) passes (λ k above below. fails k above (omega arith)))

-- the parts of a chain
has_either : (t : ℕ) (xs ys : List ℕ) → Has t (xs ++ ys) → Has t xs ⊎ Has t ys
has_either t [] ys i = inr i
has_either t (x ∷ xs) ys (inl e) = inl (inl e)
has_either t (x ∷ xs) ys (inr i) = ⊎_elim (λ (h : Has t xs). inl (inr h)) (λ (h : Has t ys). inr h) (has_either t xs ys i)

has_later : (t : ℕ) (xs ys : List ℕ) → Has t ys → Has t (xs ++ ys)
has_later t [] ys i = i
has_later t (x ∷ xs) ys i = inr (has_later t xs ys i)

links_later : (back : ℕ → ℕ) (h : ℕ) (xs ys : List ℕ) → Links back h (xs ++ ys) → (k : ℕ) × Links back k ys
links_later back h [] ys links = (h, links)
links_later back h (x ∷ xs) ys links = links_later back (back x) xs ys links.3

module _ (c : Core) (crew : IsCrew c) (r : ℕ) (few : r < record_count c.limits) (placed : is_placed c.limits c.words.index r ≡ true) where
  abbrev l : Limits
  l = c.limits

  abbrev w : Words
  w = c.words

  abbrev is_rival : Accepted → Bool
  is_rival other = other.write.key == w.keys r && not (eqb (w.states other.session other.number) 1)

  rival_here : rival_of (told c) (w.keys r) ≡ last_where is_rival (accepted_first l w (range_of r) (w.counts (range_of r)))
  rival_here = ap (λ place. last_where is_rival (accepted_first l w (unwrap_or place 0 / 256) (w.counts (unwrap_or place 0 / 256)))) (key_place c crew r few placed)

  stored_at : (t : ℕ) → 0 < w.cells t 0 → StoredOf l w c.known t
  stored_at t some = crew.sound.versions.stored t some

  on_line : (t : ℕ) → Has t (line l w r) → (0 < w.cells t 0) × (record_in l w.cells t ≡ r)
  on_line t i = let line = crew.sound.versions.lines r few in (line.stored t i, line.here t i)

  -- a rival is on the chain, and isn't closed
  rival_says : (t : ℕ) → 0 < t → 0 < w.cells t 0 → is_rival (accepted_at l w t) ≡ true → Has t (line l w r) × (state_at w t ≢ 1)
  rival_says t pos some is = let both = both_say (w.keys (record_in l w.cells t) == w.keys r) (not (eqb (state_at w t) 1)) is in let stored = stored_at t some in
      let on : record_in l w.cells t ≡ r = crew.sound.versions.keys_apart (record_in l w.cells t) r stored.low few stored.index placed (eqb-true (w.keys (record_in l w.cells t)) (w.keys r) both.0) in (
        ⊎_elim (λ (i : Has t (line l w (record_in l w.cells t))). subst (λ (z : ℕ). Has t (line l w z)) on i) (λ (i : InHand l c.known t). absurd (no_hand c crew t i pos)) stored.place,
        λ closed. true≢false (sym both.1 ∙ ap not (eq-eqb (state_at w t) 1 closed)),
      )

  rival_holds : (t : ℕ) → Has t (line l w r) → state_at w t ≢ 1 → is_rival (accepted_at l w t) ≡ true
  rival_holds t i live = λ j. eq-eqb (w.keys (record_in l w.cells t)) (w.keys r) (ap w.keys (on_line t i).1) j && not (ne_eqb (state_at w t) 1 live j)

  drawn_at : (j : ℕ) → 0 < j → j ≤ w.counts (range_of r) → 0 < w.cells (range_of r * l.tails + j) 0
  drawn_at j some low = let low_range : range_of r < l.ranges = omega arith in let room = crew.tails (range_of r) low_range in drawn_stored c crew (range_of r) (range_of r * l.tails + j) low_range (omega arith, omega arith, omega arith)

  -- the place of a version of the chain in its range
  line_place : (t : ℕ) → Has t (line l w r) → Drawn l w.counts (range_of r) t
  line_place t i = let on = on_line t i in subst (λ (z : ℕ). Drawn l w.counts (range_of z) t) on.1 (stored_at t on.0).drawn

  module _ (passed rest : List ℕ) (whole : line l w r ≡ passed ++ rest) (closed : AllClosed w passed) where
    rival_rest : (t : ℕ) → 0 < t → 0 < w.cells t 0 → is_rival (accepted_at l w t) ≡ true → Has t rest
    rival_rest t pos some is = let q = rival_says t pos some is in
        ⊎_elim (λ (i : Has t passed). absurd (q.1 (closed t i))) (λ (i : Has t rest). i) (has_either t passed rest (subst (Has t) whole q.0))

    rival_none : rest ≡ [] → rival_of (told c) (w.keys r) ≡ None
    rival_none none = rival_here ∙ last_none l w (range_of r) is_rival (w.counts (range_of r)) (λ j some low. is_false (is_rival (accepted_at l w (range_of r * l.tails + j)))
        (λ is. let i : Has (range_of r * l.tails + j) [] = subst (Has (range_of r * l.tails + j)) none (rival_rest (range_of r * l.tails + j) (omega arith) (drawn_at j some low) is) in i))

    module _ (t : ℕ) (older : List ℕ) (first : rest ≡ t ∷ older) where
      first_line : Has t (line l w r)
      first_line = subst (Has t) (sym whole) (has_later t passed rest (subst (Has t) (sym first) (inl refl)))

      first_high : (u : ℕ) → Has u rest → u ≤ t
      first_high u i = let links = links_later (back_in l w.cells) (head_of l r (w.heads r)) passed rest (subst (Links (back_in l w.cells) (head_of l r (w.heads r))) whole (crew.sound.versions.lines r few).links) in
          let linked : Links (back_in l w.cells) links.0 (t ∷ older) = subst (Links (back_in l w.cells) links.0) first links.1 in let e : links.0 ≡ t = linked.0 in
          let low : u ≤ links.0 = links_low (back_in l w.cells) links.0 rest links.1 u i in omega arith

      rival_is : state_at w t ≢ 1 → rival_of (told c) (w.keys r) ≡ Some (accepted_at l w t)
      rival_is live = let drawn = line_place t first_line in let a = drawn.0 in let b = drawn.1 in let d = drawn.2 in let j : ℕ = t - range_of r * l.tails in let e : range_of r * l.tails + j ≡ t = omega arith in
          rival_here
          ∙ (last_some l w (range_of r) is_rival (w.counts (range_of r)) j (omega arith) (omega arith) (subst (λ (u : ℕ). is_rival (accepted_at l w u) ≡ true) (sym e) (rival_holds t first_line live))
          (λ k above low. is_false (is_rival (accepted_at l w (range_of r * l.tails + k)))
          (λ is. let h = first_high (range_of r * l.tails + k) (rival_rest (range_of r * l.tails + k) (omega arith) (drawn_at k (omega arith) low) is) in absurd (omega arith)))
          ∙ ap (λ u. Some (accepted_at l w u)) e)

      -- its transaction's name
      abbrev x : ℕ
      x = writer_at w t

      first_stored : 0 < w.cells t 0
      first_stored = (on_line t first_line).0

      module _ (s begin : ℕ) where
        abbrev answer : Option Cause
        answer = conflict_of (told c) s begin (w.keys r)

        open_answer : state_at w t ≡ 0 → answer ≡ cond (x % 16 == s) None (Some (Unfinished (x % 16) (x / 16)))
        open_answer none = ap (conflict_with (history_of l w) s begin) (rival_is (λ e. omega arith)) ∙ ap (conflict_at s begin (accepted_at l w t)) (untimed c crew t first_stored none)

        timed_answer : (time : ℕ) → 0 < time → state_at w t ≡ time + 1 → answer ≡ cond (nat_lt begin time) (Some (Newer time)) None
        timed_answer time pos is = ap (conflict_with (history_of l w) s begin) (rival_is (λ e. omega arith)) ∙ ap (conflict_at s begin (accepted_at l w t)) (timed c crew t first_stored time pos is)

    module _ (s : ℕ) (low : s < l.sessions) (is_on : (c.known s).is_open ≡ true) where
      abbrev begin : ℕ
      begin = (c.known s).begin

      -- an open transaction has no state word
      own_state : (t : ℕ) → writer_at w t ≡ name_of s (c.known s).number → state_at w t ≡ 0
      own_state t e = let sessions = crew.sound.sized.sessions.1 in let away = (crew.idle s low).turn in ap (entry w.states) e ∙ ((λ i. w.states (let a : name_of s (c.known s).number % 16 ≡ s = omega arith in a i) (let a : name_of s (c.known s).number / 16 ≡ (c.known s).number = omega arith in a i)) ∙ (crew.sound.each s low).open_state is_on (λ f. omega arith))

      pub conflicts : Conflicts c s r passed rest (conflict_of (told c) s begin (w.keys r))
      conflicts = record {
        none = λ e. ap (conflict_with (history_of l w) s begin) (rival_none e);
        own = λ t older first e. let sessions = crew.sound.sized.sessions.1 in let f : writer_at w t ≡ 16 * (c.known s).number + s = e in open_answer t older first s begin (own_state t e) ∙ ap (λ b. cond b None (Some (Unfinished (writer_at w t % 16) (writer_at w t / 16)))) (eq-eqb (writer_at w t % 16) s (omega arith));
        seen = λ t time older first pos is early. timed_answer t older first s begin time pos is ∙ ap (λ b. cond b (Some (Newer time)) None) (le-ltb begin time early);
        newer = λ t time older first is late. timed_answer t older first s begin time (omega arith) is ∙ ap (λ b. cond b (Some (Newer time)) None) (lt-ltb begin time late);
        unfinished = λ t older first is other. open_answer t older first s begin is ∙ ap (λ b. cond b None (Some (Unfinished (writer_at w t % 16) (writer_at w t / 16)))) (ne_eqb (writer_at w t % 16) s other);
      }

pub conflicts_are_told : ConflictsAreTold
conflicts_are_told c crew s r passed rest low is_on few placed whole closed = conflicts c crew r few placed passed rest whole closed s low is_on
