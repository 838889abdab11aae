-- The history of every sound state is a sound history, and so is what anybody has seen of it.
use Rattle.std.proofs.Common.{◌≡◌, ◌≢◌, ◌⊎◌, ℕ, suc, ◌+◌, ◌-◌, ◌/◌, ◌%◌, ◌<◌, ◌≤◌, List, [], ◌∷◌, ◌++◌, true, take, length, refl, sym, subst, ap, ◌∙◌, arith, inl, inr, ⊎_elim, append_assoc, length-append}
use Rattle.std.specs.Prelude.{Option, None}
use mathlib.Core.Logic.{dite}
use native.Mathlib.Decide.{ℕ_discrete, dec_lt}
use Rattle.std.proofs.Math.Seq.{take-append_seam}
use Rattle.lst_model.specs.declared.acts.Act.{Act}
use Rattle.lst_model.specs.declared.acts.Write.{Write}
use Rattle.lst_model.specs.declared.commits.Commit.{Commit}
use Rattle.lst_model.specs.Cells.{Cell}
use Rattle.lst_model.specs.Histories.{acts_on, all_acts_on, row_from, Extends}
use Rattle.lst_model.specs.Soundness.{FitInTurn, Follows, IsSound}
use Rattle.lst_model.proofs.Folds.{row_from-append}
use Rattle.lst_model.proofs.Fitting.{in_order}
use Rattle.lst_core_state.specs.Lists.{Fitted}
use Rattle.lst_core_state.specs.Cells.{record_count}
use Rattle.lst_core_state.specs.Index.{is_placed}
use Rattle.lst_core_state.specs.State.{Words, Core, entry, writes_of, history, history_of, commit_at, FitsAfter}
use Rattle.lst_core_state.specs.Sound.{Sound}
use Rattle.lst_core_state.proofs.Histories.{length-history, history-next}
use Rattle.lst_core_state.proofs.Decoded.{by_none, find_key, writes_on}
use Rattle.lst_core_state.proofs.Sightings.{history_front, disjoint, commit_fits}

-- acts that fit after those before them fit in turn
pub fitted_turn : (base acts : List Act) → Fitted FitsAfter base acts → FitInTurn (row_from None base) acts
fitted_turn base [] fitted = tt
fitted_turn base (a ∷ acts) fitted = (fitted.0, subst (λ (row : Option (List Cell)). FitInTurn row acts) (row_from-append None base (a ∷ [])) (fitted_turn (base ++ a ∷ []) acts fitted.1))

last_of : Commit → List Commit → Commit
last_of d [] = d
last_of d (x ∷ xs) = last_of x xs

last_snoc : (d x : Commit) (xs : List Commit) → last_of d (xs ++ x ∷ []) ≡ x
unfolding last_of
last_snoc d x [] = refl
last_snoc d x (y ∷ ys) = last_snoc y x ys

same_last : (x y : Commit) (xs : List Commit) → xs ++ x ∷ [] ≡ xs ++ y ∷ [] → x ≡ y
same_last x y xs e = sym (last_snoc x x xs) ∙ ap (last_of x) e ∙ last_snoc x y xs

nil_or : (l : List Act) → (l ≡ []) ⊎ (l ≢ [])
nil_or [] = inl refl
nil_or (a ∷ l) = inr (λ e. let h : suc (length l) ≡ 0 = ap length e in omega arith)

pub prefix_sound : (all front : List Commit) → Extends all front → IsSound all → IsSound front
prefix_sound all front p sound before c rest e = sound before c (rest ++ p.0) (p.1 ∙ (ap (λ (l : List Commit). l ++ p.0) e ∙ append_assoc before (c ∷ rest) p.0))

module _ (c : Core) (sound : Sound c) where
  abbrev w : Words
  w = c.words

  abbrev ws : ℕ → List Write
  ws = writes_of c.limits w

  abbrev upto : ℕ → List Commit
  upto n = history n w.log w.begins ws

  -- a commit of the history is the one of its time
  split : (n : ℕ) → n ≤ w.clock → (front : List Commit) (x : Commit) (rest : List Commit) → upto n ≡ front ++ x ∷ rest → (length front + 1 ≤ n) × (front ≡ upto (length front)) × (x ≡ commit_at w.log w.begins ws (length front + 1))
  split n high front x rest e = let m : ℕ = length front in let size : length (upto n) ≡ length (front ++ x ∷ rest) = ap length e in let all = length-history n w.log w.begins ws in let parts = length-append front (x ∷ rest) in
      let short : m + 1 ≤ n = room (length (upto n)) m (length rest) n all (size ∙ parts) in
      let before : front ≡ upto m = sym (take-append_seam front (x ∷ rest)) ∙ (ap (take m) (sym e) ∙ history_front n m w.log w.begins ws (omega arith)) in
      let one : front ++ x ∷ [] ≡ upto (m + 1) = sym (take-append_seam (front ++ x ∷ []) rest) ∙ (ap (take (length (front ++ x ∷ []))) (append_assoc front (x ∷ []) rest ∙ sym e) ∙ (ap (λ (k : ℕ). take k (upto n)) (length-append front (x ∷ [])) ∙ history_front n (m + 1) w.log w.begins ws short)) in
      (short, before, same_last x (commit_at w.log w.begins ws (m + 1)) front (one ∙ (history-next m w.log w.begins ws ∙ ap (λ (l : List Commit). l ++ commit_at w.log w.begins ws (m + 1) ∷ []) (sym before))))
    where
      room : (a m r n : ℕ) → a ≡ n → a ≡ m + suc r → m + 1 ≤ n
      room a m r n e f = omega arith

  -- what follows at each time
  follows_at : (m : ℕ) → m + 1 ≤ w.clock → Follows (upto m) (commit_at w.log w.begins ws (m + 1))
  follows_at m high = let u : ℕ = m + 1 in let n = sound.times.named u (omega arith) high in let begun = n.begun in let early = n.early in let size = length-history m w.log w.begins ws in record {
    begin = omega arith;
    apart = λ before d between e late k. let s = split m (omega arith) before d between e in let short = s.0 in let t : ℕ = length before + 1 in
        ⊎_elim (λ (z : acts_on k (ws (w.log t)) ≡ []). inl (ap (λ (x : Commit). acts_on k x.writes) s.2 ∙ z))
        (λ (some : acts_on k (ws (w.log t)) ≢ []). ⊎_elim (λ (z : acts_on k (ws (w.log u)) ≡ []). inr z) (λ (more : acts_on k (ws (w.log u)) ≢ []). let h = disjoint c sound t u k (omega arith) (omega arith) high some more in absurd (omega arith)) (nil_or (acts_on k (ws (w.log u)))))
        (nil_or (acts_on k (ws (w.log t))));
    numbers = λ before d between e same_session. let s = split m (omega arith) before d between e in let short = s.0 in let t : ℕ = length before + 1 in let nt = sound.times.named t (omega arith) (omega arith) in
        let at_t : d.number ≡ w.log t / 16 = ap (λ (x : Commit). x.number) s.2 in let who : w.log t % 16 ≡ w.log u % 16 = sym (ap (λ (x : Commit). x.session) s.2) ∙ same_session in let r = sound.each (w.log u % 16) n.session in
        let state_t = nt.state in let state_u = n.state in let there : w.states (w.log t % 16) (w.log t / 16) ≡ w.states (w.log u % 16) (w.log t / 16) = ap (λ (x : ℕ). w.states x (w.log t / 16)) who in
        dite (dec_lt (w.log t / 16) (w.log u / 16)) (λ h. omega arith)
        (λ h. absurd (dite (ℕ_discrete (w.log t / 16) (w.log u / 16))
        (λ e. let q : w.states (w.log u % 16) (w.log t / 16) ≡ w.states (w.log u % 16) (w.log u / 16) = ap (w.states (w.log u % 16)) e in omega arith)
        (λ ne. let less : w.log u / 16 < w.log t / 16 = grind (arith, h, ne) in let q = r.rises (w.log u / 16) (w.log t / 16) less (omega arith) (omega arith) in omega arith)));
    fits = in_order (upto m) (commit_at w.log w.begins ws u).begin (ws (w.log u)) (λ k. fitted_turn (all_acts_on k (take (entry w.begins (w.log u) - 1) (upto m))) (acts_on k (ws (w.log u))) (subst (λ (l : List Commit). Fitted FitsAfter (all_acts_on k l) (acts_on k (ws (w.log u)))) (sym (history_front m (entry w.begins (w.log u) - 1) w.log w.begins ws (omega arith)))
        (⊎_elim
        (λ (q : (r : ℕ) × (r < record_count c.limits) × (is_placed c.limits w.index r ≡ true) × (w.keys r ≡ k)). subst (λ (z : ℕ). Fitted FitsAfter (all_acts_on z (upto (entry w.begins (w.log u) - 1))) (acts_on z (ws (w.log u)))) q.3 (commit_fits c sound u q.0 q.1 q.2 (omega arith) high))
        (λ (none : (r : ℕ) → r < record_count c.limits → is_placed c.limits w.index r ≡ true → w.keys r ≢ k). subst (λ (l : List Act). Fitted FitsAfter (all_acts_on k (upto (entry w.begins (w.log u) - 1))) l)
        (sym (writes_on c.limits w c.known sound.sized sound.times sound.each sound.versions (w.log u) k ∙ by_none c.limits w c.known sound.sized sound.times sound.each sound.versions (w.log u) k none)) tt)
        (find_key c.limits w c.known sound.sized sound.times sound.each sound.versions k (record_count c.limits)))));
  }

  -- SOUND HISTORY
  pub history_sound : IsSound (history_of c.limits w)
  history_sound front x rest e = let s = split w.clock (omega arith) front x rest e in subst (λ (f : List Commit). Follows f x) (sym s.1) (subst (λ (y : Commit). Follows (upto (length front)) y) (sym s.2) (follows_at (length front) s.0))

  -- and so is what a session has seen
  pub seen_sound : (s : ℕ) → s < c.limits.sessions → IsSound (c.known s).seen
  seen_sound s low = prefix_sound (history_of c.limits w) (c.known s).seen (sound.views s low).prefix history_sound
