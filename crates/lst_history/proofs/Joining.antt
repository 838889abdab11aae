-- Writes that come into commits.
use Rattle.std.proofs.Common.{◌≡◌, ◌≢◌, ℕ, zero, suc, ◌+◌, ◌-◌, ◌<◌, ◌≤◌, List, [], ◌∷◌, ◌++◌, Bool, cond, length, refl, sym, subst, ap, ◌∙◌, arith, eq-eqb, ne_eqb, get_or, set}
use Rattle.std.proofs.lemmas.List.{get_or_append_left, get_or_push}
use Rattle.std.specs.Prelude.{Result, Ok, Err, OnOk}
use mathlib.Core.Logic.{dite}
use native.Mathlib.Decide.{ℕ_discrete}
use Rattle.lst_layout.specs.declared.limits.Limits.{Limits}
use Rattle.lst_model.specs.declared.acts.Write.{Write}
use Rattle.lst_model.specs.declared.commits.Commit.{Commit}
use Rattle.lst_core_state.specs.State.{Words, history, commit_at}
use Rattle.lst_core_state.proofs.Histories.{length-history, history_same}
use Rattle.lst_history.specs.Commits.{writes_until, gathered_until, write_at, IsOfCommit, IsOfNone, with_write, entered}

pub on_ok : {A E P Q : Type 0} (r : Result A E) → (P → Q) → OnOk r P → OnOk r Q
on_ok (Ok x) f h = f h
on_ok (Err e) f h = h

-- ---- in a list of commits

pub enters : (cs : List Commit) (i : ℕ) (x : Write) (d n : Commit) → i < length cs → n ≡ with_write (get_or cs i d) x → set cs i n ≡ entered cs i x
enters [] i x d n low is = absurd (omega arith)
enters (c ∷ cs) zero x d n low is = ap (λ (e : Commit). e ∷ cs) is
enters (c ∷ cs) (suc i) x d n low is = ap (λ (l : List Commit). c ∷ l) (enters cs i x d n (omega arith) is)

entered_front : (cs : List Commit) (c : Commit) (i : ℕ) (x : Write) → i < length cs → entered (cs ++ c ∷ []) i x ≡ entered cs i x ++ c ∷ []
entered_front [] c i x low = absurd (omega arith)
entered_front (d ∷ cs) c zero x low = refl
entered_front (d ∷ cs) c (suc i) x low = ap (λ (l : List Commit). d ∷ l) (entered_front cs c i x (omega arith))

entered_last : (cs : List Commit) (c : Commit) (i : ℕ) (x : Write) → i ≡ length cs → entered (cs ++ c ∷ []) i x ≡ cs ++ with_write c x ∷ []
entered_last [] c zero x is = refl
entered_last [] c (suc i) x is = absurd (omega arith)
entered_last (d ∷ cs) c zero x is = absurd (omega arith)
entered_last (d ∷ cs) c (suc i) x is = ap (λ (l : List Commit). d ∷ l) (entered_last cs c i x (omega arith))

-- ---- in the history

module _ (log : ℕ → ℕ) (begins : ℕ → ℕ → ℕ) where
  pub history_start : (ws : ℕ → List Write) → history 0 log begins ws ≡ []
  unfolding history
  history_start ws = refl

  pub history_at : (n : ℕ) (ws : ℕ → List Write) (i : ℕ) (d : Commit) → i < n → get_or (history n log begins ws) i d ≡ commit_at log begins ws (i + 1)
  unfolding history
  history_at zero ws i d low = absurd (omega arith)
  history_at (suc n) ws i d low = let wide = length-history n log begins ws in dite (ℕ_discrete i n)
      (λ e. get_or_push (history n log begins ws) (commit_at log begins ws (suc n)) d i (omega arith) ∙ ap (commit_at log begins ws) (let f : suc n ≡ i + 1 = omega arith in f))
      (λ ne. get_or_append_left (history n log begins ws) (commit_at log begins ws (suc n) ∷ []) d i (omega arith) ∙ history_at n ws i d (omega arith))

  -- the writes of one commit get one more
  history_enters : (n : ℕ) (ws ws' : ℕ → List Write) (time : ℕ) (x : Write) → 0 < time → time ≤ n → ws' (log time) ≡ ws (log time) ++ x ∷ [] → ((u : ℕ) → 0 < u → u ≤ n → u ≢ time → ws' (log u) ≡ ws (log u)) → history n log begins ws' ≡ entered (history n log begins ws) (time - 1) x
  unfolding history
  history_enters zero ws ws' time x some past here else = absurd (omega arith)
  history_enters (suc n) ws ws' time x some past here else = let wide = length-history n log begins ws in dite (ℕ_discrete time (suc n))
      (λ e. let same : ws' (log (suc n)) ≡ ws (log (suc n)) ++ x ∷ [] = subst (λ (t : ℕ). ws' (log t) ≡ ws (log t) ++ x ∷ []) e here in
      (λ i. history_same n log log begins begins ws ws' (λ u low high. ap (λ (l : List Write). record (commit_at log begins ws u) { writes = l }) (else u low (omega arith) (λ f. omega arith))) i ++ record (commit_at log begins ws (suc n)) { writes = same i } ∷ [])
      ∙ sym (entered_last (history n log begins ws) (commit_at log begins ws (suc n)) (time - 1) x (omega arith)))
      (λ ne. (λ i. history_enters n ws ws' time x some (omega arith) here (λ u low high. else u low (omega arith)) i ++ record (commit_at log begins ws (suc n)) { writes = else (suc n) (omega arith) (omega arith) (λ f. ne (sym f)) i } ∷ [])
      ∙ sym (entered_front (history n log begins ws) (commit_at log begins ws (suc n)) (time - 1) x (omega arith)))

module _ (l : Limits) (w : Words) (n : ℕ) where
  abbrev next : ℕ
  next = suc n

  added : Bool → ℕ → List Write
  added b x = cond b (writes_until l w n x ++ write_at l w next ∷ []) (writes_until l w n x)

  -- a tail that has a write of the commit at a time
  pub entered_tail : (time : ℕ) → IsOfCommit w (n + 1) time → entered (gathered_until l w n) (time - 1) (write_at l w (n + 1)) ≡ gathered_until l w (n + 1)
  unfolding added
  entered_tail time of = let e : n + 1 ≡ suc n = omega arith in let at : IsOfCommit w (suc n) time = subst (λ (t : ℕ). IsOfCommit w t time) e of in
      subst (λ (t : ℕ). entered (gathered_until l w n) (time - 1) (write_at l w t) ≡ gathered_until l w t) (sym e)
      (sym (history_enters w.log w.begins w.clock (writes_until l w n) (writes_until l w (suc n)) time (write_at l w (suc n)) at.some at.past
      (ap (λ (b : Bool). added b (w.log time)) (at.is time at.some at.past ∙ eq-eqb time time refl))
      (λ u low high ne. ap (λ (b : Bool). added b (w.log u)) (at.is u low high ∙ ne_eqb u time ne))))

  -- a tail that has none
  pub passed_tail : IsOfNone w (n + 1) → gathered_until l w n ≡ gathered_until l w (n + 1)
  unfolding added
  passed_tail of = let e : n + 1 ≡ suc n = omega arith in let at : IsOfNone w (suc n) = subst (IsOfNone w) e of in subst (λ (t : ℕ). gathered_until l w n ≡ gathered_until l w t) (sym e)
      (sym (history_same w.clock w.log w.log w.begins w.begins (writes_until l w n) (writes_until l w (suc n)) (λ u low high. ap (λ (b : Bool). record (commit_at w.log w.begins (writes_until l w n) u) { writes = added b (w.log u) }) (at u low high))))

  pub length-gathered_until : length (gathered_until l w n) ≡ w.clock
  length-gathered_until = length-history w.clock w.log w.begins (writes_until l w n)
