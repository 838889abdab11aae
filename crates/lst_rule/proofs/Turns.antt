-- The acts of a sight fit in turn.
use Rattle.std.proofs.Common.{◌≡◌, ◌≢◌, ℕ, ◌+◌, ◌<◌, ◌≤◌, List, [], ◌∷◌, ◌++◌, Bool, true, false, cond, not, eqb, ◌||◌, refl, sym, subst, ap, ◌∙◌, arith, inl, inr, ⊎_elim, true≢false, eq-eqb, ne_eqb, eqb-true}
use Rattle.std.specs.Prelude.{Option, None}
use Rattle.lst_model.specs.declared.acts.Act.{Act}
use Rattle.lst_model.specs.Cells.{Cell}
use Rattle.lst_model.specs.Histories.{row_after, row_from}
use Rattle.lst_model.specs.Soundness.{Fits, FitInTurn}
use Rattle.lst_layout.specs.Words.{shown}
use Rattle.lst_core_state.specs.Lists.{Has, acts, Under, Ordered, Fitting, is_live, is_until}
use Rattle.lst_core_state.proofs.Lists.{acts_same, below_has}
use Rattle.lst_core_state.proofs.Sights.{same_truth, or_says, or_left, until_says, until_holds}
use Rattle.lst_core_state.specs.declared.known.Known.{Known}
use Rattle.lst_core_state.specs.declared.facts.Fact.TheVariants.{IndexAt}
use Rattle.lst_core_state.specs.Cells.{record_count}
use Rattle.lst_core_state.specs.Index.{is_placed}
use Rattle.lst_core_state.specs.Facts.{IsFact}
use Rattle.lst_core_state.specs.State.{Words, Core, entry, writer_at, name_of, line, act_in, sight, FitsAfter}
use Rattle.lst_core_state.specs.Sound.{Sound}
use Rattle.lst_core_state.proofs.Steps.{name_entry}
use Rattle.lst_core_state.proofs.Positions.{placed_holds}
use Rattle.lst_core_state.proofs.Sightings.{snapshot_chain}
use Rattle.lst_core_state.proofs.VersionsKept.{early_of}
use Rattle.lst_core_state.specs.State.{state_over}
use Rattle.lst_rule.proofs.Knowing.{is_fact}
use Rattle.lst_rule.specs.Laws.{SightsFit}
use Rattle.lst_rule.proofs.StatusTelling.{own_state, low, is_known, is_on_known}

-- one more act
turn_snoc : (row : Option (List Cell)) (xs : List Act) (a : Act) → FitInTurn row xs → Fits (row_from row xs) a → FitInTurn row (xs ++ a ∷ [])
turn_snoc row [] a turn fit = (fit, tt)
turn_snoc row (x ∷ xs) a turn fit = (turn.0, turn_snoc (row_after row x) xs a turn.1 fit)

-- of a chain: what the transaction `own`, which began at b, sees
module _ (st bw W : ℕ → ℕ) (made : ℕ → Act) (b own : ℕ) (begin : bw own ≡ b + 1) (live_own : st own ≢ 1) where
  p : ℕ → Bool
  p t = is_until b (st (W t)) || eqb (W t) own

  seen_live : (t : ℕ) → (is_until b (st (W t)) || eqb (W t) own) ≡ true → st (W t) ≢ 1
  seen_live t e = ⊎_elim (λ (f : is_until b (st (W t)) ≡ true). λ z. let q = until_says b (st (W t)) f in let h = q.0 in omega arith)
      (λ (f : eqb (W t) own ≡ true). λ z. live_own (ap st (sym (eqb-true (W t) own f)) ∙ z)) (or_says (is_until b (st (W t))) (eqb (W t) own) e)

  -- what is under a version that is seen, and isn't closed, is seen
  under_seen : (y x : ℕ) → (1 < st (W y) → bw (W y) < st (W y)) → (is_until b (st (W y)) || eqb (W y) own) ≡ true → Under st bw W (W y) x → st (W x) ≢ 1 → (is_until b (st (W x)) || eqb (W x) own) ≡ true
  under_seen y x early e under live = ⊎_elim
      (λ (same : W x ≡ W y). subst (λ (z : ℕ). (is_until b (st z) || eqb z own) ≡ true) (sym same) e)
      (λ (q : (1 < st (W x)) × (st (W x) ≤ bw (W y))). let some = q.0 in let most = q.1 in or_left (is_until b (st (W x))) (eqb (W x) own) (until_holds b (st (W x)) some (⊎_elim
      (λ (f : is_until b (st (W y)) ≡ true). let r = until_says b (st (W y)) f in let h = r.0 in let g = r.1 in let k = early h in omega arith)
      (λ (f : eqb (W y) own ≡ true). let same : bw (W y) ≡ bw own = ap bw (eqb-true (W y) own f) in omega arith)
      (or_says (is_until b (st (W y))) (eqb (W y) own) e))))
      (under live)

  pub fits_in_turn : (ys : List ℕ) → ((y : ℕ) → Has y ys → 1 < st (W y) → bw (W y) < st (W y)) → Ordered st bw W ys → Fitting FitsAfter st W made ys → FitInTurn None (acts (λ t. is_until b (st (W t)) || eqb (W t) own) made ys)
  fits_in_turn [] early ordered fits = tt
  fits_in_turn (y ∷ ys) early ordered fits = step (is_until b (st (W y)) || eqb (W y) own) refl (fits_in_turn ys (λ t i. early t (inr i)) ordered.1 fits.1)
    where
      seen : List Act
      seen = acts (λ t. is_until b (st (W t)) || eqb (W t) own) made ys

      below_is : (is_until b (st (W y)) || eqb (W y) own) ≡ true → acts (is_live st W) made ys ≡ acts (λ t. is_until b (st (W t)) || eqb (W t) own) made ys
      below_is e = acts_same (λ t. is_until b (st (W t)) || eqb (W t) own) (is_live st W) made made ys
          (λ t i. same_truth (is_live st W t) (is_until b (st (W t)) || eqb (W t) own)
          (λ live. under_seen y t (early y (inl refl)) e (below_has st bw W (W y) ys (ordered.0 (seen_live y e)) t i) (λ z. true≢false (sym live ∙ ap not (eq-eqb (st (W t)) 1 z))))
          (λ taken. ap not (ne_eqb (st (W t)) 1 (seen_live t taken))))
          (λ t i taken. refl)

      step : (c : Bool) → (is_until b (st (W y)) || eqb (W y) own) ≡ c → FitInTurn None (acts (λ t. is_until b (st (W t)) || eqb (W t) own) made ys)
          → FitInTurn None (cond (is_until b (st (W y)) || eqb (W y) own) (acts (λ t. is_until b (st (W t)) || eqb (W t) own) made ys ++ made y ∷ []) (acts (λ t. is_until b (st (W t)) || eqb (W t) own) made ys))
      step true e rest = subst (λ (c : Bool). FitInTurn None (cond c (seen ++ made y ∷ []) seen)) (sym e) (turn_snoc None seen (made y) rest (subst (λ (xs : List Act). FitsAfter xs (made y)) (below_is e) (fits.0 (seen_live y e))))
      step false e rest = subst (λ (c : Bool). FitInTurn None (cond c (seen ++ made y ∷ []) seen)) (sym e) rest

-- the sight of a record in the index
sight_fits : (c : Core) → Sound c → (s : ℕ) → s < c.limits.sessions → (c.known s).is_open ≡ true → (rec : ℕ) → rec < record_count c.limits → is_placed c.limits c.words.index rec ≡ true → FitInTurn None (sight (c.known s) (c.words.keys rec))
sight_fits c sound s low is_on rec below placed = let w : Words = c.words in let v : Known = c.known s in let own : ℕ = name_of s v.number in let few = sound.sized.sessions.1 in let L = sound.versions.lines rec below in
    subst (λ (xs : List Act). FitInTurn None xs) (snapshot_chain c sound s low is_on rec below placed)
    (fits_in_turn (entry w.states) (entry w.begins) (writer_at w) (act_in c.limits w.cells) v.begin own (name_entry w.begins s v.number (omega arith) ∙ (sound.each s low).open_begin is_on)
    (λ z. ⊎_elim (λ (g : entry w.states own ≡ 0). omega arith) (λ (g : entry w.states own ≡ w.clock + 2). omega arith) (own_state c sound s low is_on))
    (line c.limits w rec) (λ y i. early_of c.limits w c.known sound.sized sound.times sound.each sound.versions (writer_at w y) (sound.versions.stored y (L.stored y i)).begun) L.ordered L.fits)

pub sights_fit : SightsFit
sights_fit v s rec key p hosted is_on has = let a = p.allowed in let w : Words = shown v.limits p.words in let c : Core = state_over v.limits p.words p.known p.merger in
    let at : IsFact v.limits w (IndexAt has.0 rec key) = is_fact v p.words p.known p.merger a s hosted (IndexAt has.0 rec key) has.1 in let index = at.0 in
    let filled = a.sound.index.filled has.0 (omega arith) in let few = filled.few in
    let placed : is_placed v.limits w.index rec ≡ true = placed_holds v.limits w.index rec has.0 filled.position index in
    subst (λ (u : Known). FitInTurn None (sight u key)) (sym (is_known v p.words p.known p.merger a s hosted is_on))
    (subst (λ (k : ℕ). FitInTurn None (sight (p.known s) k)) at.1
    (sight_fits c a.sound s (low v p.words p.known p.merger a s hosted is_on) (is_on_known v p.words p.known p.merger a s hosted is_on) rec (omega arith) placed))
