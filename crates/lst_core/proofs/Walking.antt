-- Walks along a chain.
use Rattle.std.proofs.Common.{◌≡◌, ◌≢◌, ◌⊎◌, ⊎_elim, inl, inr, ℕ, ◌+◌, ◌/◌, ◌%◌, ◌<◌, ◌≤◌, List, [], ◌∷◌, ◌++◌, Bool, true, cond, not, eqb, eq-eqb, ne_eqb, refl, sym, subst, ap, ◌∙◌, arith, true≢false}
use Rattle.std.specs.Prelude.{Option, None, Some}
use Rattle.lst_layout.specs.declared.limits.Limits.{Limits}
use Rattle.lst_layout.specs.Words.{Words, shown}
use Rattle.lst_model.specs.declared.acts.Act.{Act}
use Rattle.lst_model.specs.declared.acts.Act.TheVariants.{Put, Set, Del}
use Rattle.lst_model.specs.Cells.{Cell, patched, cells_of}
use Rattle.lst_model.specs.Histories.{row_from, row_after}
use Rattle.lst_model.specs.Soundness.{Fits}
use Rattle.lst_model.proofs.Folds.{row_from-append}
use Rattle.lst_core_state.specs.Lists.{Has, Links, Fitting, Judged, Under, acts, is_live}
use Rattle.lst_core_state.specs.Cells.{record_count, tail_count, kind_of, nulls_of, act_of, listed, mask_of, IsCell}
use Rattle.lst_core_state.specs.State.{entry, writer_at, state_at, line, back_in, head_of, act_in, FitsAfter}
use Rattle.lst_core_state.proofs.Lists.{first_link}
use Rattle.lst_core.specs.Reading.{IsRead, IsPresent}
use Rattle.lst_core.specs.Walks.{Walks, Judges, Rows}

no_link : (back : ℕ → ℕ) (rest : List ℕ) → Links back 0 rest → rest ≡ []
no_link back [] links = refl
no_link back (x ∷ xs) links = absurd (let e = links.0 in let p = links.1 in omega arith)

module _ (l : Limits) (ws : List ℕ) (read : IsRead l ws) where
  abbrev w : Words
  w = shown l ws

  abbrev pub walk_start : (r : ℕ) → r < record_count l → Walks l w r (head_of l r (w.heads r))
  walk_start r low = let L = read.sound.versions.lines r low in record {
    rest = line l w r;
    links = L.links;
    stored = L.stored;
    few = λ x i. (read.sound.versions.stored x (L.stored x i)).few;
    fits = L.fits;
  }

  pub judges_start : (own r t : ℕ) → r < record_count l → t ≡ head_of l r (w.heads r) → Judges l w own r t
  judges_start own r t low is = subst (Judges l w own r) (sym is) record { walk = walk_start r low; same = (λ h. h, λ h. h) }

  pub rows_start : (r t : ℕ) → r < record_count l → t ≡ head_of l r (w.heads r) → Rows l w r t
  rows_start r t low is = subst (Rows l w r) (sym is) record { walk = walk_start r low; same = refl }

module _ (l : Limits) (w : Words) (r t : ℕ) (k : Walks l w r t) (some : 0 < t) where
  abbrev pub link : (ys : List ℕ) × (k.rest ≡ t ∷ ys) × (back_in l w.cells t < t) × Links (back_in l w.cells) (back_in l w.cells t) ys
  link = first_link (back_in l w.cells) t k.rest k.links some

  pub has_first : Has t k.rest
  has_first = subst (Has t) (sym link.1) (inl refl)

  pub walk_tail : (0 < t) × (t ≤ tail_count l)
  walk_tail = (some, k.few t has_first)

  pub walk_stored : 0 < w.cells t 0
  walk_stored = k.stored t has_first

  pub walk_falls : back_in l w.cells t < t
  walk_falls = link.2

  abbrev pub walk_on : Walks l w r (back_in l w.cells t)
  walk_on = record {
    rest = link.0;
    links = link.3;
    stored = λ x i. k.stored x (subst (Has x) (sym link.1) (inr i));
    few = λ x i. k.few x (subst (Has x) (sym link.1) (inr i));
    fits = (subst (λ (ys : List ℕ). Fitting FitsAfter (entry w.states) (writer_at w) (act_in l w.cells) ys) link.1 k.fits).1;
  }

  pub walk_fits : state_at w t ≢ 1 → FitsAfter (acts (is_live (entry w.states) (writer_at w)) (act_in l w.cells) link.0) (act_in l w.cells t)
  walk_fits live = (subst (λ (ys : List ℕ). Fitting FitsAfter (entry w.states) (writer_at w) (act_in l w.cells) ys) link.1 k.fits).0 live

-- ---- judging

module _ (l : Limits) (w : Words) (own r t : ℕ) (j : Judges l w own r t) where
  abbrev pub J : List ℕ → Type 0
  J ys = Judged (entry w.states) (entry w.begins) (writer_at w) own ys

  pub judges_on : 0 < t → state_at w t ≡ 1 → (u : ℕ) → u ≡ back_in l w.cells t → Judges l w own r u
  judges_on some closed u is = let q = link l w r t j.walk some in subst (Judges l w own r) (sym is) record {
    walk = walk_on l w r t j.walk some;
    same = (
      λ h. (subst J q.1 (j.same.0 h)).1 closed,
      λ h. j.same.1 (subst J (sym q.1) (λ live. absurd (live closed), λ _. h)),
    );
  }

  -- the first that isn't closed decides
  pub judges_here : 0 < t → state_at w t ≢ 1 → (J (line l w r) → Under (entry w.states) (entry w.begins) (writer_at w) own t) × (Under (entry w.states) (entry w.begins) (writer_at w) own t → J (line l w r))
  judges_here some live = let q = link l w r t j.walk some in (λ h. (subst J q.1 (j.same.0 h)).0, λ u. j.same.1 (subst J (sym q.1) (u, λ closed. absurd (live closed))))

  pub judges_end : t ≡ 0 → J (line l w r)
  judges_end none = j.same.1 (subst J (sym (no_link (back_in l w.cells) j.walk.rest (subst (λ (x : ℕ). Links (back_in l w.cells) x j.walk.rest) none j.walk.links))) tt)

-- ---- rows

module _ (l : Limits) (w : Words) (r t : ℕ) (k : Rows l w r t) where
  abbrev pub live : ℕ → Bool
  live x = not (eqb (state_at w x) 1)

  abbrev pub made : List ℕ → Option (List Cell)
  made ys = row_from None (acts live (act_in l w.cells) ys)

  pub rows_on : 0 < t → state_at w t ≡ 1 → (u : ℕ) → u ≡ back_in l w.cells t → Rows l w r u
  rows_on some closed u is = let q = link l w r t k.walk some in subst (Rows l w r) (sym is) record {
    walk = walk_on l w r t k.walk some;
    same = k.same ∙ (ap made q.1 ∙ ap (λ (b : Bool). row_from None (cond (not b) (acts live (act_in l w.cells) q.0 ++ act_in l w.cells t ∷ []) (acts live (act_in l w.cells) q.0))) (eq-eqb (state_at w t) 1 closed));
  }

  -- the newest version that isn't closed makes the row
  pub rows_here : (some : 0 < t) → state_at w t ≢ 1 → made (line l w r) ≡ row_after (made (link l w r t k.walk some).0) (act_in l w.cells t)
  rows_here some other = let q = link l w r t k.walk some in k.same ∙ (ap made q.1 ∙ (ap (λ (b : Bool). row_from None (cond (not b) (acts live (act_in l w.cells) q.0 ++ act_in l w.cells t ∷ []) (acts live (act_in l w.cells) q.0))) (ne_eqb (state_at w t) 1 other)
      ∙ row_from-append None (acts live (act_in l w.cells) q.0) (act_in l w.cells t ∷ [])))

  pub rows_end : t ≡ 0 → made (line l w r) ≡ None
  rows_end none = k.same ∙ ap made (no_link (back_in l w.cells) k.walk.rest (subst (λ (x : ℕ). Links (back_in l w.cells) x k.walk.rest) none k.walk.links))

-- ---- what an act leaves

pub act_put : (e : ℕ) (values : List ℕ) → kind_of e ≡ 1 → act_of e values ≡ Put (cells_of (nulls_of e) 0 values)
unfolding act_of
act_put e values is = ap (λ (b : Bool). cond b (Put (cells_of (nulls_of e) 0 values)) (cond (eqb (kind_of e) 2) (Set (patched (mask_of e) 0 (cells_of (nulls_of e) 0 values))) Del)) (eq-eqb (kind_of e) 1 is)

pub act_set : (e : ℕ) (values : List ℕ) → kind_of e ≡ 2 → act_of e values ≡ Set (patched (mask_of e) 0 (cells_of (nulls_of e) 0 values))
unfolding act_of
act_set e values is = ap (λ (b : Bool). cond b (Put (cells_of (nulls_of e) 0 values)) (cond (eqb (kind_of e) 2) (Set (patched (mask_of e) 0 (cells_of (nulls_of e) 0 values))) Del)) (ne_eqb (kind_of e) 1 (λ f. omega arith)) ∙ ap (λ (b : Bool). cond b (Set (patched (mask_of e) 0 (cells_of (nulls_of e) 0 values))) Del) (eq-eqb (kind_of e) 2 is)

pub act_del : (e : ℕ) (values : List ℕ) → kind_of e ≡ 3 → act_of e values ≡ Del
unfolding act_of
act_del e values is = ap (λ (b : Bool). cond b (Put (cells_of (nulls_of e) 0 values)) (cond (eqb (kind_of e) 2) (Set (patched (mask_of e) 0 (cells_of (nulls_of e) 0 values))) Del)) (ne_eqb (kind_of e) 1 (λ f. omega arith)) ∙ ap (λ (b : Bool). cond b (Set (patched (mask_of e) 0 (cells_of (nulls_of e) 0 values))) Del) (ne_eqb (kind_of e) 2 (λ f. omega arith))

put_present : (row : Option (List Cell)) (values : List Cell) → IsPresent (row_after row (Put values))
put_present None values = tt
put_present (Some x) values = tt

set_present : (row : Option (List Cell)) (patch : List (Option Cell)) → Fits row (Set patch) → IsPresent (row_after row (Set patch))
set_present None patch fits = absurd fits
set_present (Some x) patch fits = tt

del_absent : (row : Option (List Cell)) → ¬ IsPresent (row_after row Del)
del_absent None is = is
del_absent (Some x) is = is

-- a stored version leaves a row exactly where it is no delete
module _ (l : Limits) (ws : List ℕ) (read : IsRead l ws) (r t : ℕ) (k : Rows l (shown l ws) r t) (some : 0 < t) (other : state_at (shown l ws) t ≢ 1) where
  abbrev pub W : Words
  W = shown l ws

  abbrev pub e : ℕ
  e = W.cells t 1

  abbrev pub values : List ℕ
  values = listed (W.cells t) 3 l.columns

  abbrev pub before : Option (List Cell)
  before = made l W r t k (link l W r t k.walk some).0

  here : made l W r t k (line l W r) ≡ row_after before (act_of e values)
  here = rows_here l W r t k some other

  image : IsCell l.columns e (λ c. W.cells t (3 + c))
  image = read.sound.tail_words.images t (walk_stored l W r t k.walk some)

  pub row_left : kind_of e ≢ 3 → IsPresent (made l W r t k (line l W r))
  row_left ne = subst IsPresent (sym here) (⊎_elim
      (λ q. subst (λ (a : Act). IsPresent (row_after before a)) (sym (act_put e values q.0)) (put_present before (cells_of (nulls_of e) 0 values)))
      (λ q. ⊎_elim
      (λ z. subst (λ (a : Act). IsPresent (row_after before a)) (sym (act_set e values z.0)) (set_present before (patched (mask_of e) 0 (cells_of (nulls_of e) 0 values)) (subst (λ (a : Act). Fits before a) (act_set e values z.0) (walk_fits l W r t k.walk some other))))
      (λ z. absurd (ne z.0)) q) image.kind)

  pub row_gone : kind_of e ≡ 3 → ¬ IsPresent (made l W r t k (line l W r))
  row_gone is present = del_absent before (subst (λ (a : Act). IsPresent (row_after before a)) (act_del e values is) (subst IsPresent here present))

-- ---- the answers of the loops

zero : (t : ℕ) → t ≤ 0 → t ≡ 0
zero t none = omega arith

pub state_is : (w : Words) (t name state : ℕ) → name ≡ writer_at w t → state ≡ entry w.states name → state ≡ state_at w t
state_is w t name state by is = is ∙ ap (entry w.states) by

pub judged_here : (l : Limits) (w : Words) (own r t : ℕ) (j : Judges l w own r t) (name state begin : ℕ) → 0 < t → name ≡ writer_at w t → state ≡ entry w.states name → state ≢ 1 → entry w.begins own ≡ begin + 1
    → (((name ≡ own) ⊎ ((1 < state) × (state ≤ begin + 1))) → J l w own r t j (line l w r)) × (J l w own r t j (line l w r) → ((name ≡ own) ⊎ ((1 < state) × (state ≤ begin + 1))))
judged_here l w own r t j name state begin some by is live at = let st : state ≡ state_at w t = state_is w t name state by is in let other : state_at w t ≢ 1 = λ e. live (st ∙ e) in let q = judges_here l w own r t j some other in (
  λ u. q.1 (λ _. ⊎_elim (λ (e : name ≡ own). inl (sym by ∙ e)) (λ (h : (1 < state) × (state ≤ begin + 1)). inr (let a = h.0 in omega arith, let b = h.1 in omega arith)) u),
  λ h. ⊎_elim (λ (e : writer_at w t ≡ own). inl (by ∙ e)) (λ (g : (1 < state_at w t) × (state_at w t ≤ entry w.begins own)). inr (let a = g.0 in omega arith, let b = g.1 in omega arith)) (q.0 h other),
)

pub judged_closed : (l : Limits) (w : Words) (own r t : ℕ) → Judges l w own r t → (name state u : ℕ) → 0 < t → name ≡ writer_at w t → state ≡ entry w.states name → state ≡ 1 → u ≡ back_in l w.cells t → Judges l w own r u
judged_closed l w own r t j name state u some by is closed back = judges_on l w own r t j some (sym (state_is w t name state by is) ∙ closed) u back

pub rows_closed : (l : Limits) (w : Words) (r t : ℕ) → Rows l w r t → (name state u : ℕ) → 0 < t → name ≡ writer_at w t → state ≡ entry w.states name → state ≡ 1 → u ≡ back_in l w.cells t → Rows l w r u
rows_closed l w r t k name state u some by is closed back = rows_on l w r t k some (sym (state_is w t name state by is) ∙ closed) u back

pub row_here : (l : Limits) (ws : List ℕ) (read : IsRead l ws) (r t : ℕ) (k : Rows l (shown l ws) r t) (name state e : ℕ) → 0 < t → name ≡ writer_at (shown l ws) t → state ≡ entry (shown l ws).states name → state ≢ 1 → e ≡ (shown l ws).cells t 1
    → (kind_of e ≢ 3 → IsPresent (made l (shown l ws) r t k (line l (shown l ws) r))) × (IsPresent (made l (shown l ws) r t k (line l (shown l ws) r)) → kind_of e ≢ 3)
row_here l ws read r t k name state en some by is live at = let st : state ≡ state_at (shown l ws) t = state_is (shown l ws) t name state by is in let other : state_at (shown l ws) t ≢ 1 = λ e. live (st ∙ e) in
    (λ ne. row_left l ws read r t k some other (λ e. ne (ap kind_of at ∙ e)), λ present e. row_gone l ws read r t k some other (sym (ap kind_of at) ∙ e) present)

none_absent : {A : Type 0} (o : Option A) → o ≡ None → ¬ IsPresent o
none_absent {A} o e is = subst IsPresent e is

pub rows_none : (l : Limits) (w : Words) (r t : ℕ) (k : Rows l w r t) → t ≤ 0 → ¬ IsPresent (made l w r t k (line l w r))
rows_none l w r t k none is = none_absent (made l w r t k (line l w r)) (rows_end l w r t k (zero t none)) is

pub judged_end : (l : Limits) (w : Words) (own r t : ℕ) (j : Judges l w own r t) → t ≤ 0 → J l w own r t j (line l w r)
judged_end l w own r t j none = judges_end l w own r t j (zero t none)

pub kind_true : (e : ℕ) → (not (eqb (e / 256 % 256) 3) ≡ true → kind_of e ≢ 3) × (kind_of e ≢ 3 → not (eqb (e / 256 % 256) 3) ≡ true)
kind_true e = (λ h is. true≢false (sym h ∙ ap not (eq-eqb (e / 256 % 256) 3 is)), λ ne. ap not (ne_eqb (e / 256 % 256) 3 ne))
