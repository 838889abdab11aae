-- Versions by the commits that made them: nothing here speaks of a store.
use Rattle.std.proofs.Common.{◌≡◌, ◌≢◌, ℕ, zero, suc, ◌+◌, ◌/◌, ◌%◌, ◌≤◌, List, [], ◌∷◌, ◌++◌, Bool, true, false, cond, length, take, drop, refl, sym, subst, ap, ◌∙◌, arith, length-append, append_assoc, true≢false, eqb, ◌&&◌, ◌||◌}
use Rattle.std.proofs.lemmas.List.{take_all, take-append-drop, drop_at}
use Rattle.lst_model.specs.declared.acts.Act.{Act}
use Rattle.lst_model.specs.declared.commits.Commit.{Commit}
use Rattle.lst_model.specs.Histories.{acts_on, all_acts_on}
use Rattle.lst_model.proofs.Folds.{all_acts_on-append}
use Rattle.lst_core_state.proofs.Sights.{same_truth, is_false, or_left, or_right}
use Rattle.lst_rule.specs.Copies.{Version}
use Rattle.lst_rule.specs.Seen.{names, act_by}
use Rattle.lst_rule.specs.Judging.{WroteAt}
use Rattle.lst_changes.specs.Changes.{named_acts, AreBy, Descend, AreHistory, AreUnmade, LastWrite, WroteLast}

-- a name in the front is a name in the whole
names_longer : (xs ys : List Commit) (x : ℕ) → names xs x ≡ true → names (xs ++ ys) x ≡ true
names_longer [] ys x e = absurd (true≢false (sym e))
names_longer (c ∷ xs) ys x e = step (eqb c.session (x % 16) && eqb c.number (x / 16)) e (names_longer xs ys x)
  where
    step : (b : Bool) → (b || names xs x) ≡ true → (names xs x ≡ true → names (xs ++ ys) x ≡ true) → (b || names (xs ++ ys) x) ≡ true
    step true f rest = refl
    step false f rest = rest f

pub names_up : (h : List Commit) (t x : ℕ) → names (take t h) x ≡ true → names h x ≡ true
names_up h t x e = subst (λ (l : List Commit). names l x ≡ true) (take-append-drop t h) (names_longer (take t h) (drop t h) x e)

names_down : (h : List Commit) (t x : ℕ) → names h x ≡ false → names (take t h) x ≡ false
names_down h t x e = is_false (names (take t h) x) (λ f. true≢false (sym (names_up h t x f) ∙ e))

unmade_down : (h : List Commit) (t : ℕ) (cs : List Version) → AreUnmade h cs → AreUnmade (take t h) cs
unmade_down h t [] none = tt
unmade_down h t (c ∷ cs) none = (names_down h t c.writer none.0, unmade_down h t cs none.1)

pub unmade_last : (h : List Commit) (cs : List Version) (c : Version) → AreUnmade h cs → names h c.writer ≡ false → AreUnmade h (cs ++ c ∷ [])
unmade_last h [] c none last = (last, tt)
unmade_last h (d ∷ cs) c none last = (none.0, unmade_last h cs c none.1 last)

-- versions that nobody made add nothing
passed_acts : (h : List Commit) (cs ds : List Version) → AreUnmade h cs → named_acts h (cs ++ ds) ≡ named_acts h ds
passed_acts h [] ds none = refl
passed_acts h (c ∷ cs) ds none = (λ i. cond (none.0 i) (named_acts h (cs ++ ds) ++ act_by c ∷ []) (named_acts h (cs ++ ds))) ∙ passed_acts h cs ds none.1

-- versions that were made by a time
by_acts : (h : List Commit) (t : ℕ) (ds : List Version) → AreBy h t ds → named_acts h ds ≡ named_acts (take t h) ds
by_acts h t [] all = refl
by_acts h t (d ∷ ds) all = let e : names h d.writer ≡ names (take t h) d.writer = same_truth (names h d.writer) (names (take t h) d.writer) all.0 (names_up h t d.writer) in
    λ i. cond (e i) (by_acts h t ds all.1 i ++ act_by d ∷ []) (by_acts h t ds all.1 i)

under : (h : List Commit) (t : ℕ) (cs : List Version) (c : Version) (ds : List Version) → Descend h (cs ++ c ∷ ds) → t ≤ length h → names (take t h) c.writer ≡ true → AreBy h t ds
under h t [] c ds falls few e = falls.0 t few e
under h t (b ∷ cs) c ds falls few e = under h t cs c ds falls.1 few e

none_more : {A : Type 0} (xs ys : List A) → xs ≡ xs ++ ys → ys ≡ []
none_more xs [] e = refl
none_more xs (y ∷ ys) e = absurd (let f = ap length e in let g = length-append xs (y ∷ ys) in omega arith)

-- at the end of the chain no version was made: no commit wrote the key
pub none_wrote : (h : List Commit) (key : ℕ) (passed : List Version) → AreUnmade h passed → AreHistory h key (passed ++ []) → all_acts_on key h ≡ []
none_wrote h key passed none told = ap (all_acts_on key) (sym (take_all (length h) h (omega arith))) ∙ (sym (told.acts (length h) (omega arith))
    ∙ (ap (λ (l : List Commit). named_acts l (passed ++ [])) (take_all (length h) h (omega arith)) ∙ passed_acts h passed [] none))

module _ (h : List Commit) (key t : ℕ) (passed : List Version) (c : Version) (older : List Version) (none : AreUnmade h passed) (told : AreHistory h key (passed ++ c ∷ older)) (few : t ≤ length h) (named : names (take t h) c.writer ≡ true) where
  -- the first version that was made was made last
  same_made : named_acts h (passed ++ c ∷ older) ≡ named_acts (take t h) (passed ++ c ∷ older)
  same_made = passed_acts h passed (c ∷ older) none
      ∙ ((λ i. cond (made i) (by_acts h t older all i ++ act_by c ∷ []) (by_acts h t older all i))
      ∙ sym (passed_acts (take t h) passed (c ∷ older) (unmade_down h t passed none)))
    where
      all : AreBy h t older
      all = under h t passed c older told.descend few named

      made : names h c.writer ≡ names (take t h) c.writer
      made = names_up h t c.writer named ∙ sym named

  same_acts : all_acts_on key h ≡ all_acts_on key (take t h)
  same_acts = ap (all_acts_on key) (sym (take_all (length h) h (omega arith))) ∙ (sym (told.acts (length h) (omega arith))
      ∙ (ap (λ (l : List Commit). named_acts l (passed ++ c ∷ older)) (take_all (length h) h (omega arith)) ∙ (same_made ∙ told.acts t few)))

  none_after : all_acts_on key (drop t h) ≡ []
  none_after = none_more (all_acts_on key (take t h)) (all_acts_on key (drop t h))
      (sym same_acts ∙ (ap (all_acts_on key) (sym (take-append-drop t h)) ∙ all_acts_on-append key (take t h) (drop t h)))

  -- and its commit is the last that wrote the key
  pub wrote_last : (name : ℕ) → WroteAt h t name key → WroteLast h key t
  wrote_last name at = record {
    before = at.before;
    commit = at.commit;
    rest = at.rest;
    is = at.is;
    place = at.place;
    wrote = at.wrote;
    last = ap (all_acts_on key) (sym rest_is) ∙ none_after;
  }
    where
      rest_is : drop t h ≡ at.rest
      rest_is = ap (drop t) (at.is ∙ sym (append_assoc at.before (at.commit ∷ []) at.rest)) ∙ drop_at (at.before ++ at.commit ∷ []) at.rest t (let e = at.place in let f = length-append at.before (at.commit ∷ []) in omega arith)
