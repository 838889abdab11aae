-- The history names exactly those transactions that state words have as committed; and a chain's versions are the history's.
use Rattle.std.proofs.Common.{◌≡◌, ◌≢◌, ◌⊎◌, ℕ, zero, suc, ◌+◌, ◌*◌, ◌/◌, ◌%◌, ◌<◌, ◌≤◌, List, [], ◌∷◌, ◌++◌, Bool, true, false, cond, length, take, refl, sym, subst, ap, ◌∙◌, arith, inl, inr, ⊎_elim}
use Rattle.std.proofs.lemmas.List.{take_all}
use Rattle.lst_layout.specs.declared.limits.Limits.{Limits}
use Rattle.lst_model.specs.declared.commits.Commit.{Commit}
use Rattle.lst_model.specs.Histories.{all_acts_on}
use Rattle.lst_core_state.specs.Lists.{Has, acts, is_until, Under, Below, Ordered}
use Rattle.lst_core_state.specs.Cells.{record_count}
use Rattle.lst_core_state.specs.Index.{is_placed}
use Rattle.lst_core_state.specs.State.{Words, Core, entry, writer_at, line, act_in, writes_of, history, history_of}
use Rattle.lst_core_state.specs.Laws.{Names}
use Rattle.lst_core_state.specs.Sound.{Sound, LineOf}
use Rattle.lst_core_state.proofs.Histories.{length-history}
use Rattle.lst_core_state.proofs.Sights.{same_truth, until_says, until_holds}
use Rattle.lst_core_state.proofs.Sightings.{history_front, chain_history}
use Rattle.lst_core_state.proofs.Pure.{names_until, until_names}
use Rattle.lst_core_state.proofs.VersionsKept.{early_of}
use Rattle.lst_rule.specs.Copies.{Version}
use Rattle.lst_rule.specs.Seen.{names, act_by}
use Rattle.lst_rule.proofs.Seeing.{names_says, names_holds}
use Rattle.lst_rule.proofs.Copying.{versions_at}
use Rattle.lst_changes.specs.Changes.{named_acts, AreBy, Descend, AreHistory}

module _ (c : Core) (sound : Sound c) where
  abbrev w : Words
  w = c.words

  abbrev H : List Commit
  H = history_of c.limits c.words

  front : (b : ℕ) → b ≤ c.words.clock → take b (history_of c.limits c.words) ≡ history b c.words.log c.words.begins (writes_of c.limits c.words)
  front b high = history_front w.clock b w.log w.begins (writes_of c.limits w) high

  -- the first b commits name a transaction exactly where its state word has a time up to b
  pub named_is : (b x : ℕ) → b ≤ c.words.clock → x % 16 < c.limits.sessions → names (take b (history_of c.limits c.words)) x ≡ is_until b (entry c.words.states x)
  named_is b x high low = same_truth (names (take b H) x) (is_until b (entry w.states x))
      (λ e. names_until c sound b x high (subst (λ (l : List Commit). Names l (x % 16) (x / 16)) (front b high) (names_says (take b H) x e)))
      (λ e. names_holds (take b H) x (subst (λ (l : List Commit). Names l (x % 16) (x / 16)) (sym (front b high)) (until_names c sound b x high low e)))

  pub length_is : length (history_of c.limits c.words) ≡ c.words.clock
  length_is = length-history w.clock w.log w.begins (writes_of c.limits w)

  -- and all of them one that has any up to the clock
  pub named_now : (x : ℕ) → x % 16 < c.limits.sessions → names (history_of c.limits c.words) x ≡ is_until c.words.clock (entry c.words.states x)
  named_now x low = ap (λ (l : List Commit). names l x) (sym (take_all w.clock H (let e = length_is in omega arith))) ∙ named_is w.clock x (omega arith) low

  -- ---- the versions of a chain

  abbrev st : ℕ → ℕ
  st = entry c.words.states

  abbrev bw : ℕ → ℕ
  bw = entry c.words.begins

  abbrev W : ℕ → ℕ
  W = writer_at c.words

  named_line : (b : ℕ) → b ≤ c.words.clock → (ts : List ℕ) → ((t : ℕ) → Has t ts → writer_at c.words t % 16 < c.limits.sessions)
      → named_acts (take b (history_of c.limits c.words)) (versions_at c.limits c.words ts) ≡ acts (λ t. is_until b (entry c.words.states (writer_at c.words t))) (act_in c.limits c.words.cells) ts
  named_line b high [] begun = refl
  named_line b high (t ∷ ts) begun = let rest = named_line b high ts (λ u i. begun u (inr i)) in
      λ i. cond (named_is b (W t) high (begun t (inl refl)) i) (rest i ++ act_in c.limits w.cells t ∷ []) (rest i)

  by_below : (t y : ℕ) (ys : List ℕ) → t ≤ c.words.clock → st (W y) ≤ t + 1 → bw (W y) < st (W y) → Below (entry c.words.states) (entry c.words.begins) (writer_at c.words) (writer_at c.words y) ys
      → ((x : ℕ) → Has x ys → writer_at c.words x % 16 < c.limits.sessions) → AreBy (history_of c.limits c.words) t (versions_at c.limits c.words ys)
  by_below t y [] high most early below begun = tt
  by_below t y (x ∷ xs) high most early below begun = (
    λ e. let q = until_says w.clock (st (W x)) (sym (named_now (W x) (begun x (inl refl))) ∙ e) in let some = q.0 in named_is t (W x) high (begun x (inl refl)) ∙ until_holds t (st (W x)) some (⊎_elim
        (λ (same : W x ≡ W y). let f : st (W x) ≡ st (W y) = ap st same in omega arith)
        (λ (r : (1 < st (W x)) × (st (W x) ≤ bw (W y))). let g = r.1 in omega arith)
        (below.0 (λ z. omega arith))),
    by_below t y xs high most early below.1 (λ u i. begun u (inr i)),
  )

  descends : (ys : List ℕ) → ((y : ℕ) → Has y ys → 1 < st (W y) → bw (W y) < st (W y)) → ((y : ℕ) → Has y ys → writer_at c.words y % 16 < c.limits.sessions) → Ordered (entry c.words.states) (entry c.words.begins) (writer_at c.words) ys
      → Descend (history_of c.limits c.words) (versions_at c.limits c.words ys)
  descends [] early begun ordered = tt
  descends (y ∷ ys) early begun ordered = (
    λ t few e. let same = length_is in let high : t ≤ w.clock = omega arith in let q = until_says t (st (W y)) (sym (named_is t (W y) high (begun y (inl refl))) ∙ e) in let some = q.0 in
        by_below t y ys high q.1 (early y (inl refl) some) (ordered.0 (λ z. omega arith)) (λ u i. begun u (inr i)),
    descends ys (λ u i. early u (inr i)) (λ u i. begun u (inr i)) ordered.1,
  )

  -- the chain of a record in the index has the history's versions of its key
  pub chain_told : (r : ℕ) → r < record_count c.limits → is_placed c.limits c.words.index r ≡ true → AreHistory (history_of c.limits c.words) (c.words.keys r) (versions_at c.limits c.words (line c.limits c.words r))
  chain_told r low placed = let L : LineOf c.limits c.words r = sound.versions.lines r low in
      let begun : (t : ℕ) → Has t (line c.limits w r) → writer_at w t % 16 < c.limits.sessions = λ t i. (sound.versions.stored t (L.stored t i)).begun.0 in record {
        acts = λ b few. let same = length_is in let high : b ≤ w.clock = omega arith in
            named_line b high (line c.limits w r) begun ∙ (sym (chain_history c sound b r low placed high) ∙ ap (all_acts_on (w.keys r)) (sym (front b high)));
        descend = descends (line c.limits w r) (λ y i. early_of c.limits w c.known sound.sized sound.times sound.each sound.versions (writer_at w y) (sound.versions.stored y (L.stored y i)).begun) begun L.ordered;
      }
