-- What a transaction sees of the versions of a chain.
use Rattle.std.proofs.Common.{◌≡◌, ◌⊎◌, ℕ, ◌/◌, ◌%◌, ◌<◌, List, [], ◌∷◌, ◌++◌, Bool, true, false, cond, eqb, ◌&&◌, ◌||◌, take, drop, Contains, refl, sym, subst, ap, ◌∙◌, arith, inl, inr, ⊎_elim, eq-eqb, eqb-true, true≢false}
use Rattle.std.proofs.lemmas.List.{take-append-drop}
use Rattle.lst_model.specs.declared.commits.Commit.{Commit}
use Rattle.lst_model.specs.declared.acts.Act.{Act}
use Rattle.lst_model.specs.Histories.{acts_on, all_acts_on}
use Rattle.lst_core_state.specs.Lists.{Has, acts, chain_of, is_until}
use Rattle.lst_core_state.proofs.Writes.{all_acts_on-append}
use Rattle.lst_core_state.proofs.Sights.{same_truth, or_says, or_left, or_right}
use Rattle.lst_core_state.specs.declared.known.Known.{Known}
use Rattle.lst_core_state.specs.declared.facts.Fact.TheVariants.{IndexAt}
use Rattle.lst_core_state.specs.Cells.{record_count, range_of}
use Rattle.lst_core_state.specs.Index.{is_placed}
use Rattle.lst_core_state.specs.Facts.{IsFact, chain_facts}
use Rattle.lst_core_state.specs.State.{Words, Core, entry, writer_at, name_of, line, back_in, head_of, act_in, sight, is_visible}
use Rattle.lst_core_state.specs.Sound.{Sound, FactsOf, IsRecorded, RecordedOf}
use Rattle.lst_core_state.specs.Laws.{Names}
use Rattle.lst_core_state.proofs.CellsKept.{tail_at-none}
use Rattle.lst_core_state.proofs.Decoded.{both_say}
use Rattle.lst_core_state.proofs.Pure.{visible_seen, seen_visible}
use Rattle.lst_core_state.proofs.Positions.{placed_holds}
use Rattle.lst_core_state.proofs.Sightings.{snapshot_chain}
use Rattle.lst_rule.specs.Copies.{Version, Includes}
use Rattle.lst_rule.specs.Seen.{names, is_early, sees, act_by, seen_acts, IsSight, SeesAlike, HasKey}
use Rattle.lst_rule.specs.Loads.{ChainFound}
use Rattle.lst_rule.specs.Laws.{SeenIsByName, SightsStay}
use Rattle.lst_rule.proofs.Copying.{versions_at, copied}

-- ---- by name

pub names_says : (cs : List Commit) (x : ℕ) → names cs x ≡ true → Names cs (x % 16) (x / 16)
names_says [] x e = absurd (true≢false (sym e))
names_says (c ∷ cs) x e = ⊎_elim
    (λ (here : (eqb c.session (x % 16) && eqb c.number (x / 16)) ≡ true). let q = both_say (eqb c.session (x % 16)) (eqb c.number (x / 16)) here in inl (eqb-true c.session (x % 16) q.0, eqb-true c.number (x / 16) q.1))
    (λ (later : names cs x ≡ true). inr (names_says cs x later))
    (or_says (eqb c.session (x % 16) && eqb c.number (x / 16)) (names cs x) e)

pub names_holds : (cs : List Commit) (x : ℕ) → Names cs (x % 16) (x / 16) → names cs x ≡ true
names_holds [] x i = absurd i
names_holds (c ∷ cs) x (inl e) = or_left (eqb c.session (x % 16) && eqb c.number (x / 16)) (names cs x) (λ i. eq-eqb c.session (x % 16) e.0 i && eq-eqb c.number (x / 16) e.1 i)
names_holds (c ∷ cs) x (inr i) = or_right (eqb c.session (x % 16) && eqb c.number (x / 16)) (names cs x) (names_holds cs x i)

pub seen_is_by_name : SeenIsByName
seen_is_by_name v s x = (
  λ e. ⊎_elim (λ (early : is_early v x ≡ true). inr (names_says (take v.begin v.seen) x early)) (λ (own : eqb x (name_of s v.number) ≡ true). inl (eqb-true x (name_of s v.number) own)) (or_says (is_early v x) (eqb x (name_of s v.number)) e),
  λ q. ⊎_elim (λ (own : x ≡ name_of s v.number). or_right (is_early v x) (eqb x (name_of s v.number)) (eq-eqb x (name_of s v.number) own)) (λ (i : Names (take v.begin v.seen) (x % 16) (x / 16)). or_left (is_early v x) (eqb x (name_of s v.number)) (names_holds (take v.begin v.seen) x i)) q,
)

-- ---- a sight stays

pub same_sees : (u v : Known) (s x : ℕ) → SeesAlike u v → sees v s x ≡ sees u s x
same_sees u v s x same = λ i. names (same.front i) x || eqb x (name_of s (same.number i))

pub same_acts : (u v : Known) (s : ℕ) (cs : List Version) → SeesAlike u v → seen_acts v s cs ≡ seen_acts u s cs
same_acts u v s [] same = refl
same_acts u v s (c ∷ cs) same = λ i. cond (same_sees u v s c.writer same i) (same_acts u v s cs same i ++ act_by c ∷ []) (same_acts u v s cs same i)

pub same_sight : (u v : Known) (key : ℕ) → SeesAlike u v → sight v key ≡ sight u key
same_sight u v key same = λ i. all_acts_on key (same.front i) ++ acts_on key (same.own i)

pub sights_stay : SightsStay
sights_stay u v s key cs same is = same_acts u v s cs same ∙ (is ∙ sym (same_sight u v key same))

-- ---- the sight of a chain

module _ (c : Core) (sound : Sound c) (s : ℕ) (low : s < c.limits.sessions) (is_on : (c.known s).is_open ≡ true) where
  abbrev w : Words
  w = c.words

  abbrev v : Known
  v = c.known s

  -- a transaction is early exactly where its state word says so
  pub early_is : (x : ℕ) → x % 16 < c.limits.sessions → is_early (c.known s) x ≡ is_until (c.known s).begin (entry c.words.states x)
  early_is x in_range = same_truth (is_early v x) (is_until v.begin (entry w.states x))
      (λ e. visible_seen c sound s low is_on x (names_says (take v.begin v.seen) x e))
      (λ e. names_holds (take v.begin v.seen) x (seen_visible c sound s low is_on x in_range e))

  seen_line : (ts : List ℕ) → ((t : ℕ) → Has t ts → writer_at c.words t % 16 < c.limits.sessions)
      → seen_acts (c.known s) s (versions_at c.limits c.words ts) ≡ acts (is_visible c.words (name_of s (c.known s).number) (c.known s).begin) (act_in c.limits c.words.cells) ts
  seen_line [] begun = refl
  seen_line (t ∷ ts) begun = let rest = seen_line ts (λ u i. begun u (inr i)) in let x : ℕ = writer_at w t in
      λ i. cond (early_is x (begun t (inl refl)) i || eqb x (name_of s v.number)) (rest i ++ act_in c.limits w.cells t ∷ []) (rest i)

  pub line_sight : (rec : ℕ) → rec < record_count c.limits → is_placed c.limits c.words.index rec ≡ true → IsSight (c.known s) s (c.words.keys rec) (versions_at c.limits c.words (line c.limits c.words rec))
  line_sight rec below placed = seen_line (line c.limits w rec) (λ t i. (sound.versions.stored t ((sound.versions.lines rec below).stored t i)).begun.0) ∙ snapshot_chain c sound s low is_on rec below placed

-- ---- which keys are known

none_left : (xs ys : List Act) → xs ++ ys ≡ [] → xs ≡ []
none_left [] ys e = refl
none_left (x ∷ xs) ys e = absurd (true≢false (ap is_some_act e))
  where
    is_some_act : List Act → Bool
    is_some_act [] = false
    is_some_act (a ∷ rest) = true

-- a transaction sees nothing of a key, or its session's facts have the key's record
pub sight_recorded : (keys : ℕ → ℕ) (v : Known) (key : ℕ) → RecordedOf keys v → (sight v key ≡ []) ⊎ IsRecorded v.facts key
sight_recorded keys v key r = ⊎_elim
    (λ (none : all_acts_on key v.seen ≡ []). ⊎_elim
    (λ (none_own : acts_on key v.own ≡ []). inl (let early : all_acts_on key (take v.begin v.seen) ≡ [] = none_left (all_acts_on key (take v.begin v.seen)) (all_acts_on key (drop v.begin v.seen))
    (sym (all_acts_on-append key (take v.begin v.seen) (drop v.begin v.seen)) ∙ (ap (all_acts_on key) (take-append-drop v.begin v.seen) ∙ none)) in λ i. early i ++ none_own i))
    (λ (k : IsRecorded v.facts key). inr k)
    (r.own_keys key))
    (λ (k : IsRecorded v.facts key). inr k)
    (r.seen_keys key)

-- a position of the index that holds a record with a key
pub index_holds : (c : Core) → Sound c → (q rec key : ℕ) → IsFact c.limits c.words (IndexAt q rec key) → (rec < record_count c.limits) × (is_placed c.limits c.words.index rec ≡ true)
index_holds c sound q rec key f = let index = f.0 in let filled = sound.index.filled q (omega arith) in let few = filled.few in
    (omega arith, placed_holds c.limits c.words.index rec q filled.position index)

module _ (c : Core) (sound : Sound c) (s : ℕ) (low : s < c.limits.sessions) (is_on : (c.known s).is_open ≡ true) (rec : ℕ) (below : rec < record_count c.limits) where
  -- where it sees anything of a record's chain, its facts have the record with its key
  pub line_keyed : (seen_acts (c.known s) s (versions_at c.limits c.words (line c.limits c.words rec)) ≡ []) ⊎ ((key : ℕ) × HasKey (c.known s).facts rec key)
  line_keyed = choose (is_placed c.limits c.words.index rec) refl
    where
      k : Known
      k = c.known s

      key : ℕ
      key = c.words.keys rec

      choose : (b : Bool) → is_placed c.limits c.words.index rec ≡ b → (seen_acts (c.known s) s (versions_at c.limits c.words (line c.limits c.words rec)) ≡ []) ⊎ ((key : ℕ) × HasKey (c.known s).facts rec key)
      choose true placed = ⊎_elim
          (λ (none : sight k key ≡ []). inl (line_sight c sound s low is_on rec below placed ∙ none))
          (λ (r : IsRecorded k.facts key). inr (
            key,
            (
              r.0,
              (let f : IsFact c.limits c.words (IndexAt r.0 r.1 key) = sound.facts s low (IndexAt r.0 r.1 key) r.2 in let at = index_holds c sound r.0 r.1 key f in
                  subst (λ (n : ℕ). Contains k.facts (IndexAt r.0 n key)) (sound.versions.keys_apart r.1 rec at.0 below at.1 placed f.1) r.2),
            ),
          ))
          (sight_recorded c.words.keys k key (sound.recorded s low))
      choose false none = inl (ap (λ (ts : List ℕ). seen_acts k s (versions_at c.limits c.words ts))
          (ap (λ (x : ℕ). chain_of (back_in c.limits c.words.cells) (head_of c.limits rec x)) (sound.versions.unplaced rec below none) ∙ ap (chain_of (back_in c.limits c.words.cells)) (tail_at-none c.limits.tails (range_of rec))))

-- what a session knows then that has found the chain as it is in the state c
pub chain_found : (c : Core) → Sound c → (s rec : ℕ) (v : Known) → rec < record_count c.limits → FactsOf c.limits c.words v.facts → Includes v.facts (chain_facts c.limits c.words rec)
    → (v.is_open ≡ true → (s < c.limits.sessions) × ((c.known s).is_open ≡ true) × SeesAlike (c.known s) v × Includes v.facts (c.known s).facts) → ChainFound c.limits v s rec (c.words.heads rec / 2)
chain_found c sound s rec v below facts all same = let w : Words = c.words in record {
  copy = versions_at c.limits w (line c.limits w rec);
  is = copied c sound rec below v.facts all;
  sight = λ key is_on has. let q = same is_on in let at : IsFact c.limits w (IndexAt has.0 rec key) = facts (IndexAt has.0 rec key) has.1 in
      subst (λ (k : ℕ). IsSight v s k (versions_at c.limits w (line c.limits w rec))) at.1
      (sights_stay (c.known s) v s (w.keys rec) (versions_at c.limits w (line c.limits w rec)) q.2 (line_sight c sound s q.0 q.1 rec below (index_holds c sound has.0 rec key at).1));
  keyed = λ is_on. let q = same is_on in ⊎_elim
      (λ (none : seen_acts (c.known s) s (versions_at c.limits w (line c.limits w rec)) ≡ []). inl (same_acts (c.known s) v s (versions_at c.limits w (line c.limits w rec)) q.2 ∙ none))
      (λ (has : (key : ℕ) × HasKey (c.known s).facts rec key). inr (has.0, (has.1.0, q.3 (IndexAt has.1.0 rec has.0) has.1.1)))
      (line_keyed c sound s q.0 q.1 rec below);
}
