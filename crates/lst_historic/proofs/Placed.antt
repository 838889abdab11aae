-- Keys found by their places.
use Rattle.std.proofs.Common.{◌≡◌, ◌≢◌, ℕ, zero, suc, ◌+◌, ◌-◌, ◌^◌, ◌<◌, ◌≤◌, Bool, true, false, cond, List, [], ◌∷◌, ◌++◌, length, get_or, drop, refl, sym, ap, ◌∙◌, subst, arith, inl, inr}
use Rattle.std.proofs.lemmas.Bool.{eq-eqb, eqb-true, ne_eqb, cases_lt}
use Rattle.std.specs.Prelude.{Option, Some, None, ◌==◌}
use Rattle.std.specs.List.Sorted.{IsNonDecreasingBy}
use Rattle.lst_model.specs.declared.commits.Commit.{Commit}
use Rattle.lst_model.specs.Cells.{Cell}
use Rattle.lst_model.specs.Tables.{row_of}
use Rattle.lst_model.specs.Histories.{table_at}
use Rattle.lst_snapshots.specs.declared.versions.Version.{Version}
use Rattle.lst_snapshots.specs.Versions.{row_at}
use Rattle.lst_historic.specs.declared.places.Place.{Place}
use Rattle.lst_historic.specs.Blocks.{Chain, chain_text, AreVersions, AreChains, IsBlock}
use Rattle.lst_historic.specs.Places.{IsBuiltAt, HasBlock, ArePlaced, IsHeld, at_in}
use Rattle.lst_historic.specs.Decoding.{HasVersions}
use Rattle.lst_historic.proofs.Whole.{one_block}
use Rattle.lst_historic.proofs.Made.{versions_in, row_is, of_history}

-- ---- a key among places

pub none_at : (places : List Place) (key : ℕ) → ((k : ℕ) (d : Place) → k < length places → (get_or places k d).key ≢ key) → at_in places key ≡ None
none_at [] key apart = refl
none_at (place ∷ places) key apart =
    ap (λ b. cond b (Some place.at) (at_in places key)) (ne_eqb key place.key (λ e. apart 0 place (omega arith) (sym e)))
    ∙ none_at places key (λ k d low. apart (suc k) d (omega arith))

pub some_at : (places : List Place) (key count : ℕ) (d : Place) → count < length places → ((k : ℕ) (d : Place) → k < count → (get_or places k d).key < key) → (get_or places count d).key ≡ key → at_in places key ≡ Some ((get_or places count d).at)
some_at [] key count d within early is = absurd (omega arith)
some_at (place ∷ places) key zero d within early is = ap (λ b. cond b (Some place.at) (at_in places key)) (eq-eqb key place.key (sym is))
some_at (place ∷ places) key (suc count) d within early is =
    let low : place.key < key = early 0 d (omega arith) in
    ap (λ b. cond b (Some place.at) (at_in places key)) (ne_eqb key place.key (λ e. absurd (omega (arith, e))))
    ∙ some_at places key count d (omega arith) (λ k d low. early (suc k) d (omega arith)) is

-- no place has the key, where those before one are below it and that one is above
pub none_from : (places : List Place) (key count : ℕ) (none : Place) → count < length places → IsNonDecreasingBy (λ (place : Place). place.key) places → ((k : ℕ) (d : Place) → k < count → (get_or places k d).key < key)
    → ((d : Place) → key ≤ (get_or places count d).key) → (get_or places count none).key ≢ key → at_in places key ≡ None
none_from places key count none within rise early high apart = none_at places key (λ k d low e. elim (cases_lt k count) [
  | inl before ↦ let less = early k d before in absurd (omega (arith, less, e))
  | inr behind ↦
      let more : (get_or places count d).key ≤ (get_or places k d).key = rise count k d behind low in
      let least = high d in
      let same : get_or places count d ≡ get_or places count none = get_or-any places count d none within in
      let here : (get_or places count d).key ≡ key = omega (arith, more, least, e) in
      absurd (apart (ap (λ (p : Place). p.key) (sym same) ∙ here))
])
  where
    get_or-any : (xs : List Place) (i : ℕ) (a b : Place) → i < length xs → get_or xs i a ≡ get_or xs i b
    get_or-any [] i a b low = absurd (omega arith)
    get_or-any (x ∷ xs) zero a b low = refl
    get_or-any (x ∷ xs) (suc i) a b low = get_or-any xs i a b (omega arith)

-- ---- places by rising key

abbrev pub RisesFrom : ℕ → List Place → Type 0
RisesFrom least [] = Unit {0}
RisesFrom least (place ∷ places) = (least ≤ place.key) × RisesFrom (place.key + 1) places

above : (least : ℕ) (places : List Place) (k : ℕ) (d : Place) → RisesFrom least places → k < length places → least ≤ (get_or places k d).key
above least [] k d rises low = absurd (omega arith)
above least (place ∷ places) zero d rises low = rises.0
above least (place ∷ places) (suc k) d rises low = let rest = above (place.key + 1) places k d rises.1 (omega arith) in let here : least ≤ place.key = rises.0 in omega arith

rising : (least : ℕ) (places : List Place) → RisesFrom least places → (i j : ℕ) (d : Place) → i ≤ j → j < length places → (get_or places i d).key ≤ (get_or places j d).key
rising least [] rises i j d order low = absurd (omega arith)
rising least (place ∷ places) rises zero zero d order low = omega arith
rising least (place ∷ places) rises zero (suc j) d order low = let after = above (place.key + 1) places j d rises.1 (omega arith) in omega arith
rising least (place ∷ places) rises (suc i) zero d order low = absurd (omega arith)
rising least (place ∷ places) rises (suc i) (suc j) d order low = rising (place.key + 1) places rises.1 i j d (omega arith) (omega arith)

placed_rise : (columns until least : ℕ) (bytes : List ℕ) (chains : List Chain) (places : List Place) → AreChains columns until least chains → ArePlaced columns bytes chains places → RisesFrom least places
placed_rise columns until least bytes [] [] rise placed = tt
placed_rise columns until least bytes [] (place ∷ places) rise placed = absurd placed
placed_rise columns until least bytes (chain ∷ chains) [] rise placed = absurd placed
placed_rise columns until least bytes (chain ∷ chains) (place ∷ places) rise placed = (
  let low : least ≤ chain.key = rise.0 in let same : place.key ≡ chain.key = placed.0 in omega arith,
  subst (λ k. RisesFrom (k + 1) places) (sym placed.0) (placed_rise columns until (chain.key + 1) bytes chains places rise.5 placed.3),
)

pub held_rise : (bytes : List ℕ) (columns until : ℕ) (places : List Place) → IsHeld bytes columns until places → IsNonDecreasingBy (λ (place : Place). place.key) places
held_rise bytes columns until places held = λ i j d order low. rising 0 places (placed_rise columns until 0 bytes held.chains places held.block.keys held.placed) i j d order low

-- ---- the versions at a place

pub record IsAt (columns until : ℕ) (bytes : List ℕ) (at : ℕ) (versions : List Version) : Type 0 where
  pub within : at ≤ length bytes
  pub few : length versions < 2 ^ 64
  pub fits : AreVersions columns until 0 versions
  pub rest : List ℕ
  pub text : drop at bytes ≡ chain_text columns versions ++ rest

not_some : (at : ℕ) → None ≡ Some at → ⊥
not_some at e = cc

same_some : (at other : ℕ) → Some at ≡ Some other → at ≡ other
same_some at other e = cc

-- as the decoding asks
pub versions_at : (columns until : ℕ) (bytes : List ℕ) (at : ℕ) (versions : List Version) → until < 2 ^ 64 → IsAt columns until bytes at versions → HasVersions columns until (drop at bytes)
versions_at columns until bytes at versions built is = record { versions = versions; rest = is.rest; built = built; few = is.few; fits = is.fits; text = is.text }

found_in : (columns until least : ℕ) (bytes : List ℕ) (chains : List Chain) (places : List Place) (key at : ℕ) → AreChains columns until least chains → ArePlaced columns bytes chains places → at_in places key ≡ Some at
    → IsAt columns until bytes at (versions_in chains key)
found_in columns until least bytes [] [] key at rise placed found = absurd (not_some at found)
found_in columns until least bytes [] (place ∷ places) key at rise placed found = absurd placed
found_in columns until least bytes (chain ∷ chains) [] key at rise placed found = absurd placed
found_in columns until least bytes (chain ∷ chains) (place ∷ places) key at rise placed found =
    by (key == chain.key) refl (λ behind. found_in columns until (chain.key + 1) bytes chains places key at rise.5 placed.3 behind)
  where
    test : (b : Bool) → (key == chain.key) ≡ b → (key == place.key) ≡ b
    test b is = ap (λ k. key == k) placed.0 ∙ is

    by : (b : Bool) → (key == chain.key) ≡ b → (at_in places key ≡ Some at → IsAt columns until bytes at (versions_in chains key)) → IsAt columns until bytes at (cond b chain.versions (versions_in chains key))
    by true is rest =
        subst (λ a. IsAt columns until bytes a chain.versions) (same_some place.at at (sym (ap (λ b. cond b (Some place.at) (at_in places key)) (test true is)) ∙ found))
        (record { within = placed.1; few = rise.3; fits = rise.4; rest = placed.2.0; text = placed.2.1 })
    by false is rest = rest (sym (ap (λ b. cond b (Some place.at) (at_in places key)) (test false is)) ∙ found)

none_in : (columns until least : ℕ) (bytes : List ℕ) (chains : List Chain) (places : List Place) (key : ℕ) → ArePlaced columns bytes chains places → at_in places key ≡ None → versions_in chains key ≡ []
none_in columns until least bytes [] [] key placed found = refl
none_in columns until least bytes [] (place ∷ places) key placed found = absurd placed
none_in columns until least bytes (chain ∷ chains) [] key placed found = absurd placed
none_in columns until least bytes (chain ∷ chains) (place ∷ places) key placed found =
    by (key == chain.key) refl (λ behind. none_in columns until least bytes chains places key placed.3 behind)
  where
    test : (b : Bool) → (key == chain.key) ≡ b → (key == place.key) ≡ b
    test b is = ap (λ k. key == k) placed.0 ∙ is

    by : (b : Bool) → (key == chain.key) ≡ b → (at_in places key ≡ None → versions_in chains key ≡ []) → cond b chain.versions (versions_in chains key) ≡ []
    by true is rest = absurd (not_some place.at (sym found ∙ ap (λ b. cond b (Some place.at) (at_in places key)) (test true is)))
    by false is rest = rest (sym (ap (λ b. cond b (Some place.at) (at_in places key)) (test false is)) ∙ found)

module _ (bytes : List ℕ) (columns until : ℕ) (places : List Place) (held : IsHeld bytes columns until places) where
  pub found : (key at : ℕ) → at_in places key ≡ Some at → IsAt columns until bytes at (versions_in held.chains key)
  found key at is = found_in columns until 0 bytes held.chains places key at held.block.keys held.placed is

  -- the row of a key in a history that has the block
  pub row_held : (width : ℕ) (history : List Commit) (key time : ℕ) → HasBlock width history bytes → row_at (versions_in held.chains key) time ≡ row_of (table_at history time) key
  row_held width history key time has =
      let is = of_history bytes columns until held.chains width history held.block has in
      ap (λ chains. row_at (versions_in chains key) time) (sym is.2) ∙ row_is history key time

  pub row_found : (width : ℕ) (history : List Commit) (key time at : ℕ) (row : Option (List Cell)) → HasBlock width history bytes → at_in places key ≡ Some at
      → ((versions : List Version) (rest : List ℕ) → until < 2 ^ 64 → length versions < 2 ^ 64 → AreVersions columns until 0 versions → drop at bytes ≡ chain_text columns versions ++ rest → row ≡ row_at versions time) → row ≡ row_of (table_at history time) key
  row_found width history key time at row has is read =
      let here = found key at is in
      read (versions_in held.chains key) here.rest held.block.built here.few here.fits here.text ∙ row_held width history key time has

  pub row_absent : (width : ℕ) (history : List Commit) (key time : ℕ) → HasBlock width history bytes → at_in places key ≡ None → None ≡ row_of (table_at history time) key
  row_absent width history key time has is =
      ap (λ versions. row_at versions time) (sym (none_in columns until 0 bytes held.chains places key held.placed is)) ∙ row_held width history key time has

  pub built : IsBuiltAt bytes until
  built = (columns, held.chains, held.block)

  pub built_once : (other : ℕ) → IsBuiltAt bytes other → other ≡ until
  built_once other is = (one_block bytes is.0 columns other until is.1 held.chains is.2 held.block).1

-- a block of a history was built at its length
pub built_length : (bytes : List ℕ) (until width : ℕ) (history : List Commit) → IsBuiltAt bytes until → HasBlock width history bytes → length history ≡ until
built_length bytes until width history is has = (of_history bytes is.0 until is.1 width history is.2 has).1
