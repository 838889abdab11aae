-- What follows by the newest version of each key is what is apart and fits from the rows as of the begin on.
use Rattle.std.proofs.Common.{◌≡◌, ℕ, ◌≤◌, Bool, true, false, cond, List, [], ◌∷◌, refl, sym, ap, ◌∙◌, arith}
use Rattle.std.proofs.lemmas.Bool.{eqb-true, leb-true, le-leb}
use Rattle.std.specs.Prelude.{Option, Some, None, is_some, slice_get, ◌==◌, ◌&&◌, nat_le}
use Rattle.std.specs.List.{list_all}
use Rattle.std.specs.BTreeMap.{BTreeMap}
use Rattle.lst_model.specs.declared.acts.Act.{Act}
use Rattle.lst_model.specs.declared.acts.Act.TheVariants.{Put, Set, Del}
use Rattle.lst_model.specs.declared.acts.Write.{Write}
use Rattle.lst_model.specs.Cells.{Cell}
use Rattle.lst_model.specs.Histories.{row_after}
use Rattle.lst_snapshots.specs.declared.versions.Version.{Version}
use Rattle.lst_snapshots.specs.Versions.{RisesFrom, row_from_versions, row_at, last_time, last_row}
use Rattle.lst_snapshots.specs.Indexes.{versions_in, AreRising}
use Rattle.lst_snapshots.specs.Fitting.{fits, fits_there, there_after, row_beside, fit_behind}
use Rattle.lst_snapshots.proofs.Ages.{last_time-le}

-- where no version is later, the last one's row is that as of the time
pub all_early : (row : Option (List Cell)) (time : ℕ) (vs : List Version) (t : ℕ) → RisesFrom time vs → last_time time vs ≤ t → row_from_versions row vs t ≡ last_row row vs
all_early row time [] t rises early = refl
all_early row time (v ∷ vs) t rises early =
    let low = last_time-le v.time vs rises.1 in
    ap (λ b. row_from_versions (cond b v.row row) vs t) (le-leb v.time t (omega (arith, low, early)))
    ∙ all_early v.row v.time vs t rises.1 early

same_after : (row : Option (List Cell)) (act : Act) → there_after (is_some row) act ≡ is_some (row_after row act)
same_after None (Put new) = refl
same_after (Some old) (Put new) = refl
same_after None (Set patch) = refl
same_after (Some old) (Set patch) = refl
same_after None Del = refl
same_after (Some old) Del = refl

moved : (a b c : Bool) → (a && (b && c)) ≡ (b && (a && c))
moved true true c = refl
moved true false c = refl
moved false true c = refl
moved false false c = refl

module _ (times : ℕ → ℕ) (theres : ℕ → Bool) (begin : ℕ) where
  -- the last write was on this key, and left it so
  abbrev pub follow_behind : ℕ → Bool → List Write → Bool
  follow_behind key there [] = true
  follow_behind key there (w ∷ ws) = (nat_le (times w.key) begin && fits_there (cond (w.key == key) there (theres w.key)) w.act) && follow_behind w.key (there_after (cond (w.key == key) there (theres w.key)) w.act) ws

  module _ (rows : ℕ → Option (List Cell)) (same : (key : ℕ) → nat_le (times key) begin ≡ true → theres key ≡ is_some (rows key)) where
    there_beside : (key : ℕ) (row : Option (List Cell)) (q : ℕ) → nat_le (times q) begin ≡ true → cond (q == key) (is_some row) (theres q) ≡ is_some (row_beside rows key row q)
    there_beside key row q early = at_test (q == key)
      where
        at_test : (b : Bool) → cond b (is_some row) (theres q) ≡ is_some (cond b row (rows q))
        at_test true = refl
        at_test false = same q early

    behind_is : (key : ℕ) (row : Option (List Cell)) (ws : List Write)
        → follow_behind key (is_some row) ws ≡ (list_all (λ (w : Write). nat_le (times w.key) begin) ws && fit_behind rows key row ws)
    behind_is key row [] = refl
    behind_is key row (w ∷ ws) = step (nat_le (times w.key) begin) refl (behind_is w.key (row_after found w.act) ws)
      where
        found : Option (List Cell)
        found = row_beside rows key row w.key

        all : Bool
        all = list_all (λ (v : Write). nat_le (times v.key) begin) ws

        step : (b : Bool) → nat_le (times w.key) begin ≡ b → follow_behind w.key (is_some (row_after found w.act)) ws ≡ (all && fit_behind rows w.key (row_after found w.act) ws)
            → ((b && fits_there (cond (w.key == key) (is_some row) (theres w.key)) w.act) && follow_behind w.key (there_after (cond (w.key == key) (is_some row) (theres w.key)) w.act) ws)
            ≡ ((b && all) && (fits found w.act && fit_behind rows w.key (row_after found w.act) ws))
        step false late rest = refl
        step true early rest =
            ap (λ (there : Bool). fits_there there w.act && follow_behind w.key (there_after there w.act) ws) (there_beside key row w.key early)
            ∙ ap (λ (there : Bool). fits found w.act && follow_behind w.key there ws) (same_after found w.act)
            ∙ ap (λ (b : Bool). fits found w.act && b) rest
            ∙ moved (fits found w.act) all (fit_behind rows w.key (row_after found w.act) ws)

    -- with its own row, it is all one which key is the last
    own_row : (key q : ℕ) → row_beside rows key (rows key) q ≡ rows q
    own_row key q = at_test (q == key) refl
      where
        at_test : (b : Bool) → (q == key) ≡ b → cond b (rows key) (rows q) ≡ rows q
        at_test true is = ap rows (sym (eqb-true _ _ is))
        at_test false is = refl

    pub first_is : (w : Write) (ws : List Write)
        → follow_behind w.key (theres w.key) (w ∷ ws) ≡ (list_all (λ (v : Write). nat_le (times v.key) begin) (w ∷ ws) && fit_behind rows 0 (rows 0) (w ∷ ws))
    first_is w ws = step (nat_le (times w.key) begin) refl
      where
        step : (b : Bool) → nat_le (times w.key) begin ≡ b
            → follow_behind w.key (theres w.key) (w ∷ ws) ≡ (list_all (λ (v : Write). nat_le (times v.key) begin) (w ∷ ws) && fit_behind rows 0 (rows 0) (w ∷ ws))
        step false late =
            ap (λ (b : Bool). (b && fits_there (cond (w.key == w.key) (theres w.key) (theres w.key)) w.act) && follow_behind w.key (there_after (cond (w.key == w.key) (theres w.key) (theres w.key)) w.act) ws) late
            ∙ sym (ap (λ (b : Bool). (b && list_all (λ (v : Write). nat_le (times v.key) begin) ws) && fit_behind rows 0 (rows 0) (w ∷ ws)) late)
        step true early =
            ap (λ (there : Bool). follow_behind w.key there (w ∷ ws)) (same w.key early)
            ∙ behind_is w.key (rows w.key) (w ∷ ws)
            ∙ ap (λ found. list_all (λ (v : Write). nat_le (times v.key) begin) (w ∷ ws) && (fits found w.act && fit_behind rows w.key (row_after found w.act) ws)) (own_row w.key w.key ∙ sym (own_row 0 w.key))

-- of an index
module _ (index : BTreeMap ℕ (List Version)) (begin : ℕ) where
  abbrev pub time_on : ℕ → ℕ
  time_on key = last_time 0 (versions_in index key)

  abbrev pub is_row_on : ℕ → Bool
  is_row_on key = is_some (last_row None (versions_in index key))

  abbrev pub follow_from : ℕ → Bool → List Write → Bool
  follow_from key there ws = follow_behind time_on is_row_on begin key there ws

  pub from_first : AreRising index → (w : Write) (ws : List Write)
      → follow_from w.key (is_row_on w.key) (w ∷ ws)
      ≡ (list_all (λ (v : Write). nat_le (last_time 0 (versions_in index v.key)) begin) (w ∷ ws) && fit_behind (λ key. row_at (versions_in index key) begin) 0 (row_at (versions_in index 0) begin) (w ∷ ws))
  from_first rising w ws = first_is time_on is_row_on begin (λ key. row_at (versions_in index key) begin)
      (λ key early. ap (λ row. is_some row) (sym (all_early None 0 (versions_in index key) begin (rising key) (leb-true _ _ early)))) w ws

-- the first write, of a list that has one
pub at_first : (index : BTreeMap ℕ (List Version)) (begin : ℕ) (ws : List Write) (w : Write) → AreRising index → slice_get ws 0 ≡ Some w
    → (list_all (λ (v : Write). nat_le (last_time 0 (versions_in index v.key)) begin) ws && fit_behind (λ key. row_at (versions_in index key) begin) 0 (row_at (versions_in index 0) begin) ws)
    ≡ follow_from index begin w.key (is_row_on index begin w.key) ws
at_first index begin [] w rising got = absurd (cc)
at_first index begin (v ∷ ws) w rising got =
    let same : v ≡ w = cc in
    sym (from_first index begin rising v ws) ∙ ap (λ (x : Write). follow_from index begin x.key (is_row_on index begin x.key) (v ∷ ws)) same
