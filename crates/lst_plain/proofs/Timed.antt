-- The row as of a time, read from versions by rising time.
use Rattle.std.proofs.Common.{◌≡◌, ℕ, zero, suc, ◌-◌, ◌<◌, ◌≤◌, true, false, cond, List, [], ◌∷◌, ◌++◌, length, get_or, refl, sym, ap, ◌∙◌, arith, leb, le-leb}
use Rattle.std.proofs.lemmas.List.Sorted.{IsNonDecreasingBy-push}
use Rattle.std.specs.Prelude.{Option, None, unwrap_or}
use Rattle.std.specs.Option.{option_map}
use Rattle.std.proofs.lemmas.List.{length-append}
use Rattle.std.proofs.lemmas.Option.{slice_get-get_or}
use Rattle.std.proofs.Math.Seq.{get_or-append_seam}
use Rattle.std.specs.List.Sorted.{IsNonDecreasingBy}
use Rattle.lst_model.specs.Cells.{Cell}
use Rattle.lst_plain.specs.declared.versions.Version.{Version}
use Rattle.lst_plain.specs.Rows.{row_from_versions, row_at, newest}

-- versions that are all later leave the row
pub none_early : (row : Option (List Cell)) (vs : List Version) (t : ℕ) → ((k : ℕ) (d : Version) → k < length vs → leb (get_or vs k d).time t ≡ false) → row_from_versions row vs t ≡ row
none_early row [] t late = refl
none_early row (v ∷ vs) t late =
    ap (λ b. row_from_versions (cond b v.row row) vs t) (late 0 v (omega arith))
    ∙ none_early row vs t (λ k d h. late (suc k) d (omega arith))

-- the last of the early versions has the row
pub last_early : (row : Option (List Cell)) (vs : List Version) (t j : ℕ) (d : Version) → j < length vs
    → ((k : ℕ) (e : Version) → k ≤ j → leb (get_or vs k e).time t ≡ true)
    → ((k : ℕ) (e : Version) → j < k → k < length vs → leb (get_or vs k e).time t ≡ false)
    → row_from_versions row vs t ≡ (get_or vs j d).row
last_early row [] t j d within early late = absurd (omega arith)
last_early row (v ∷ vs) t zero d within early late =
    ap (λ b. row_from_versions (cond b v.row row) vs t) (early 0 v (omega arith))
    ∙ none_early v.row vs t (λ k e h. late (suc k) e (omega arith) (omega arith))
last_early row (v ∷ vs) t (suc j) d within early late =
    ap (λ b. row_from_versions (cond b v.row row) vs t) (early 0 v (omega arith))
    ∙ last_early v.row vs t j d (omega arith) (λ k e h. early (suc k) e (omega arith)) (λ k e low high. late (suc k) e (omega arith) (omega arith))

-- one more version
pub row-append : (row : Option (List Cell)) (vs : List Version) (v : Version) (t : ℕ) → row_from_versions row (vs ++ v ∷ []) t ≡ cond (leb v.time t) v.row (row_from_versions row vs t)
row-append row [] v t = refl
row-append row (w ∷ vs) v t = row-append (cond (leb w.time t) w.row row) vs v t

-- times at which the same versions are early have the same row
pub same_early : (row : Option (List Cell)) (vs : List Version) (t u : ℕ) → ((k : ℕ) (d : Version) → k < length vs → leb (get_or vs k d).time t ≡ leb (get_or vs k d).time u) → row_from_versions row vs t ≡ row_from_versions row vs u
same_early row [] t u same = refl
same_early row (v ∷ vs) t u same =
    same_early (cond (leb v.time t) v.row row) vs t u (λ k d h. same (suc k) d (omega arith))
    ∙ ap (λ b. row_from_versions (cond b v.row row) vs u) (same 0 v (omega arith))

-- the time of the last version
pub newest-last : (vs : List Version) (d : Version) → 0 < length vs → (get_or vs (length vs - 1) d).time ≡ newest vs
newest-last vs d some = ap (λ (o : Option Version). unwrap_or (option_map (λ (v : Version). v.time) o) 0) (sym (slice_get-get_or vs (length vs - 1) d (omega arith)))

pub newest-append : (vs : List Version) (v : Version) → newest (vs ++ v ∷ []) ≡ v.time
newest-append vs v =
    let one_more = length-append vs (v ∷ []) in
    let last : length (vs ++ v ∷ []) - 1 ≡ length vs = omega (arith, one_more) in
    sym (newest-last (vs ++ v ∷ []) v (omega (arith, one_more)))
    ∙ ap (λ i. (get_or (vs ++ v ∷ []) i v).time) last
    ∙ ap (λ (w : Version). w.time) (get_or-append_seam vs v [] v)

-- no version is later than the newest
pub all_early : (vs : List Version) (k : ℕ) (d : Version) → IsNonDecreasingBy (λ (v : Version). v.time) vs → k < length vs → (get_or vs k d).time ≤ newest vs
all_early vs k d rising low = let step = rising k (length vs - 1) d (omega arith) (omega arith) in let last = newest-last vs d (omega arith) in omega (arith, step, last)

-- from the newest version on each time has its row
pub row-late : (vs : List Version) (t u : ℕ) → IsNonDecreasingBy (λ (v : Version). v.time) vs → newest vs ≤ t → newest vs ≤ u → row_at vs t ≡ row_at vs u
row-late vs t u rising one two = same_early None vs t u (λ k d low.
    let early = all_early vs k d rising low in
    le-leb (get_or vs k d).time t (omega arith) ∙ sym (le-leb (get_or vs k d).time u (omega arith)))

pub rising-append : (vs : List Version) (v : Version) → IsNonDecreasingBy (λ (v : Version). v.time) vs → newest vs ≤ v.time → IsNonDecreasingBy (λ (v : Version). v.time) (vs ++ v ∷ [])
rising-append vs v rising late = IsNonDecreasingBy-push (λ (v : Version). v.time) vs v rising (λ d some. let last = newest-last vs d some in omega (arith, last))
