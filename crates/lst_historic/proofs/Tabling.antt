-- The table as of a time, from keys with their versions.
use Rattle.std.proofs.Common.{◌≡◌, ℕ, zero, suc, ◌+◌, ◌*◌, ◌<◌, ◌≤◌, Bool, true, false, cond, List, [], ◌∷◌, ◌++◌, length, map, refl, sym, ap, ◌∙◌, subst, append_assoc, append-nil, arith}
use Rattle.std.proofs.lemmas.Bool.{eqb-true, ne_eqb, eq-eqb}
use Rattle.std.proofs.lemmas.List.Sums.{sum_by-cons}
use Rattle.std.specs.Prelude.{Option, Some, None, ◌==◌, sum_by}
use Rattle.std.specs.declared.cmp.Ordering.{Ordering}
use Rattle.std.specs.declared.cmp.Ordering.TheVariants.{Less, Equal, Greater}
use Rattle.std.specs.Ordering.{nat_cmp, is_eq, eq_by_cmp}
use Rattle.std.specs.Cmp.{nat_cmp_total, nat_cmp_is, unsigned_tied}
use Rattle.std.specs.FinMap.{find, put, entries, get, from_entries, get-from_entries, get-entries, entries-insert, len-entries, len-empty, same_map, nat_cmp-IsAntisymmetric}
use Rattle.std.specs.FinMap.Entries.{by_order}
use Rattle.lst_model.specs.declared.commits.Commit.{Commit}
use Rattle.lst_model.specs.Cells.{Cell, number_at}
use Rattle.lst_model.specs.Tables.{Rows, row_of, sum_of, scan_of}
use Rattle.lst_model.specs.Histories.{table_at}
use Rattle.lst_snapshots.specs.Versions.{row_at}
use Rattle.lst_historic.specs.Blocks.{Chain, chains_of}
use Rattle.lst_historic.specs.Tabled.{with_entry, rows_at, number_in}
use Rattle.lst_historic.proofs.Made.{versions_in, row_is, ChainsRise, chains_rise}

-- keys that rise, from this one on
abbrev pub Above : ℕ → List (ℕ × List Cell) → Type 0
Above least [] = Unit {0}
Above least (e ∷ es) = (least ≤ e.0) × Above (e.0 + 1) es

above_sooner : (least more : ℕ) (es : List (ℕ × List Cell)) → least ≤ more → Above more es → Above least es
above_sooner least more [] order above = tt
above_sooner least more (e ∷ es) order above = (let low : more ≤ e.0 = above.0 in omega arith, above.1)

rows_above : (least time : ℕ) (chains : List Chain) → ChainsRise least chains → Above least (rows_at chains time)
rows_above least time [] rise = tt
rows_above least time (chain ∷ chains) rise = by (row_at chain.versions time) (rows_above (chain.key + 1) time chains rise.1)
  where
    by : (row : Option (List Cell)) → Above (chain.key + 1) (rows_at chains time) → Above least (with_entry chain.key row (rows_at chains time))
    by None rest = above_sooner least (chain.key + 1) (rows_at chains time) (let low : least ≤ chain.key = rise.0 in omega arith) rest
    by (Some row) rest = (rise.0, rest)

put_first : (key : ℕ) (row : List Cell) (es : List (ℕ × List Cell)) → Above (key + 1) es → put nat_cmp key row es ≡ (key, row) ∷ es
put_first key row [] above = refl
put_first key row (e ∷ es) above =
    let low : key < e.0 = (let l : key + 1 ≤ e.0 = above.0 in omega arith) in
    ap (λ o. by_order o ((key, row) ∷ e ∷ es) ((e.0, row) ∷ es) (e ∷ put nat_cmp key row es)) (sym (nat_cmp_is key e.0 Less low))

no_length : {A : Type 0} (xs : List A) → length xs ≡ 0 → xs ≡ []
no_length [] none = refl
no_length (x ∷ xs) none = absurd (omega arith)

-- a map of entries by rising key has these entries
entries_of : (least : ℕ) (es : List (ℕ × List Cell)) → Above least es → entries (from_entries {R = nat_cmp} es) ≡ es
entries_of least [] above = no_length (entries (from_entries {R = nat_cmp} [])) (sym (len-entries (from_entries {R = nat_cmp} [])) ∙ len-empty nat_cmp (List Cell))
entries_of least (e ∷ es) above =
    entries-insert nat_cmp_total (from_entries es) e.0 e.1
    ∙ ap (put nat_cmp e.0 e.1) (entries_of (e.0 + 1) es above.1)
    ∙ put_first e.0 e.1 es above.1

tied : (q k : ℕ) → eq_by_cmp nat_cmp q k ≡ (q == k)
tied q k = unsigned_tied q k

absent : (q least : ℕ) (es : List (ℕ × List Cell)) → q < least → Above least es → find nat_cmp q es ≡ None
absent q least [] low above = refl
absent q least (e ∷ es) low above =
    let high : least ≤ e.0 = above.0 in
    ap (λ b. cond b (Some e.1) (find nat_cmp q es)) (tied q e.0 ∙ ne_eqb q e.0 (λ same. absurd (omega (arith, same))))
    ∙ absent q (e.0 + 1) es (omega arith) above.1

-- a key's row among them
found : (least time q : ℕ) (chains : List Chain) → ChainsRise least chains → find nat_cmp q (rows_at chains time) ≡ row_at (versions_in chains q) time
found least time q [] rise = refl
found least time q (chain ∷ chains) rise =
    by (row_at chain.versions time) refl (q == chain.key) refl (found (chain.key + 1) time q chains rise.1) (rows_above (chain.key + 1) time chains rise.1)
  where
    by : (row : Option (List Cell)) → row_at chain.versions time ≡ row → (b : Bool) → (q == chain.key) ≡ b → find nat_cmp q (rows_at chains time) ≡ row_at (versions_in chains q) time → Above (chain.key + 1) (rows_at chains time)
        → find nat_cmp q (with_entry chain.key row (rows_at chains time)) ≡ row_at (cond b chain.versions (versions_in chains q)) time
    by None is true same rest above = absent q (chain.key + 1) (rows_at chains time) (let e : q ≡ chain.key = eqb-true q chain.key same in omega (arith, e)) above ∙ sym is
    by None is false same rest above = rest
    by (Some row) is true same rest above = ap (λ b. cond b (Some row) (find nat_cmp q (rows_at chains time))) (tied q chain.key ∙ same) ∙ sym is
    by (Some row) is false same rest above = ap (λ b. cond b (Some row) (find nat_cmp q (rows_at chains time))) (tied q chain.key ∙ same) ∙ rest

-- the table as of a time has these rows
pub rows_are : (history : List Commit) (time : ℕ) → scan_of (table_at history time) ≡ rows_at (chains_of history) time
rows_are history time =
    let chains = chains_of history in
    let es = rows_at chains time in
    let rise = chains_rise history in
    let same : from_entries {R = nat_cmp} es ≡ table_at history time = same_map nat_cmp_total nat_cmp-IsAntisymmetric (from_entries es) (table_at history time) (λ q.
    get-from_entries nat_cmp_total es q ∙ found 0 time q chains rise ∙ row_is history q time) in
    ap (λ (m : Rows). entries m) (sym same) ∙ entries_of 0 es (rows_above 0 time chains rise)

-- and its sum is that of the keys' rows
sum_rows : (column time : ℕ) (chains : List Chain) → sum_by (λ (e : ℕ × List Cell). number_at column e.1) (rows_at chains time) ≡ sum_by (λ (chain : Chain). number_in column (row_at chain.versions time)) chains
sum_rows column time [] = refl
sum_rows column time (chain ∷ chains) = by (row_at chain.versions time) refl (sum_rows column time chains)
  where
    by : (row : Option (List Cell)) → row_at chain.versions time ≡ row → sum_by (λ (e : ℕ × List Cell). number_at column e.1) (rows_at chains time) ≡ sum_by (λ (chain : Chain). number_in column (row_at chain.versions time)) chains
        → sum_by (λ (e : ℕ × List Cell). number_at column e.1) (with_entry chain.key row (rows_at chains time)) ≡ sum_by (λ (chain : Chain). number_in column (row_at chain.versions time)) (chain ∷ chains)
    by None is rest =
        let two = sum_by-cons (λ (chain : Chain). number_in column (row_at chain.versions time)) chain chains in
        let zero = ap (number_in column) is in
        omega (arith, rest, two, zero)
    by (Some row) is rest =
        let one = sum_by-cons (λ (e : ℕ × List Cell). number_at column e.1) (chain.key, row) (rows_at chains time) in
        let two = sum_by-cons (λ (chain : Chain). number_in column (row_at chain.versions time)) chain chains in
        let here = ap (number_in column) is in
        omega (arith, rest, one, two, here)

pub sum_is : (history : List Commit) (column time : ℕ) → sum_of (table_at history time) column ≡ sum_by (λ (chain : Chain). number_in column (row_at chain.versions time)) (chains_of history)
sum_is history column time =
    ap (sum_by (λ (e : ℕ × List Cell). number_at column e.1)) (rows_are history time) ∙ sum_rows column time (chains_of history)
