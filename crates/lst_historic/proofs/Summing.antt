-- Keys one after the other, each at its place.
use Rattle.std.proofs.Common.{◌≡◌, ℕ, zero, suc, ◌+◌, ◌<◌, ◌≤◌, ◌^◌, List, [], ◌∷◌, ◌++◌, length, get_or, drop, refl, sym, ap, ◌∙◌, subst, add-one, append_assoc, append-nil, arith}
use Rattle.std.proofs.lemmas.List.Sums.{sum_by-cons}
use Rattle.std.specs.Prelude.{Option, Some, None, sum_by}
use Rattle.lst_model.specs.declared.commits.Commit.{Commit}
use Rattle.lst_model.specs.Cells.{Cell}
use Rattle.lst_model.specs.Tables.{sum_of, scan_of}
use Rattle.lst_model.specs.Histories.{table_at}
use Rattle.lst_snapshots.specs.declared.versions.Version.{Version}
use Rattle.lst_snapshots.specs.Versions.{row_at}
use Rattle.lst_historic.specs.declared.places.Place.{Place}
use Rattle.lst_historic.specs.Blocks.{Chain, chain_text, AreVersions, AreChains, IsBlock, chains_of}
use Rattle.lst_historic.specs.Places.{HasBlock, ArePlaced, IsHeld}
use Rattle.lst_historic.specs.Tabled.{with_entry, rows_at, number_in}
use Rattle.lst_historic.proofs.Made.{of_history}
use Rattle.lst_historic.proofs.Loops.{none_behind}
use Rattle.lst_historic.proofs.Placed.{IsAt}
use Rattle.lst_historic.proofs.Tabling.{rows_are, sum_is}

-- the key at an index, and its place
pub record IsThis (columns until : ℕ) (bytes : List ℕ) (chains : List Chain) (i key at : ℕ) : Type 0 where
  pub chain : Chain
  pub here : drop i chains ≡ chain ∷ drop (i + 1) chains
  pub key_is : key ≡ chain.key
  pub place : IsAt columns until bytes at chain.versions

this_of : (columns until least : ℕ) (bytes : List ℕ) (chains : List Chain) (places : List Place) (i : ℕ) (d : Place) → AreChains columns until least chains → ArePlaced columns bytes chains places → i < length places
    → (chain : Chain) × (drop i chains ≡ chain ∷ drop (suc i) chains) × ((get_or places i d).key ≡ chain.key) × IsAt columns until bytes ((get_or places i d).at) chain.versions
this_of columns until least bytes [] [] i d rise placed low = absurd (omega arith)
this_of columns until least bytes [] (place ∷ places) i d rise placed low = absurd placed
this_of columns until least bytes (chain ∷ chains) [] i d rise placed low = absurd placed
this_of columns until least bytes (chain ∷ chains) (place ∷ places) zero d rise placed low =
    (chain, refl, placed.0, record { within = placed.1; few = rise.3; fits = rise.4; rest = placed.2.0; text = placed.2.1 })
this_of columns until least bytes (chain ∷ chains) (place ∷ places) (suc i) d rise placed low = this_of columns until (chain.key + 1) bytes chains places i d rise.5 placed.3 (omega arith)

pub this : (bytes : List ℕ) (columns until : ℕ) (places : List Place) (held : IsHeld bytes columns until places) (i : ℕ) (d : Place) → i < length places → IsThis columns until bytes held.chains i ((get_or places i d).key) ((get_or places i d).at)
this bytes columns until places held i d low =
    let found = this_of columns until 0 bytes held.chains places i d held.block.keys held.placed low in
    record { chain = found.0; here = found.1 ∙ ap (λ k. found.0 ∷ drop k held.chains) (sym (add-one i)); key_is = found.2; place = found.3 }

placed_length : (columns : ℕ) (bytes : List ℕ) (chains : List Chain) (places : List Place) → ArePlaced columns bytes chains places → length chains ≡ length places
placed_length columns bytes [] [] placed = refl
placed_length columns bytes [] (place ∷ places) placed = absurd placed
placed_length columns bytes (chain ∷ chains) [] placed = absurd placed
placed_length columns bytes (chain ∷ chains) (place ∷ places) placed = ap suc (placed_length columns bytes chains places placed.3)

pub sum_more : (f : Chain → ℕ) (chains : List Chain) (i total number all : ℕ) (chain : Chain) → drop i chains ≡ chain ∷ drop (i + 1) chains → number ≡ f chain → total + sum_by f (drop i chains) ≡ all → (total + number) + sum_by f (drop (i + 1) chains) ≡ all
sum_more f chains i total number all chain here is so_far =
    let one = ap (sum_by f) here in
    let two = sum_by-cons f chain (drop (i + 1) chains) in
    omega (arith, one, two, is, so_far)

pub sum_all : (bytes : List ℕ) (columns until : ℕ) (places : List Place) (held : IsHeld bytes columns until places) (column time i total width : ℕ) (history : List Commit) → length places ≤ i
    → total + sum_by (λ (chain : Chain). number_in column (row_at chain.versions time)) (drop i held.chains) ≡ sum_by (λ (chain : Chain). number_in column (row_at chain.versions time)) held.chains
    → HasBlock width history bytes → total ≡ sum_of (table_at history time) column
sum_all bytes columns until places held column time i total width history out so_far has =
    let f : Chain → ℕ = λ (chain : Chain). number_in column (row_at chain.versions time) in
    let size = placed_length columns bytes held.chains places held.placed in
    let none : drop i held.chains ≡ [] = none_behind held.chains i (omega (arith, size)) in
    let zero_left : sum_by f (drop i held.chains) ≡ 0 = ap (sum_by f) none in
    let is = of_history bytes columns until held.chains width history held.block has in
    let all : sum_by f held.chains ≡ sum_of (table_at history time) column = ap (sum_by f) (sym is.2) ∙ sym (sum_is history column time) in
    omega (arith, zero_left, so_far, all)

-- ---- the rows of all keys

entry_front : (key : ℕ) (row : Option (List Cell)) (es : List (ℕ × List Cell)) → with_entry key row es ≡ with_entry key row [] ++ es
entry_front key None es = refl
entry_front key (Some row) es = refl

pub rows_more : (time i key : ℕ) (chains : List Chain) (rows new all : List (ℕ × List Cell)) (row : Option (List Cell)) (chain : Chain) → drop i chains ≡ chain ∷ drop (i + 1) chains → key ≡ chain.key → row ≡ row_at chain.versions time
    → new ≡ rows ++ with_entry key row [] → rows ++ rows_at (drop i chains) time ≡ all → new ++ rows_at (drop (i + 1) chains) time ≡ all
rows_more time i key chains rows new all row chain here key-is row-is is so_far =
    let rest = rows_at (drop (i + 1) chains) time in
    ap (λ es. es ++ rest) is
    ∙ append_assoc rows (with_entry key row []) rest
    ∙ ap (λ es. rows ++ es) (sym (entry_front key row rest) ∙ ap (λ k. with_entry k row rest) key-is ∙ ap (λ r. with_entry chain.key r rest) row-is ∙ sym (ap (λ (cs : List Chain). rows_at cs time) here))
    ∙ so_far

pub rows_all : (bytes : List ℕ) (columns until : ℕ) (places : List Place) (held : IsHeld bytes columns until places) (time i width : ℕ) (rows : List (ℕ × List Cell)) (history : List Commit) → length places ≤ i
    → rows ++ rows_at (drop i held.chains) time ≡ rows_at held.chains time → HasBlock width history bytes → rows ≡ scan_of (table_at history time)
rows_all bytes columns until places held time i width rows history out so_far has =
    let size = placed_length columns bytes held.chains places held.placed in
    let none : drop i held.chains ≡ [] = none_behind held.chains i (omega (arith, size)) in
    let is = of_history bytes columns until held.chains width history held.block has in
    sym (append-nil rows) ∙ ap (λ (cs : List Chain). rows ++ rows_at cs time) (sym none) ∙ so_far ∙ ap (λ (cs : List Chain). rows_at cs time) (sym is.2) ∙ sym (rows_are history time)
