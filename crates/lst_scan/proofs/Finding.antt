-- A find in progress, and what it comes to.
use Rattle.std.proofs.Common.{◌≡◌, ◌≢◌, ℕ, ◌+◌, ◌<◌, ◌≤◌, Bool, true, false, cond, List, [], length, Contains, refl, sym, subst, ap, ◌∙◌, arith, true≢false}
use mathlib.Core.Logic.{dite}
use native.Mathlib.Decide.{ℕ_discrete}
use Rattle.std.proofs.Common.{eq-eqb, ne_eqb}
use Rattle.std.specs.Prelude.{Option, Some, None, T, map, slice_index_or, ◌==◌}
use Rattle.std.specs.Ordering.{nat_cmp}
use Rattle.std.specs.Cmp.{nat_cmp_total, unsigned_tied}
use Rattle.std.specs.FinMap.{entries, entries_sorted, get-entries, nat_cmp-IsAntisymmetric}
use Rattle.std.specs.FinMap.Entries.{find, put, is_sorted, is_sorted-put, find-put, where_key, find-where_key, is_sorted-where_key, same_entries}
use Rattle.lst_model.specs.Cells.{Cell, holds_at}
use Rattle.lst_model.specs.Tables.{Rows, row_of, find_of}
use Rattle.lst_core_state.specs.declared.facts.Fact.TheVariants.{IndexAt}
use Rattle.lst_rule.specs.declared.view.View.{View}
use Rattle.lst_rule.specs.Rule.{knows}
use Rattle.lst_rule.specs.Learned.{Possible}
use Rattle.lst_rule.specs.declared.store.Store.{Store}
use Rattle.lst_rule.specs.declared.records.RecordId.{RecordId}
use Rattle.lst_rule.specs.Seats.{Sitting}
use Rattle.lst_rule.specs.Seen.{HasKey}
use Rattle.lst_rule.specs.Watching.{Watched}
use Rattle.lst_rule.proofs.Keying.{one_key}
use Rattle.lst_walk.specs.Readers.{IsReader}
use Rattle.lst_scan.specs.Scans.{table_seen, IsEntryWith, AreCandidates}
use Rattle.lst_scan.proofs.Totals.{same_chosen}
use Rattle.lst_scan.proofs.Seeing.{none_is_not, same_row, same_table, place_of, places_of}
use Rattle.lst_scan.proofs.Loops.{Scans, scans_start, scans_next, scans_keep, still_free, entries_with, put_is}

-- the first n records were looked at: the entries are those of their rows that have the number
pub record Finds (store : Store) (v : View) (seat : Sitting) (s column number : ℕ) (records : List RecordId) (n : ℕ) (found : List (ℕ × List Cell)) : Type 0 where
  pub scans : Scans store v seat s
  pub free : (knows seat.view s).placing.hand ≡ 0
  pub rising : T (is_sorted nat_cmp found)
  pub only : (key : ℕ) (row : List Cell) → find nat_cmp key found ≡ Some row → (row_of (table_seen (knows v s)) key ≡ Some row) × (holds_at column number row ≡ true)
  pub every : (key : ℕ) (row : List Cell) → row_of (table_seen (knows v s)) key ≡ Some row → holds_at column number row ≡ true → (i : ℕ) → i < n → (rec : RecordId) → slice_index_or records i rec ≡ rec → HasKey (knows v s).facts rec.number key → find nat_cmp key found ≡ Some row

-- what is found with one entry more
find_with : (es : List (ℕ × List Cell)) (key : ℕ) (row : List Cell) (q : ℕ) → find nat_cmp q (put nat_cmp key row es) ≡ cond (q == key) (Some row) (find nat_cmp q es)
find_with es key row q = find-put nat_cmp nat_cmp_total q key row es ∙ ap (λ b. cond b (Some row) (find nat_cmp q es)) (unsigned_tied q key)

find_same : (es : List (ℕ × List Cell)) (key : ℕ) (row : List Cell) (q : ℕ) → q ≡ key → find nat_cmp q (put nat_cmp key row es) ≡ Some row
find_same es key row q same = find_with es key row q ∙ ap (λ b. cond b (Some row) (find nat_cmp q es)) (eq-eqb q key same)

find_other : (es : List (ℕ × List Cell)) (key : ℕ) (row : List Cell) (q : ℕ) → q ≢ key → find nat_cmp q (put nat_cmp key row es) ≡ find nat_cmp q es
find_other es key row q apart = find_with es key row q ∙ ap (λ b. cond b (Some row) (find nat_cmp q es)) (ne_eqb q key apart)

pub finds_start : (store : Store) (seat : Sitting) (s column number : ℕ) (records : List RecordId) (found : List (ℕ × List Cell)) → Possible seat.view → IsReader store seat s → (knows seat.view s).placing.hand ≡ 0 → found ≡ [] → Finds store seat.view seat s column number records 0 found
finds_start store seat s column number records found p reader free none = record {
  scans = scans_start store seat s p reader;
  free = free;
  rising = subst (λ (es : List (ℕ × List Cell)). T (is_sorted nat_cmp es)) (sym none) tt;
  only = λ key row at. absurd (none_is_not row (sym (ap (find nat_cmp key) none) ∙ at));
  every = λ key row at holds i low. absurd (omega arith);
}

module _ (store : Store) (v : View) (a b : Sitting) (s column number : ℕ) (records : List RecordId) (n : ℕ) (found more : List (ℕ × List Cell)) (finds : Finds store v a s column number records n found) (p : Possible a.view) (reader : IsReader store b s) (watched : Watched a.view b.view s) (rec : RecordId)
    (here : (other : RecordId) → slice_index_or records n other ≡ rec) where
  same : table_seen (knows a.view s) ≡ table_seen (knows v s)
  same = same_table (knows v s) (knows a.view s) (scans_keep store v a s finds.scans).alike

  row_now : (key : ℕ) → row_of (table_seen (knows a.view s)) key ≡ row_of (table_seen (knows v s)) key
  row_now key = ap (λ (t : Rows). row_of t key) same

  still_has : (r key : ℕ) → HasKey (knows v s).facts r key → HasKey (knows a.view s).facts r key
  still_has r key has = (has.0, (scans_keep store v a s finds.scans).facts (IndexAt has.0 r key) has.1)

  pub finds_next : (entry : Option (ℕ × List Cell)) → IsEntryWith (knows a.view s) rec.number column number entry → more ≡ entries_with entry found → Finds store v b s column number records (n + 1) more
  finds_next None none is = record {
    scans = scans_next store v a b s finds.scans reader watched;
    free = still_free a.view b.view s watched finds.free;
    rising = subst (λ (es : List (ℕ × List Cell)). T (is_sorted nat_cmp es)) (sym is) finds.rising;
    only = λ key row at. finds.only key row (sym (ap (find nat_cmp key) is) ∙ at);
    every = λ key row at holds i low r at_i has. ap (find nat_cmp key) is ∙ dite (ℕ_discrete i n)
        (λ last. let r_is : r ≡ rec = sym at_i ∙ (ap (λ (j : ℕ). slice_index_or records j r) last ∙ here r) in
        absurd (true≢false (sym holds ∙ none (key, row) (subst (λ (q : RecordId). HasKey (knows a.view s).facts q.number key) r_is (still_has r.number key has), row_now key ∙ at))))
        (λ before. finds.every key row at holds i (omega arith) r at_i has);
  }
  finds_next (Some entry) one is = let put_now : more ≡ put nat_cmp entry.0 entry.1 found = is ∙ put_is found entry.0 entry.1 in record {
    scans = scans_next store v a b s finds.scans reader watched;
    free = still_free a.view b.view s watched finds.free;
    rising = subst (λ (es : List (ℕ × List Cell)). T (is_sorted nat_cmp es)) (sym put_now) (is_sorted-put nat_cmp nat_cmp_total entry.0 entry.1 found finds.rising);
    only = λ key row at. let at_put : find nat_cmp key (put nat_cmp entry.0 entry.1 found) ≡ Some row = sym (ap (find nat_cmp key) put_now) ∙ at in dite (ℕ_discrete key entry.0)
        (λ is_it. let row_is : entry.1 ≡ row = same_row entry.1 row (sym (find_same found entry.0 entry.1 key is_it) ∙ at_put) in
        (sym (row_now key) ∙ (ap (row_of (table_seen (knows a.view s))) is_it ∙ (one.0.1 ∙ ap (λ (r : List Cell). Some r) row_is)), ap (holds_at column number) (sym row_is) ∙ one.1))
        (λ apart. finds.only key row (sym (find_other found entry.0 entry.1 key apart) ∙ at_put));
    every = λ key row at holds i low r at_i has. ap (find nat_cmp key) put_now ∙ dite (ℕ_discrete key entry.0)
        (λ is_it. find_same found entry.0 entry.1 key is_it ∙ (sym one.0.1 ∙ (ap (row_of (table_seen (knows a.view s))) (sym is_it) ∙ (row_now key ∙ at))))
        (λ apart. find_other found entry.0 entry.1 key apart ∙ dite (ℕ_discrete i n)
        (λ last. let r_is : r ≡ rec = sym at_i ∙ (ap (λ (j : ℕ). slice_index_or records j r) last ∙ here r) in
        absurd (apart (one_key a.view s p finds.scans.reader.host rec.number key entry.0 (subst (λ (q : RecordId). HasKey (knows a.view s).facts q.number key) r_is (still_has r.number key has)) one.0.0)))
        (λ before. finds.every key row at holds i (omega arith) r at_i has));
  }

-- ---- the end

-- whether there is a row, with the number in the column
abbrev row_holds : ℕ → ℕ → Option (List Cell) → Bool
row_holds column number None = false
row_holds column number (Some row) = holds_at column number row

pub finds_done : (store : Store) (v : View) (seat : Sitting) (s column number : ℕ) (records : List RecordId) (n : ℕ) (found : List (ℕ × List Cell)) → Finds store v seat s column number records n found → length records ≤ n → AreCandidates (knows v s) column number records
    → map (λ (e : ℕ × List Cell). e.0) found ≡ find_of (table_seen (knows v s)) column number
finds_done store v seat s column number records n found finds all candidates = ap (map (λ (e : ℕ × List Cell). e.0)) (found_is ∙ same_chosen passes (holds_at column number) (entries table) (entries_sorted table)
    (λ key row at. ap (row_holds column number) (get-entries table key ∙ at)))
  where
    table : Rows
    table = table_seen (knows v s)

    passes : ℕ → Bool
    passes key = row_holds column number (row_of (table_seen (knows v s)) key)

    complete : (key : ℕ) (row : List Cell) → row_of (table_seen (knows v s)) key ≡ Some row → holds_at column number row ≡ true → find nat_cmp key found ≡ Some row
    complete key row at holds = let place : ℕ = place_of v s finds.scans.possible finds.scans.host finds.scans.opened key in let has = places_of v s finds.scans.possible finds.scans.host finds.scans.opened key row at in
        let in_list : Contains records record { number = place } = candidates place row (key, has, at) holds in let low = in_list.1 in
        finds.every key row at holds in_list.0 (omega arith) record { number = place } in_list.2 has

    by_row : (q : ℕ) (row : Option (List Cell)) → row_of (table_seen (knows v s)) q ≡ row → (there : Option (List Cell)) → find nat_cmp q found ≡ there → there ≡ cond (row_holds column number row) row None
    by_row q row at (Some x) is = let h = finds.only q x is in let row_is : row ≡ Some x = sym at ∙ h.0 in
        sym (ap (λ (o : Option (List Cell)). cond (row_holds column number o) o None) row_is ∙ ap (λ (b : Bool). cond b (Some x) None) h.1)
    by_row q (Some x) at None is = choose (holds_at column number x) refl
      where
        choose : (b : Bool) → holds_at column number x ≡ b → None ≡ cond (holds_at column number x) (Some x) None
        choose true holds = absurd (none_is_not x (sym is ∙ complete q x at holds))
        choose false holds = sym (ap (λ (b : Bool). cond b (Some x) None) holds)
    by_row q None at None is = refl

    found_is : found ≡ where_key nat_cmp (λ key. row_holds column number (row_of (table_seen (knows v s)) key)) (entries (table_seen (knows v s)))
    found_is = same_entries nat_cmp nat_cmp_total nat_cmp-IsAntisymmetric found (where_key nat_cmp passes (entries table)) finds.rising (is_sorted-where_key nat_cmp passes (entries table) (entries_sorted table))
        (λ q. by_row q (row_of table q) refl (find nat_cmp q found) refl ∙ (ap (λ (o : Option (List Cell)). cond (passes q) o None) (get-entries table q)
        ∙ sym (find-where_key nat_cmp passes q (λ x e. ap passes (sym (nat_cmp-IsAntisymmetric q x e))) (entries table))))
