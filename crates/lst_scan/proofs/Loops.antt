-- Scans in progress.
use Rattle.std.proofs.Common.{◌≡◌, ◌⊎◌, ℕ, ◌+◌, ◌<◌, ◌≤◌, List, [], ◌∷◌, ◌++◌, inr, ⊎_elim, length, true, refl, sym, subst, ap, ◌∙◌, arith}
use Rattle.std.specs.Prelude.{Option, Some, None}
use Rattle.lst_model.specs.Cells.{Cell}
use Rattle.lst_model.specs.Tables.{Rows}
use Rattle.lst_core_state.specs.declared.known.Known.{Known}
use Rattle.lst_rule.specs.declared.view.View.{View}
use Rattle.lst_rule.specs.Rule.{knows, hosts}
use Rattle.lst_rule.specs.Learned.{Possible}
use Rattle.lst_rule.specs.declared.store.Store.{Store}
use Rattle.lst_rule.specs.Seats.{Sitting}
use Rattle.lst_rule.specs.Watching.{Watched}
use Rattle.lst_rule.specs.Laws.{KeptBy}
use Rattle.lst_rule.proofs.Watching.{watchers_keep, watched_same, watches_join}
use Rattle.lst_session.specs.Lending.{IsLent}
use Rattle.lst_walk.specs.Readers.{IsReader}
use Rattle.std.specs.Ordering.{nat_cmp, match_ordering}
use Rattle.std.specs.declared.cmp.Ordering.{Ordering}
use Rattle.std.specs.declared.cmp.Ordering.TheVariants.{Less, Equal, Greater}
use Rattle.std.specs.Cmp.{nat_cmp_total, nat_cmp_is}
use Rattle.lst_core_state.specs.Cells.{record_count}
use Rattle.std.specs.FinMap.{entries, entries-insert}
use Rattle.std.specs.FinMap.Entries.{put, by_order}
use Rattle.std.specs.BTreeMap.{insert_entry}
use Rattle.lst_scan.specs.Scans.{table_seen, IsRowOn, IsEntryOn, Places, between}
use Rattle.lst_scan.proofs.Totals.{length_sum}
use Rattle.lst_scan.proofs.Parts.{total, total_none, total_split}
use Rattle.lst_scan.proofs.Seeing.{place_of, places_of, all_rows, same_table, places_stay, weight_of, total_on, with_entry, with_record}

-- the session has only looked since the view was v
pub record Scans (store : Store) (v : View) (seat : Sitting) (s : ℕ) : Type 0 where
  pub possible : Possible v
  pub host : hosts v s ≡ true
  pub opened : (knows v s).is_open ≡ true
  pub reader : IsReader store seat s
  pub watched : Watched v seat.view s

-- a scan of all records has come to the record n: the entries are those of the rows on the records before it. No record is in hand
pub record Collects (store : Store) (v : View) (seat : Sitting) (s n : ℕ) (found : List (ℕ × List Cell)) : Type 0 where
  pub scans : Scans store v seat s
  pub free : (knows seat.view s).placing.hand ≡ 0
  pub is : (place : ℕ → ℕ) → Places (knows v s) place → found ≡ entries (between place 0 n (table_seen (knows v s)))

-- a scan of the records from `low` on has come to the record n: the sum is that over the rows of the records before it
pub record Adds (store : Store) (v : View) (seat : Sitting) (s : ℕ) (weight : List Cell → ℕ) (low n sum : ℕ) : Type 0 where
  pub scans : Scans store v seat s
  pub rises : low ≤ n
  pub is : (place : ℕ → ℕ) → Places (knows v s) place → sum ≡ total weight (between place low n (table_seen (knows v s)))

pub scans_start : (store : Store) (seat : Sitting) (s : ℕ) → Possible seat.view → IsReader store seat s → Scans store seat.view seat s
scans_start store seat s p reader = record { possible = p; host = reader.host; opened = reader.opened; reader = reader; watched = watched_same seat.view s }

pub scans_next : (store : Store) (v : View) (a b : Sitting) (s : ℕ) → Scans store v a s → IsReader store b s → Watched a.view b.view s → Scans store v b s
scans_next store v a b s scans reader watched = record { possible = scans.possible; host = scans.host; opened = scans.opened; reader = reader; watched = watches_join v a.view b.view s scans.watched watched }

pub scans_keep : (store : Store) (v : View) (a : Sitting) (s : ℕ) → Scans store v a s → KeptBy (knows v s) (knows a.view s)
scans_keep store v a s scans = watchers_keep v a.view s scans.possible scans.host scans.opened scans.watched

pub adds_start : (store : Store) (seat : Sitting) (s : ℕ) (weight : List Cell → ℕ) (low : ℕ) → Possible seat.view → IsReader store seat s → Adds store seat.view seat s weight low low 0
adds_start store seat s weight low p reader = record {
  scans = scans_start store seat s p reader;
  rises = omega arith;
  is = λ place places. sym (total_none weight place (table_seen (knows seat.view s)) low low (λ key row at a b. omega arith));
}

-- the records from n up to `high` were scanned
pub adds_part : (store : Store) (v : View) (a b : Sitting) (s : ℕ) (weight : List Cell → ℕ) (low n high sum more : ℕ) → Adds store v a s weight low n sum → IsReader store b s → Watched a.view b.view s → n ≤ high
    → ((place : ℕ → ℕ) → Places (knows a.view s) place → more ≡ total weight (between place n high (table_seen (knows a.view s)))) → Adds store v b s weight low high (sum + more)
adds_part store v a b s weight low n high sum more adds reader watched rises part = let kept = scans_keep store v a s adds.scans in record {
  scans = scans_next store v a b s adds.scans reader watched;
  rises = let e = adds.rises in omega arith;
  is = λ place places. let here : more ≡ total weight (between place n high (table_seen (knows v s))) =
      part place (places_stay (knows v s) (knows a.view s) kept place places) ∙ ap (λ (t : Rows). total weight (between place n high t)) (same_table (knows v s) (knows a.view s) kept.alike) in
      let before = adds.is place places in
      let all = total_split weight place (table_seen (knows v s)) low n high adds.rises rises in omega arith;
}

-- one record was
pub adds_next : (store : Store) (v : View) (a b : Sitting) (s : ℕ) (weight : List Cell → ℕ) (low n sum : ℕ) → Adds store v a s weight low n sum → Possible a.view → IsReader store b s → Watched a.view b.view s → (row : Option (List Cell)) → IsRowOn (knows a.view s) n row
    → Adds store v b s weight low (n + 1) (sum + weight_of weight row)
adds_next store v a b s weight low n sum adds p reader watched row on = adds_part store v a b s weight low n (n + 1) sum (weight_of weight row) adds reader watched (omega arith)
    (λ place places. sym (total_on a.view s p adds.scans.reader.host place places weight n row on))

-- ---- entries

-- entries with one more, or with none
abbrev pub entries_with : Option (ℕ × List Cell) → List (ℕ × List Cell) → List (ℕ × List Cell)
entries_with None found = found
entries_with (Some entry) found = insert_entry nat_cmp found entry.0 entry.1

pub put_is : (es : List (ℕ × List Cell)) (key : ℕ) (row : List Cell) → insert_entry nat_cmp es key row ≡ put nat_cmp key row es
put_is [] key row = refl
put_is (e ∷ es) key row = choose (nat_cmp key e.0) (put_is es key row)
  where
    choose : (o : Ordering) → insert_entry nat_cmp es key row ≡ put nat_cmp key row es → match_ordering o ((key, row) ∷ e ∷ es) ((e.0, row) ∷ es) (e ∷ insert_entry nat_cmp es key row) ≡ by_order o ((key, row) ∷ e ∷ es) ((e.0, row) ∷ es) (e ∷ put nat_cmp key row es)
    choose Less rest = refl
    choose Equal rest = refl
    choose Greater rest = ap (λ more. e ∷ more) rest

entries_with_is : (entry : Option (ℕ × List Cell)) (table : Rows) → entries_with entry (entries table) ≡ entries (with_entry entry table)
entries_with_is None table = refl
entries_with_is (Some entry) table = put_is (entries table) entry.0 entry.1 ∙ sym (entries-insert nat_cmp_total table entry.0 entry.1)

none_long : (es : List (ℕ × List Cell)) → length es ≡ 0 → es ≡ []
none_long [] e = refl
none_long (e ∷ es) is = absurd (omega arith)

no_entries : (place : ℕ → ℕ) (low : ℕ) (table : Rows) → entries (between place low low table) ≡ []
no_entries place low table = none_long (entries (between place low low table)) (length_sum (entries (between place low low table)) ∙ total_none (λ _. 1) place table low low (λ key row at a b. omega arith))

pub still_free : (v w : View) (s : ℕ) → Watched v w s → (knows v s).placing.hand ≡ 0 → (knows w s).placing.hand ≡ 0
still_free v w s watched free = ap (λ (k : Known). k.placing.hand) watched.watches.is ∙ free

-- a reader that was lent stays one
pub lent_still : (store : Store) (a b : Sitting) (s : ℕ) → IsReader store b s → Watched a.view b.view s → IsLent store a s → IsLent store b s
lent_still store a b s reader watched lent = record { reader = reader; free = still_free a.view b.view s watched lent.free }

pub collects_start : (store : Store) (seat : Sitting) (s : ℕ) (found : List (ℕ × List Cell)) → Possible seat.view → IsReader store seat s → (knows seat.view s).placing.hand ≡ 0 → found ≡ [] → Collects store seat.view seat s 0 found
collects_start store seat s found p reader free none = record {
  scans = scans_start store seat s p reader;
  free = free;
  is = λ place places. none ∙ sym (no_entries place 0 (table_seen (knows seat.view s)));
}

pub collects_next : (store : Store) (v : View) (a b : Sitting) (s n : ℕ) (found more : List (ℕ × List Cell)) → Collects store v a s n found → Possible a.view → IsReader store b s → Watched a.view b.view s → (entry : Option (ℕ × List Cell)) → IsEntryOn (knows a.view s) n entry
    → more ≡ entries_with entry found → Collects store v b s (n + 1) more
collects_next store v a b s n found more collects p reader watched entry on is = let kept = scans_keep store v a s collects.scans in record {
  scans = scans_next store v a b s collects.scans reader watched;
  free = still_free a.view b.view s watched collects.free;
  is = λ place places. is ∙ (ap (entries_with entry) (collects.is place places) ∙ (entries_with_is entry (between place 0 n (table_seen (knows v s)))
      ∙ ap entries (sym (subst (λ (t : Rows). between place 0 (n + 1) t ≡ with_entry entry (between place 0 n t)) (same_table (knows v s) (knows a.view s) kept.alike)
      (with_record a.view s p collects.scans.reader.host place (places_stay (knows v s) (knows a.view s) kept place places) 0 n (omega arith) entry on)))));
}

-- ---- entries by rising key

-- each key of the list is below this one
abbrev pub AreBelow : ℕ → List (ℕ × List Cell) → Type 0
AreBelow key [] = Unit {0}
AreBelow key (e ∷ es) = (e.0 < key) × AreBelow key es

-- the list has no key, or none above the last
abbrev pub AreUpTo : ℕ → List (ℕ × List Cell) → Type 0
AreUpTo last found = (found ≡ []) ⊎ AreBelow (last + 1) found

below_higher : (low high : ℕ) (es : List (ℕ × List Cell)) → low ≤ high → AreBelow low es → AreBelow high es
below_higher low high [] rises below = tt
below_higher low high (e ∷ es) rises below = ((let b = below.0 in omega arith), below_higher low high es rises below.1)

below_more : (key : ℕ) (row : List Cell) (es : List (ℕ × List Cell)) → AreBelow key es → AreBelow (key + 1) (es ++ (key, row) ∷ [])
below_more key row [] below = ((omega arith), tt)
below_more key row (e ∷ es) below = ((let b = below.0 in omega arith), below_more key row es below.1)

insert_last : (key : ℕ) (row : List Cell) (es : List (ℕ × List Cell)) → AreBelow key es → insert_entry nat_cmp es key row ≡ es ++ (key, row) ∷ []
insert_last key row [] below = refl
insert_last key row (e ∷ es) below = ap (λ (o : Ordering). match_ordering o ((key, row) ∷ e ∷ es) ((e.0, row) ∷ es) (e ∷ insert_entry nat_cmp es key row)) (sym (nat_cmp_is key e.0 Greater below.0)) ∙ ap (λ more. e ∷ more) (insert_last key row es below.1)

-- a key that comes next
pub comes_below : (last key : ℕ) (found : List (ℕ × List Cell)) → AreUpTo last found → (found ≡ []) ⊎ (last < key) → AreBelow key found
comes_below last key found up next = ⊎_elim
    (λ (none : found ≡ []). subst (λ es. AreBelow key es) (sym none) tt)
    (λ (below : AreBelow (last + 1) found). ⊎_elim (λ (none : found ≡ []). subst (λ es. AreBelow key es) (sym none) tt) (λ (above : last < key). below_higher (last + 1) key found (omega arith) below) next)
    up

-- goes to the end
pub next_last : (key : ℕ) (row : List Cell) (found more : List (ℕ × List Cell)) → AreBelow key found → more ≡ found ++ (key, row) ∷ [] → (more ≡ entries_with (Some (key, row)) found) × AreUpTo key more
next_last key row found more below is = (is ∙ sym (insert_last key row found below), inr (subst (λ es. AreBelow (key + 1) es) (sym is) (below_more key row found below)))

-- all rows
pub collects_whole : (store : Store) (v : View) (seat : Sitting) (s n : ℕ) (found : List (ℕ × List Cell)) → n ≡ record_count v.limits → Collects store v seat s n found → found ≡ entries (table_seen (knows v s))
collects_whole store v seat s n found end collects = let c = collects.scans in let place = place_of v s c.possible c.host c.opened in let places = places_of v s c.possible c.host c.opened in
    collects.is place places ∙ (ap (λ (m : ℕ). entries (between place 0 m (table_seen (knows v s)))) end ∙ ap entries (all_rows v s c.possible c.host place places))

-- and of a later look
pub scan_later : (store : Store) (v : View) (a : Sitting) (s : ℕ) → Scans store v a s → table_seen (knows a.view s) ≡ table_seen (knows v s)
scan_later store v a s scans = same_table (knows v s) (knows a.view s) (scans_keep store v a s scans).alike
