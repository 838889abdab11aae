-- Rows put by rising key are those of the table.
use Rattle.std.proofs.Common.{◌≡◌, ℕ, ◌+◌, ◌<◌, ◌≤◌, List, [], ◌∷◌, ◌++◌, drop, length, get_or, refl, sym, ap, subst, ◌∙◌, arith}
use Rattle.std.specs.List.{AllByRecursion}
use Rattle.std.specs.Ordering.{nat_cmp}
use Rattle.std.specs.declared.cmp.Ordering.{Ordering}
use Rattle.std.specs.declared.cmp.Ordering.TheVariants.{Greater}
use Rattle.std.specs.Cmp.{nat_cmp_total, nat_cmp_is}
use Rattle.std.specs.FinMap.{entries-insert, len-empty, len-entries}
use Rattle.std.specs.FinMap.Entries.{by_order, put}
use Rattle.std.proofs.lemmas.List.{drop_all, nil_from_length}
use Rattle.lst_model.specs.Cells.{Cell}
use Rattle.lst_model.specs.declared.acts.Act.{Act}
use Rattle.lst_model.specs.declared.acts.Act.TheVariants.{Put}
use Rattle.lst_model.specs.declared.acts.Write.{Write}
use Rattle.lst_model.specs.declared.commits.Commit.{Commit}
use Rattle.lst_model.specs.Histories.{replayed}
use Rattle.lst_model.specs.Tables.{Rows, applied, applied_at, all_applied, scan_of, no_rows}
use Rattle.lst_csv.specs.Writing.{IsListed}
use Rattle.lst_csv.proofs.Lists.{left}

abbrev AreBelow : ℕ → List (ℕ × List Cell) → Type 0
AreBelow floor rows = AllByRecursion (λ (row : ℕ × List Cell). row.0 < floor) rows

below_higher : (low high : ℕ) (rows : List (ℕ × List Cell)) → low ≤ high → AreBelow low rows → AreBelow high rows
below_higher low high [] rises below = tt
below_higher low high (row ∷ rows) rises below = ((let b = below.0 in omega (arith, b, rises)), below_higher low high rows rises below.1)

below_more : (key : ℕ) (row : List Cell) (rows : List (ℕ × List Cell)) → AreBelow key rows → AreBelow (key + 1) (rows ++ (key, row) ∷ [])
below_more key row [] below = ((omega arith), tt)
below_more key row (e ∷ rows) below = ((let b = below.0 in omega (arith, b)), below_more key row rows below.1)

put_last : (key : ℕ) (row : List Cell) (es : List (ℕ × List Cell)) → AreBelow key es → put nat_cmp key row es ≡ es ++ (key, row) ∷ []
put_last key row [] below = refl
put_last key row (e ∷ es) below =
    ap (λ (o : Ordering). by_order o ((key, row) ∷ e ∷ es) ((e.0, row) ∷ es) (e ∷ put nat_cmp key row es)) (sym (nat_cmp_is key e.0 Greater below.0)) ∙ ap (λ more. e ∷ more) (put_last key row es below.1)

-- one row more, whose key isn't below the floor
one_more : (floor : ℕ) (write : Write) (row : List Cell) (rows more : List (ℕ × List Cell)) (table : Rows) → floor ≤ write.key → write.act ≡ Put row → more ≡ rows ++ (write.key, row) ∷ [] → IsListed floor rows table → IsListed (write.key + 1) more (applied table write)
one_more floor write row rows more table high act is listed =
    let (below, entries_are) = listed in
    let under : AreBelow write.key rows = below_higher floor write.key rows high below in (
      subst (λ (listed_rows : List (ℕ × List Cell)). AreBelow (write.key + 1) listed_rows) (sym is) (below_more write.key row rows under),
      ap (λ (act : Act). scan_of (applied_at table write.key act)) act ∙ (entries-insert nat_cmp_total table write.key row ∙ ap (put nat_cmp write.key row) entries_are ∙ put_last write.key row rows under ∙ sym is),
    )

-- ---- so many writes of a list

abbrev pub ListsWrites : List Write → List (ℕ × List Cell) → ℕ → ℕ → List (ℕ × List Cell) → ℕ → Type 0
ListsWrites writes before floor i rows next = (table : Rows) → IsListed floor before table → (now : Rows) × IsListed next rows now × (all_applied now (drop i writes) ≡ all_applied table writes)

pub no_write : (writes : List Write) (rows : List (ℕ × List Cell)) (floor : ℕ) → ListsWrites writes rows floor 0 rows floor
no_write writes rows floor table listed = (table, listed, refl)

pub one_more_write : (writes : List Write) (before rows more : List (ℕ × List Cell)) (floor next i : ℕ) (write : Write) (row : List Cell) → i < length writes → write ≡ get_or writes i write → next ≤ write.key → write.act ≡ Put row → more ≡ rows ++ (write.key, row) ∷ []
    → ListsWrites writes before floor i rows next → ListsWrites writes before floor (i + 1) more (write.key + 1)
one_more_write writes before rows more floor next i write row low at high act is so_far table listed =
    let (now, there, same) = so_far table listed in
    (applied now write, one_more next write row rows more now high act is there, ap (all_applied now) (sym (left writes i write low at)) ∙ same)

pub all_writes : (writes : List Write) (before rows : List (ℕ × List Cell)) (floor next i : ℕ) → length writes ≤ i → ListsWrites writes before floor i rows next → (table : Rows) → IsListed floor before table → IsListed next rows (all_applied table writes)
all_writes writes before rows floor next i ended so_far table listed =
    let (now, there, same) = so_far table listed in
    subst (IsListed next rows) (sym (ap (all_applied now) (drop_all i writes ended)) ∙ same) there

-- ---- and of commits

abbrev pub ListsCommits : List Commit → ℕ → List (ℕ × List Cell) → ℕ → Type 0
ListsCommits commits i rows floor = (now : Rows) × IsListed floor rows now × (replayed now (drop i commits) ≡ replayed no_rows commits)

none_listed : scan_of no_rows ≡ []
none_listed = nil_from_length (scan_of no_rows) (sym (len-entries no_rows) ∙ len-empty nat_cmp (List Cell))

pub no_commit : (commits : List Commit) (rows : List (ℕ × List Cell)) → rows ≡ [] → ListsCommits commits 0 rows 0
no_commit commits rows none = (no_rows, subst (λ (listed : List (ℕ × List Cell)). IsListed 0 listed no_rows) (sym none) (tt, none_listed), refl)

pub one_more_commit : (commits : List Commit) (rows more : List (ℕ × List Cell)) (floor next i : ℕ) (commit : Commit) (writes : List Write) → i < length commits → commit ≡ get_or commits i commit → writes ≡ commit.writes
    → ((table : Rows) → IsListed floor rows table → IsListed next more (all_applied table writes)) → ListsCommits commits i rows floor → ListsCommits commits (i + 1) more next
one_more_commit commits rows more floor next i commit writes low at are lists so_far =
    let (now, there, same) = so_far in
    (all_applied now writes, lists now there, ap (λ (ws : List Write). replayed (all_applied now ws) (drop (i + 1) commits)) are ∙ (ap (replayed now) (sym (left commits i commit low at)) ∙ same))

pub all_commits : (commits : List Commit) (rows : List (ℕ × List Cell)) (floor i : ℕ) → length commits ≤ i → ListsCommits commits i rows floor → rows ≡ scan_of (replayed no_rows commits)
all_commits commits rows floor i ended so_far =
    let (now, there, same) = so_far in
    sym there.1 ∙ ap scan_of (sym (ap (replayed now) (drop_all i commits ended)) ∙ same)
