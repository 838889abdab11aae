-- A generated script on which all sessions of a new store have worked.
use Rattle.std.specs.Prelude.{◌≡◌, ℕ, ◌*◌, ◌<◌, ◌≤◌, List, [], ◌∷◌, ◌++◌, map, Option, Some}
use Rattle.lst_layout.specs.declared.limits.Limits.{Limits}
use Rattle.lst_layout.specs.declared.layout.Layout.{Layout}
use Rattle.lst_model.specs.declared.acts.Write.{Write}
use Rattle.lst_model.specs.declared.commits.Commit.{Commit}
use Rattle.lst_model.specs.declared.replies.Reply.{Reply}
use Rattle.lst_model.specs.declared.replies.Reply.TheVariants.{Begun, Ended, Sum, Count}
use Rattle.lst_model.specs.Tables.{count_of, sum_of}
use Rattle.lst_core_state.specs.State.{mine}
use Rattle.lst_rule.specs.declared.store.Store.{Store}
use Rattle.lst_rule.specs.Learned.{Possible}
use Rattle.lst_rule.specs.Rule.{knows}
use Rattle.lst_replies.specs.declared.reports.Report.{Report}
use Rattle.lst_script.specs.Generated.{range_count, generated}
use Rattle.lst_session.specs.declared.crew.Crew.{Crew}
use Rattle.lst_work_laws.specs.Worked.{IsWorked}
use Rattle.lst_work.specs.Totals.{table_told, IsWorkedTotal}
use Rattle.lst_work.specs.declared.loading.Loaded.{Loaded}
use Rattle.lst_work.specs.Scripted.{transactions_of}

-- the limits of a store for a generated script: one column, and as many ranges as hold the keys
abbrev pub load_limits : ℕ → ℕ → Limits
load_limits keys sessions = record { columns = 1; ranges = range_count keys; tails = 16384; sessions = sessions; txns = 16384; spare = 8; indexed = 0 }

abbrev pub writes_of_commit : Commit → List Write
writes_of_commit commit = commit.writes

-- the last replies tell these numbers: a transaction that counts the rows, and adds them up
pub record TellsTotals (replies : List (Option ℕ × Reply)) (rows total : ℕ) : Type 0 where
  pub front : List (Option ℕ × Reply)
  pub begin : ℕ
  pub is : replies ≡ front ++ (Some 0, Begun begin) ∷ (Some 0, Count rows) ∷ (Some 0, Sum total) ∷ (Some 0, Ended begin) ∷ []

-- The numbers are those of the last replies of the report: as many rows as there are keys, and 1,000 for each. So many rows, with that sum, has the table
-- that the commits of the crew's store make. The commits of each session are its transactions with writes in the script, in order, with those writes.
pub record HoldsLoad (seed keys sessions : ℕ) (report : Report) (loaded : Loaded) (crew : Crew) : Type 0 where
  pub told : TellsTotals report.replies loaded.rows loaded.total
  pub rows : loaded.rows ≡ keys
  pub total : loaded.total ≡ 1000 * keys
  pub counted : loaded.rows ≡ count_of (table_told crew.seat.view)
  pub added : loaded.total ≡ sum_of (table_told crew.seat.view) 0
  pub commits : (s : ℕ) → s < sessions → map writes_of_commit (mine s (knows crew.seat.view s)) ≡ transactions_of s (generated keys sessions seed)

-- The sessions of this store have worked on the script that the seed generates, and have then added up its column, side by side: the total is that sum.
-- They are gathered in this crew, which holds the load.
pub record IsLoaded (seed keys sessions : ℕ) (loaded : Loaded) (store : Store) (crew : Crew) : Type 0 where
  pub layout : Layout
  pub report : Report
  pub limits : layout.limits ≡ load_limits keys sessions
  pub worked : IsWorkedTotal layout (generated keys sessions seed) 0 report (Some loaded.total) store crew
  pub holds : HoldsLoad seed keys sessions report loaded crew

-- Where they have worked on it, it is loaded: whatever the schedule
abbrev pub GeneratedIsLoaded : Type 0
GeneratedIsLoaded = (seed keys sessions : ℕ) (layout : Layout) (report : Report) (store : Store) (crew : Crew)
    → 0 < keys → keys ≤ 4096 → 0 < sessions → layout.limits ≡ load_limits keys sessions
    → IsWorked layout (generated keys sessions seed) report store crew → Possible crew.seat.view
    → (loaded : Loaded) × HoldsLoad seed keys sessions report loaded crew

-- Where they have worked on it and a column was to be added up behind it, there is a sum
abbrev pub GeneratedHasTotal : Type 0
GeneratedHasTotal = (seed keys sessions : ℕ) (layout : Layout) (column : ℕ) (report : Report) (total : Option ℕ) (store : Store) (crew : Crew)
    → 0 < keys → keys ≤ 4096 → 0 < sessions → layout.limits ≡ load_limits keys sessions
    → IsWorkedTotal layout (generated keys sessions seed) column report total store crew → (sum : ℕ) × (total ≡ Some sum)
