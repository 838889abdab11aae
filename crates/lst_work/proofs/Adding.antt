-- What was loaded, once the column was added up behind the script.
use Rattle.std.proofs.Common.{◌≡◌, ℕ, ◌<◌, ◌≤◌, List, length, map, Option, Some, sym, ap, subst, ◌∙◌}
use Rattle.std.specs.Prelude.{MatchOption}
use Rattle.lst_layout.specs.declared.limits.Limits.{Limits}
use Rattle.lst_layout.specs.declared.layout.Layout.{Layout}
use Rattle.lst_model.specs.declared.commits.Commit.{Commit}
use Rattle.lst_model.specs.declared.lines.Line.{Line}
use Rattle.lst_model.specs.Histories.{table_at}
use Rattle.lst_model.specs.Tables.{count_of, sum_of}
use Rattle.lst_rule.specs.declared.store.Store.{Store}
use Rattle.lst_replies.specs.declared.reports.Report.{Report}
use Rattle.lst_session.specs.declared.crew.Crew.{Crew}
use Rattle.lst_script.specs.Generated.{generated}
use Rattle.lst_work.specs.Totals.{HaveReadOnce, HasNoTotal, IsTotal, IsWorkedTotal}
use Rattle.lst_work.specs.declared.loading.Loaded.{Loaded}
use Rattle.lst_work.specs.Loaded.{load_limits, writes_of_commit, TellsTotals, HoldsLoad, IsLoaded}
use Rattle.lst_work.proofs.Assembling.{some_totals, held_as, generated_script_has_total}

module _ (seed keys n : ℕ) (layout : Layout) (report : Report) (total : Option ℕ) (store : Store) (crew : Crew) (some : 0 < keys) (few : keys ≤ 4096) (hosts_some : 0 < n) (limits : layout.limits ≡ load_limits keys n)
    (worked : IsWorkedTotal layout (generated keys n seed) 0 report total store crew) where
  abbrev lines : List Line
  lines = generated keys n seed

  -- the replies tell two numbers
  pub numbers_told : (rows : ℕ) × (total : ℕ) × TellsTotals report.replies rows total
  numbers_told = some_totals seed keys n layout report store worked.before some few hosts_some limits worked.worked worked.possible

  -- and there is a sum
  pub sum_there : (sum : ℕ) × (total ≡ Some sum)
  sum_there = generated_script_has_total seed keys n layout 0 report total store crew some few hosts_some limits worked

  summed : (sum : ℕ) → total ≡ Some sum → IsTotal layout lines report store 0 worked.before sum crew
  summed sum is = subst (λ (o : Option ℕ). MatchOption o (HasNoTotal layout lines report worked.before crew) (λ added. IsTotal layout lines report store 0 worked.before added crew)) is worked.total_is

  in_before : (s : ℕ) → s < n → s < worked.before.seat.view.limits.sessions
  in_before s low = subst (λ (l : Limits). s < l.sessions) (sym (worked.worked.crew_of.seat_of.limits ∙ (ap (λ (x : Layout). x.limits) worked.worked.opened ∙ limits))) low

  -- what the crew held before the sum, it holds still
  still_held : (x : Loaded) → HaveReadOnce worked.before.seat.view crew.seat.view → HoldsLoad seed keys n report x worked.before → HoldsLoad seed keys n report x crew
  still_held x read held = record {
    told = held.told;
    rows = held.rows;
    total = held.total;
    counted = held.counted ∙ ap (λ (cs : List Commit). count_of (table_at cs (length cs))) (sym read.history);
    added = held.added ∙ ap (λ (cs : List Commit). sum_of (table_at cs (length cs)) 0) (sym read.history);
    commits = λ s low. ap (map writes_of_commit) (read.sessions s (in_before s low)).mine ∙ held.commits s low;
  }

  -- it is the number of rows that the replies tell, and the sum
  pub loaded_as : (x : Loaded) → ((told : ℕ) × TellsTotals report.replies x.rows told) → total ≡ Some x.total → IsLoaded seed keys n x store crew
  loaded_as x told is =
      let added = summed x.total is in
      let reported : Loaded = record { rows = x.rows; total = told.0 } in
      let held = still_held reported added.summed.read (held_as seed keys n layout report store worked.before some few hosts_some limits worked.worked worked.possible reported told.1) in
      let same : told.0 ≡ x.total = held.added ∙ sym added.summed.sum_is in
      record {
        layout = layout;
        report = report;
        limits = limits;
        worked = subst (λ (o : Option ℕ). IsWorkedTotal layout lines 0 report o store crew) is worked;
        holds = record {
          told = subst (TellsTotals report.replies x.rows) same told.1;
          rows = held.rows;
          total = sym same ∙ held.total;
          counted = held.counted;
          added = added.summed.sum_is;
          commits = held.commits;
        };
      }
