use Rattle.std.proofs.Common.{◌≡◌, ◌≤◌, ◌-◌, ◌++◌, List, length, drop}
use Rattle.std.specs.List.{AllByRecursion}
use Rattle.lst_model.specs.declared.commits.Commit.{Commit}
use Rattle.lst_log.specs.Format.{journal, HasRecord}
use Rattle.lst_log.specs.Stores.{OnlyReads}
use Rattle.lst_snapshots.specs.Replays.{numbered_from, IsRecovered}
use Rattle.lst_log.proofs.opening.scan.Given as goal

abbrev pub invariant-loop-at : goal.invariant-loop-at
invariant-loop-at g l = record {
  commits : List Commit;
  whole : g.D.Disk.content l.fn.disk ≡ journal l.columns commits ++ drop l.at (g.D.Disk.content l.fn.disk);
  place : l.at ≡ length (journal l.columns commits);
  each : AllByRecursion (HasRecord l.columns) commits;
  recovered : IsRecovered commits;
  same : l.snapshots ≡ numbered_from 1 commits;
  within : l.at ≤ length (g.D.Disk.content l.fn.disk);
  reads : OnlyReads g.D.Disk.content g.D.Disk.images g.D.Disk.clock g.D.Disk.images_since g.D.Disk.calls_left g.D.Disk.outcome g.D.Disk.faults l.fn.disk l.disk ⊥;
}

abbrev pub decreases-loop-at : goal.decreases-loop-at
decreases-loop-at g l = length (g.D.Disk.content l.fn.disk) - l.at
