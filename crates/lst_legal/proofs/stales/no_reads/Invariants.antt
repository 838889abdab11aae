use Rattle.std.proofs.Common.{◌≡◌, [], List, length}
use Rattle.std.specs.List.{All}
use Rattle.lst_model.specs.declared.commits.Commit.{Commit}
use Rattle.lst_legal.specs.Serials.{AreReadsOf}
use Rattle.lst_legal.proofs.stales.no_reads.Given as goal

abbrev pub invariant-loop : goal.invariant-loop
invariant-loop l = (length l.reads.items ≡ l.counter) × All (λ r. (history : List Commit) → AreReadsOf history r []) l.reads.items
