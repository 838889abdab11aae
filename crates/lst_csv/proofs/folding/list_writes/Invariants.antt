use Rattle.lst_csv.proofs.Listed.{ListsWrites}
use Rattle.lst_csv.proofs.folding.list_writes.Given as goal

abbrev pub invariant-loop-write : goal.invariant-loop-write
invariant-loop-write l = ListsWrites l.writes l.initial.rows l.floor l.write-index l.rows l.next
