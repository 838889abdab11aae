use Rattle.std.proofs.Common.{◌≡◌, ℕ, take}
use Rattle.std.specs.Prelude.{◌==◌}
use Rattle.std.specs.List.{list_any}
use Rattle.lst_model.specs.declared.acts.Write.{Write}
use Rattle.lst_legal_runs.specs.Marks.{number_at}
use Rattle.lst_legal_runs.specs.Firsts.{first_after}
use Rattle.lst_legal_runs.proofs.firsts.mark_writes.Given as goal

abbrev pub invariant-loop-write : goal.invariant-loop-write
invariant-loop-write l = (key : ℕ) → number_at l.marks key 0 0 ≡ first_after (list_any (λ (write : Write). write.key == key) (take l.write-index l.writes)) (number_at l.fn.marks key 0 0) l.time
