use Rattle.std.proofs.Common.{◌≡◌}
use Rattle.std.specs.Prelude.{None}
use Rattle.lst_machine.specs.Merges.{lowest_where}
use Rattle.lst_plain.specs.Lineages.{holder_of, is_behind}
use Rattle.lst_plain.proofs.lineage.Lineage.holder.Given as goal

abbrev pub invariant-loop-session : goal.invariant-loop-session
invariant-loop-session l = lowest_where (λ session. is_behind l.spare (holder_of l.self.holders.items session)) l.session ≡ None
