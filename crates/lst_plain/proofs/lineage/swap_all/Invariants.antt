use Rattle.std.proofs.Common.{◌≡◌, ◌++◌, map, take, drop}
use Rattle.lst_plain.specs.Lineages.{swapped_holder}
use Rattle.lst_plain.proofs.lineage.swap_all.Given as goal

abbrev pub invariant-loop-session : goal.invariant-loop-session
invariant-loop-session l = l.holders ≡ map (swapped_holder l.spare) (take l.session l.fn.holders) ++ drop l.session l.fn.holders
