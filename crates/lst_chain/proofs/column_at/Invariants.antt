-- The versions passed so far leave the column as the rest of the chain has it.
use Rattle.std.proofs.Common.{◌≡◌, drop}
use Rattle.lst_chain.specs.Chain.{column_value}
use Rattle.lst_chain.proofs.column_at.Given as goal

abbrev pub invariant-loop-version : goal.invariant-loop-version
invariant-loop-version g l = column_value g.V.Version.status g.V.Version.explicit l.begin l.column l.chain ≡ column_value g.V.Version.status g.V.Version.explicit l.begin l.column (drop l.version-index l.chain)
