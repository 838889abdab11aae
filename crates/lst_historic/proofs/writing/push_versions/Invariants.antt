use Rattle.std.proofs.Common.{◌≡◌, ◌++◌, drop}
use Rattle.std.specs.Prelude.{None}
use Rattle.lst_historic.specs.Blocks.{versions_text}
use Rattle.lst_historic.specs.Moves.{moves, made_of}
use Rattle.lst_historic.specs.Decoding.{shown}
use Rattle.lst_historic.proofs.Written.{IsOnVersion}
use Rattle.lst_historic.proofs.writing.push_versions.Given as goal

abbrev pub invariant-loop-place : goal.invariant-loop-place
invariant-loop-place l =
    IsOnVersion l.columns l.base.items l.at (made_of (shown l.is_some l.row.items) (drop l.place (moves l.steps))) (made_of None (moves l.steps)) l.out.items (l.fn.out.items ++ versions_text l.columns 0 None (made_of None (moves l.steps)))
