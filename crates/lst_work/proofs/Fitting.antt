-- The lines of a generated script fit a store with its limits.
use Rattle.std.proofs.Common.{◌≡◌, ℕ, ◌<◌, List, sym, subst}
use Rattle.std.specs.Prelude.{All}
use Rattle.lst_layout.specs.declared.limits.Limits.{Limits}
use Rattle.lst_model.specs.declared.lines.Line.{Line}
use Rattle.lst_model.specs.Lines.{LineFits}
use Rattle.lst_script.specs.Generated.{generated}
use Rattle.lst_script.proofs.Counting.{counted}
use Rattle.lst_work.specs.Loaded.{load_limits}

pub lines_fit : (seed keys sessions : ℕ) (limits : Limits) (script : List Line) → 0 < keys → 0 < sessions → limits ≡ load_limits keys sessions → script ≡ generated keys sessions seed
    → All (LineFits limits.sessions limits.ranges limits.columns) script
lines_fit seed keys sessions limits script some hosts same is =
    subst (λ (l : Limits). All (LineFits l.sessions l.ranges l.columns) script) (sym same)
    (subst (All (LineFits sessions (load_limits keys sessions).ranges 1)) (sym is) (counted keys sessions hosts seed some).fits)
