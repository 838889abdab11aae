-- The lines of a session, run in order.
use Rattle.std.specs.Prelude.{◌≡◌, ℕ, List, [], ◌∷◌}
use Rattle.std.specs.List.{filter}
use Rattle.lst_layout.specs.declared.limits.Limits.{Limits}
use Rattle.lst_model.specs.declared.lines.Line.{Line}
use Rattle.lst_model.specs.declared.lines.Line.TheVariants.{Phase, Call}
use Rattle.lst_model.specs.declared.replies.Reply.{Reply}
use Rattle.lst_model.specs.Lines.{LineFits}
use Rattle.lst_rule.specs.declared.view.View.{View}
use Rattle.lst_replies.specs.Runs.{names, speaker_of}
use Rattle.lst_work_laws.specs.Lines.{AfterLine}

-- the session's lines among these, in order
abbrev pub lines_of : ℕ → List Line → List Line
lines_of s lines = filter (λ line. names s (speaker_of line)) lines

-- The session s, with the view v before and w after, has run these lines one after the other, and these are the replies.
abbrev pub Runs : ℕ → List Line → List Reply → View → View → Type 0
Runs s [] [] v w = w ≡ v
Runs s (Call t call ∷ lines) (reply ∷ replies) v w = (t ≡ s) × ((u : View) × AfterLine s call reply v u × Runs s lines replies u w)
Runs s lines replies v w = ⊥

-- a line of a phase: any but the end of one
abbrev pub IsWithinPhase : Line → Type 0
IsWithinPhase Phase = ⊥
IsWithinPhase line = Unit {0}

-- a line that the store has place for, and that ends no phase
pub record CanRun (limits : Limits) (line : Line) : Type 0 where
  pub fits : LineFits limits.sessions limits.ranges limits.columns line
  pub within : IsWithinPhase line
