-- The places of a run: each line with its reply, and an outline of the state in which its session comes to it.
use Rattle.std.specs.Prelude.{◌≡◌, ℕ, ◌<◌, List, ◌∷◌, ◌++◌, map, length, slice_index_or, Option, Some, None, IfSome}
use Rattle.std.specs.List.{All}
use Rattle.lst_model.specs.declared.lines.Line.{Line}
use Rattle.lst_model.specs.declared.lines.Line.TheVariants.{Phase, Merge, Call}
use Rattle.lst_model.specs.declared.lines.Call.{Call as CallKind}
use Rattle.lst_model.specs.declared.replies.Reply.{Reply}
use Rattle.lst_replies.specs.Runs.{Answered, speaker_of}
use Rattle.lst_replies.specs.Seen.{seen}
use Rattle.lst_replies.specs.States.{state_of, unbegun}
use Rattle.lst_legal_runs.specs.declared.outlines.StateOutline.{StateOutline}
use Rattle.lst_legal_runs.specs.declared.places.Place.{Place}
use Rattle.lst_legal_runs.specs.Outlines.{outline_of}

-- ---- each place of a run

-- P holds at each line of a run: of what stands before it, and of it
abbrev pub AtEach : (List Answered → Answered → Type 0) → List Answered → Type 0
AtEach P run = (before : List Answered) (one : Answered) (after : List Answered) → run ≡ before ++ one ∷ after → P before one

-- P of a line that is a call; of others, nothing
abbrev pub IfCall : (ℕ → CallKind → Reply → Type 0) → Line → Reply → Type 0
IfCall P Phase reply = Unit {0}
IfCall P (Merge range column) reply = Unit {0}
IfCall P (Call session call) reply = P session call reply

-- P of a line that is a merge; of others, nothing
abbrev pub IfMerge : (ℕ → ℕ → Reply → Type 0) → Line → Reply → Type 0
IfMerge P Phase reply = Unit {0}
IfMerge P (Merge range column) reply = P range column reply
IfMerge P (Call session call) reply = Unit {0}

-- ---- sessions

-- each session that calls is one of so many
abbrev pub AreWithin : ℕ → List Answered → Type 0
AreWithin sessions run = All (λ one. IfSome (speaker_of one.line) (λ session. session < sessions)) run

-- the outline of a session's state behind the front of a run
abbrev pub outline_at : List Answered → Option ℕ → StateOutline
outline_at before None = outline_of unbegun
outline_at before (Some session) = outline_of (state_of session before)

-- by number: the outlines of the sessions' states behind the front of a run
abbrev pub AreOutlines : List StateOutline → List Answered → Type 0
AreOutlines outlines front = (session : ℕ) (none : StateOutline) → session < length outlines → slice_index_or outlines session none ≡ outline_of (state_of session front)

-- ---- places

abbrev pub seen_at : Place → Answered
seen_at place = seen place.answer

abbrev pub run_at : List Place → List Answered
run_at places = map seen_at places

-- each place has the outline of its session's state there
pub record AreTraced (places : List Place) : Type 0 where
  pub each : (before : List Place) (place : Place) (after : List Place) → places ≡ before ++ place ∷ after → place.outline ≡ outline_at (run_at before) (speaker_of (seen_at place).line)
