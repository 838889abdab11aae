-- The phases of a script, one after another.
use Rattle.std.specs.Prelude.{◌≡◌, ℕ, ◌<◌, List, Option, [], ◌∷◌, ◌++◌, length, slice_index_or}
use Rattle.std.specs.List.{AllByRecursion}
use Rattle.lst_model.specs.declared.lines.Line.{Line}
use Rattle.lst_model.specs.declared.lines.Line.TheVariants.{Phase}
use Rattle.lst_model.specs.declared.replies.Reply.{Reply}
use Rattle.lst_model.specs.Histories.{Extends}
use Rattle.lst_core_state.specs.declared.facts.Find.{Find}
use Rattle.lst_rule.specs.declared.store.Store.{Store}
use Rattle.lst_rule.specs.declared.view.View.{View}
use Rattle.lst_rule.specs.Copies.{Includes}
use Rattle.lst_session.specs.declared.session.Session.{Session}
use Rattle.lst_session.specs.Calls.{SameWork, SameLists}
use Rattle.lst_session.specs.Parting.{known_by, IsAlone}
use Rattle.lst_work_laws.specs.Whole.{AreAll, IsPhase}
use Rattle.lst_work_laws.specs.Runs.{CanRun}

-- The session may have seen more, learnt facts and made finds. Its transaction, lists and pins are as they were, and its seat hosts whom it hosted.
pub record Hears (old new : Session) : Type 0 where
  pub number : new.number ≡ old.number
  pub hosted : new.seat.view.hosts ≡ old.seat.view.hosts
  pub same : SameWork old.number (known_by old) (known_by new)
  pub lists : SameLists (known_by old) (known_by new)
  pub pins : (known_by new).pages.pins ≡ (known_by old).pages.pins
  pub seen : Extends (known_by new).seen (known_by old).seen
  pub facts : Includes (known_by new).facts (known_by old).facts
  pub finds : (more : List Find) × ((known_by new).finds ≡ (known_by old).finds ++ more)

-- each session has seen all that any of them had seen, and has the facts of each whose seat hosted it alone
pub record HaveHeard (old new : List Session) : Type 0 where
  pub count : length new ≡ length old
  pub hears : (i : ℕ) (d : Session) → i < length old → Hears (slice_index_or old i d) (slice_index_or new i d)
  pub all : (i j : ℕ) (d e : Session) → i < length old → j < length old → Extends (known_by (slice_index_or new i d)).seen (known_by (slice_index_or old j e)).seen
  pub facts : (i j : ℕ) (d e : Session) → i < length old → j < length old → IsAlone (slice_index_or old j e) → Includes (known_by (slice_index_or new i d)).facts (known_by (slice_index_or old j e)).facts

-- The sessions have run a phase, and then each later one, and between any two of them every session heard of what the others had seen; the merger,
-- which had the view m and has n, has made the merges beside them. These are the replies, phase after phase.
abbrev pub RunThrough : Store → List Line → List (List Line) → List Session → List Session → View → View → List (Option ℕ × Reply) → Type 0
RunThrough store phase [] old new m n replies = IsPhase phase old new m n replies
RunThrough store phase (next ∷ later) old new m n replies = (ran heard : List Session) × (between : View) × ((first rest : List (Option ℕ × Reply)) × (replies ≡ first ++ rest)
    × IsPhase phase old ran m between first × AreAll store ran × HaveHeard ran heard × AreAll store heard × RunThrough store next later heard new between n rest)

-- the lines of a script: the first phase and each later one, with the end of a phase between any two
abbrev pub script_of : List Line → List (List Line) → List Line
script_of phase [] = phase
script_of phase (next ∷ later) = phase ++ Phase ∷ script_of next later

-- They have run through these lines, phase after phase.
pub record HaveRunThrough (store : Store) (lines : List Line) (old new : List Session) (m n : View) (replies : List (Option ℕ × Reply)) : Type 0 where
  pub first : List Line
  pub later : List (List Line)
  pub parted : lines ≡ script_of first later
  -- no phase ends within one
  pub can : AllByRecursion (CanRun store.layout.limits) first
  pub cans : AllByRecursion (λ phase. AllByRecursion (CanRun store.layout.limits) phase) later
  pub run : RunThrough store first later old new m n replies
