-- A script that is run phase by phase: how far it has come.
use Rattle.std.specs.Prelude.{◌≡◌, ℕ, ◌<◌, ◌≤◌, List, Option, false, length, slice_index_or, slice_range, take}
use Rattle.std.specs.List.{All, filter}
use Rattle.lst_model.specs.declared.lines.Line.{Line}
use Rattle.lst_model.specs.declared.lines.Line.TheVariants.{Phase}
use Rattle.lst_model.specs.declared.replies.Reply.{Reply}
use Rattle.lst_rule.specs.declared.store.Store.{Store}
use Rattle.lst_rule.specs.declared.view.View.{View}
use Rattle.lst_session.specs.declared.session.Session.{Session}
use Rattle.lst_session.specs.declared.passes.Merger.{Merger}
use Rattle.lst_session.specs.Parting.{IsMergerOf}
use Rattle.lst_replies.specs.Runs.{Answered, is_by, run_of}
use Rattle.lst_legal_runs.specs.declared.levels.Level.{Level}
use Rattle.lst_serial.specs.Keys.{has}
use Rattle.lst_work_laws.specs.Keeping.{Pass, CarriesOn}
use Rattle.lst_work_laws.specs.Laws.{own_run}
use Rattle.lst_work_laws.specs.Runs.{IsWithinPhase}
use Rattle.lst_work_laws.specs.Phases.{HaveRunThrough}
use Rattle.lst_work_laws.specs.Whole.{AreAll, IsPhase}
use Rattle.lst_work_laws.specs.Runs.{CanRun}
use Rattle.lst_work.specs.Reads.{pass_of}
use Rattle.lst_work.specs.declared.reads.Reads.{Reads}

-- no phase ends from the one place up to and without the other
abbrev pub AreWithin : List Line → ℕ → ℕ → Type 0
AreWithin lines start end = (i : ℕ) (d : Line) → start ≤ i → i < end → IsWithinPhase (slice_index_or lines i d)

-- a phase ends at this place
abbrev pub EndsAt : List Line → ℕ → Type 0
EndsAt lines place = (d : Line) → slice_index_or lines place d ≡ Phase

-- the session at a place, with what it keeps of its reads
abbrev pub pass_at : List Session → List Reads → ℕ → Session → Reads → Pass
pass_at sessions reads s d r = pass_of (slice_index_or sessions s d) (slice_index_or reads s r)

-- what each session kept along its own lines, at its level, it keeps along those of a run too
abbrev pub AllCarryOn : Level → (ℕ → List Answered) → List Session → List Session → List Reads → List Reads → Type 0
AllCarryOn level own old new reads more = (s : ℕ) (d : Session) (r : Reads) → s < length old → CarriesOn level s (own s) (pass_at old reads s d r) (pass_at new more s d r)

-- a phase of sessions at a level
pub record IsPhaseAt (level : Level) (lines : List Line) (old new : List Session) (reads more : List Reads) (m n : View) (replies : List (Option ℕ × Reply)) : Type 0 where
  pub phase : IsPhase lines old new m n replies
  pub carries : AllCarryOn level (λ s. own_run (length old) s lines replies) old new reads more

-- nothing was read
pub record IsUnread (reads : Reads) : Type 0 where
  pub keys : (key : ℕ) → has reads.keys key ≡ false
  pub all : reads.all ≡ false

abbrev pub AreUnread : List Reads → Type 0
AreUnread reads = All IsUnread reads

-- the phase from the place `start` up to its end, or to the end of the lines, was run
pub record IsPart (store : Store) (level : Level) (lines : List Line) (start end : ℕ) (old new : List Session) (reads more : List Reads) (m n : View) (replies : List (Option ℕ × Reply)) : Type 0 where
  pub up : start ≤ end
  pub most : end ≤ length lines
  pub can : All (CanRun store.layout.limits) (slice_range lines start end)
  pub all : AreAll store new
  pub phase : IsPhaseAt level (slice_range lines start end) old new reads more m n replies
  pub ends : end < length lines → EndsAt lines end

-- they have run through the lines before the place n, where a phase ends, or the lines, and are ready for the next phase
pub record AreThrough (store : Store) (level : Level) (lines : List Line) (old now : List Session) (reads more : List Reads) (m k : View) (replies : List (Option ℕ × Reply)) (n : ℕ) : Type 0 where
  pub all : AreAll store now
  pub count : length now ≡ length old
  pub most : n ≤ length lines
  pub through : HaveRunThrough store (take n lines) old now m k replies
  pub carries : AllCarryOn level (λ s. filter (is_by s) (run_of (take n lines) replies)) old now reads more
  pub long : length more ≡ length now
  pub ends : n < length lines → EndsAt lines n

-- and so is the merger
pub record AreBetween (store : Store) (level : Level) (lines : List Line) (old now : List Session) (reads more : List Reads) (before after : Merger) (replies : List (Option ℕ × Reply)) (n : ℕ) : Type 0 where
  pub through : AreThrough store level lines old now reads more before.seat.view after.seat.view replies n
  pub ready : IsMergerOf store after
