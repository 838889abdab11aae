-- A phase of all sessions, from the sessions before it to those after it.
use Rattle.std.specs.Prelude.{◌≡◌, ℕ, ◌<◌, List, Option, map, length, slice_index_or}
use Rattle.lst_model.specs.declared.lines.Line.{Line}
use Rattle.lst_model.specs.declared.replies.Reply.{Reply}
use Rattle.lst_replies.specs.Runs.{speaker_of}
use Rattle.lst_rule.specs.declared.store.Store.{Store}
use Rattle.lst_rule.specs.declared.view.View.{View}
use Rattle.lst_session.specs.declared.session.Session.{Session}
use Rattle.lst_session.specs.Passes.{IsReady}
use Rattle.lst_work_laws.specs.Merges.{merges_of, Merging}
use Rattle.lst_work_laws.specs.Runs.{lines_of, Runs}
use Rattle.lst_work_laws.specs.Orders.{replies_from}

-- every session of the store, in order, and each is ready
pub record AreAll (store : Store) (sessions : List Session) : Type 0 where
  pub count : length sessions ≡ store.layout.limits.sessions
  pub number : (s : ℕ) (d : Session) → s < length sessions → (slice_index_or sessions s d).number ≡ s
  pub ready : (s : ℕ) (d : Session) → s < length sessions → IsReady store (slice_index_or sessions s d)

-- One reply for each line, in order, each with its line's session; each session has run its lines, and these are its replies; and the merger, which
-- had the view m and has n, has made the merges, and these are its replies.
pub record IsPhase (lines : List Line) (old new : List Session) (m n : View) (replies : List (Option ℕ × Reply)) : Type 0 where
  pub speakers : map (λ reply. reply.0) replies ≡ map speaker_of lines
  pub runs : (s : ℕ) (d : Session) → s < length old → Runs s (lines_of s lines) (replies_from (length old) s replies) (slice_index_or old s d).seat.view (slice_index_or new s d).seat.view
  pub merging : Merging (merges_of lines) (replies_from (length old) (length old) replies) m n
