-- Workers: each is one session with the replies to its lines.
use Rattle.std.specs.Prelude.{◌≡◌, ℕ, ◌<◌, List, ◌++◌, take, map, false, length, slice_index_or}
use Rattle.std.specs.List.{All}
use Rattle.lst_model.specs.declared.lines.Line.{Line}
use Rattle.lst_model.specs.declared.replies.Reply.{Reply}
use Rattle.lst_rule.specs.declared.store.Store.{Store}
use Rattle.lst_session.specs.Passes.{IsReady}
use Rattle.lst_work.specs.declared.workers.Worker.{Worker}
use Rattle.lst_work_laws.specs.Keeping.{CarriesOn}
use Rattle.lst_work_laws.specs.Laws.{answered_all}
use Rattle.lst_work_laws.specs.Runs.{lines_of, Runs}
use Rattle.lst_work.specs.Reads.{pass_of}
use Rattle.lst_work.specs.Blocks.{blocks_of, joined}

-- The worker has run its session's lines among these, and has put their replies behind those that it had. What its session kept along its own lines, at its
-- level, it keeps along these too.
pub record Ran (lines : List Line) (old new : Worker) : Type 0 where
  pub number : new.session.number ≡ old.session.number
  pub replies : List Reply
  pub grows : new.replies ≡ old.replies ++ replies
  pub runs : Runs old.session.number (lines_of old.session.number lines) replies old.session.seat.view new.session.seat.view
  pub level : new.level ≡ old.level
  pub carries : CarriesOn old.level old.session.number (answered_all (lines_of old.session.number lines) replies) (pass_of old.session old.reads) (pass_of new.session new.reads)
  pub parts : new.parts ≡ old.parts

-- what a worker has said, block by block
abbrev pub parts_of : Worker → List (List Reply)
parts_of worker = worker.parts.items

-- The worker has run its session's lines among these blocks, and has put the replies to each block's behind what it had said.
pub record RanBlocks (blocks : List (List Line)) (old new : Worker) : Type 0 where
  pub number : new.session.number ≡ old.session.number
  pub parts : List (List Reply)
  pub grows : parts_of new ≡ parts_of old ++ parts
  pub long : map length parts ≡ map (λ block. length (lines_of old.session.number block)) blocks
  pub runs : Runs old.session.number (lines_of old.session.number (joined blocks)) (joined parts) old.session.seat.view new.session.seat.view
  pub level : new.level ≡ old.level
  pub carries : CarriesOn old.level old.session.number (answered_all (lines_of old.session.number (joined blocks)) (joined parts)) (pass_of old.session old.reads) (pass_of new.session new.reads)

-- so it has, unless memory ran out, and its session is ready for the next phase
pub record HasWorked (store : Store) (lines : List Line) (old new : Worker) : Type 0 where
  pub ready : IsReady store new.session
  pub number : new.session.number ≡ old.session.number
  pub ran : new.has_failed ≡ false → RanBlocks (blocks_of lines) old new

-- among some lines: it has run the first n of them
pub record IsRunning (store : Store) (lines : List Line) (before now : Worker) (n : ℕ) : Type 0 where
  pub ready : IsReady store now.session
  pub number : now.session.number ≡ before.session.number
  pub ran : Ran (take n lines) before now

-- it has run all blocks but those of the rest of the lines
pub record IsRunningBlocks (store : Store) (lines rest : List Line) (before now : Worker) : Type 0 where
  pub ready : IsReady store now.session
  pub number : now.session.number ≡ before.session.number
  pub blocks : List (List Line)
  pub are : blocks ++ blocks_of rest ≡ blocks_of lines
  pub ran : RanBlocks blocks before now

abbrev pub AreReady : Store → List Worker → Type 0
AreReady store workers = All (λ worker. IsReady store worker.session) workers

-- each worker has worked, wherever it stands
abbrev pub AllHaveWorked : Store → List Line → List Worker → List Worker → Type 0
AllHaveWorked store lines old new = (i : ℕ) (d : Worker) → i < length old → HasWorked store lines (slice_index_or old i d) (slice_index_or new i d)

-- each has run its session's lines
abbrev pub HaveRun : List Line → List Worker → List Worker → Type 0
HaveRun lines old new = (i : ℕ) (d : Worker) → i < length old → RanBlocks (blocks_of lines) (slice_index_or old i d) (slice_index_or new i d)
