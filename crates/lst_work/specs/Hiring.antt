-- Workers made of sessions for a phase, and sessions and blocks of replies made of workers after it.
use Rattle.std.specs.Prelude.{◌≡◌, ℕ, ◌+◌, ◌<◌, List, [], ◌∷◌, ◌++◌, map, length, slice_index_or, false}
use Rattle.std.specs.List.{AllByRecursion}
use Rattle.lst_model.specs.declared.replies.Reply.{Reply}
use Rattle.lst_session.specs.declared.session.Session.{Session}
use Rattle.lst_legal_runs.specs.declared.levels.Level.{Level}
use Rattle.lst_work.specs.Blocks.{joined}
use Rattle.lst_work.specs.Orders.{queue_at}
use Rattle.lst_work.specs.Workers.{parts_of}
use Rattle.lst_work.specs.declared.reads.Reads.{Reads}
use Rattle.lst_work.specs.declared.workers.Worker.{Worker}

abbrev pub sessions_of : List Worker → List Session
sessions_of workers = map (λ worker. worker.session) workers

abbrev pub reads_of : List Worker → List Reads
reads_of workers = map (λ worker. worker.reads) workers

-- what each worker has said
abbrev pub replies_of : List Worker → List (List Reply)
replies_of workers = map (λ worker. joined (parts_of worker)) workers

-- What was said in a queue, block by block: by the session's worker, or to the merges in the last one. In no other queue was anything said.
abbrev pub said_in : List Worker → List (List Reply) → ℕ → List (List Reply)
said_in workers merges queue = slice_index_or (map parts_of workers ++ merges ∷ []) queue (map (λ part. []) merges)

-- each worker has a part for each of so many blocks, which may be empty
abbrev pub HaveSaid : List Worker → ℕ → Type 0
HaveSaid workers n = (i : ℕ) (d : Worker) → i < length workers → length (parts_of (slice_index_or workers i d)) ≡ n

-- The first part that each worker has said, and the first that was said to merges, stand in the queues of a block.
pub record AreFirst (old new : List Worker) (merges : List Reply) (queues : List (List Reply)) : Type 0 where
  pub count : length new ≡ length old
  pub sessions_are : sessions_of new ≡ sessions_of old
  pub reads_are : reads_of new ≡ reads_of old
  pub wide : length queues ≡ length old + 1
  pub own : (i : ℕ) (d : Worker) → i < length old → parts_of (slice_index_or old i d) ≡ queue_at queues i ∷ parts_of (slice_index_or new i d)
  pub last : queue_at queues (length old) ≡ merges

-- a worker at this level that has run nothing yet
pub record IsNew (level : Level) (worker : Worker) : Type 0 where
  pub level_is : worker.level ≡ level
  pub parts : worker.parts.items ≡ []
  pub failed : worker.has_failed ≡ false

-- one new worker at this level for each session, in order, with what it keeps of its reads
pub record AreHired (level : Level) (sessions : List Session) (reads : List Reads) (workers : List Worker) : Type 0 where
  pub sessions_are : sessions_of workers ≡ sessions
  pub reads_are : reads_of workers ≡ reads
  pub all_new : AllByRecursion (IsNew level) workers
