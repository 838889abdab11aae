-- A list of commits that is run again on the machine: the lines of each, by its own session, and the commits that the machine then has.
use Rattle.std.specs.Prelude.{ℕ, ◌+◌, List, [], ◌∷◌, ◌++◌, cond, length, ◌==◌}
use Rattle.lst_layout.specs.declared.limits.Limits.{Limits}
use Rattle.lst_model.specs.declared.acts.Act.{Act}
use Rattle.lst_model.specs.declared.acts.Act.TheVariants.{Put, Set, Del}
use Rattle.lst_model.specs.declared.acts.Write.{Write}
use Rattle.lst_model.specs.declared.commits.Commit.{Commit}
use Rattle.lst_model.specs.declared.lines.Call.{Call}
use Rattle.lst_model.specs.declared.lines.Call.TheVariants.{Begin, Insert, Update, Delete, Commit as CommitCall}
use Rattle.lst_machine.specs.State.{Store}
use Rattle.lst_machine.specs.Writes.{with_key}
use Rattle.lst_machine.specs.Calls.{store_after}

-- the call that makes a write
abbrev pub call_at : ℕ → Act → Call
call_at key (Put row) = Insert key row
call_at key (Set patch) = Update key patch
call_at key Del = Delete key

abbrev pub call_of : Write → Call
call_of write = call_at write.key write.act

-- the store part once a session has made these writes
abbrev pub after_writes : Limits → Store → ℕ → List Write → Store
after_writes limits store session [] = store
after_writes limits store session (write ∷ writes) = after_writes limits (store_after limits store session (call_of write)) session writes

-- once a session has begun a transaction and made these writes
abbrev pub after_begun : Limits → Store → ℕ → List Write → Store
after_begun limits store session writes = after_writes limits (store_after limits store session Begin) session writes

-- once a commit's own session has begun, made its writes and committed them
abbrev pub after_again : Limits → Store → Commit → Store
after_again limits store c = store_after limits (after_begun limits store c.session c.writes) c.session CommitCall

-- once all commits were run again, in order
abbrev pub after_all_again : Limits → Store → List Commit → Store
after_all_again limits store [] = store
after_all_again limits store (c ∷ commits) = after_all_again limits (after_again limits store c) commits

-- how many of the commits are a session's
abbrev pub commits_by : ℕ → List Commit → ℕ
commits_by session [] = 0
commits_by session (c ∷ commits) = cond (c.session == session) 1 0 + commits_by session commits

-- a commit as it is run again behind others: with its session and its writes, the session's next number, and their count as its begin
abbrev pub again : List Commit → Commit → Commit
again front c = record { session = c.session; number = commits_by c.session front + 1; begin = length front; writes = c.writes }

abbrev pub again_behind : List Commit → List Commit → List Commit
again_behind front [] = []
again_behind front (c ∷ commits) = again front c ∷ again_behind (front ++ c ∷ []) commits

-- the commits of a new store in which these were run again: the same sessions and writes at the same times, numbers from 1 for each session, and
-- each begun at the commit before it
abbrev pub all_again : List Commit → List Commit
all_again commits = again_behind [] commits

-- the keys of writes that are placed behind others, each once
abbrev pub placed_by : List ℕ → List Write → List ℕ
placed_by placed [] = placed
placed_by placed (write ∷ writes) = placed_by (with_key placed write.key) writes

abbrev pub placed_by_all : List ℕ → List Commit → List ℕ
placed_by_all placed [] = placed
placed_by_all placed (c ∷ commits) = placed_by_all (placed_by placed c.writes) commits

-- the keys that commits write, each once, in the order of their first writes
abbrev pub keys_written : List Commit → List ℕ
keys_written commits = placed_by_all [] commits

-- how many writes commits have
abbrev pub writes_in : List Commit → ℕ
writes_in [] = 0
writes_in (c ∷ commits) = length c.writes + writes_in commits
