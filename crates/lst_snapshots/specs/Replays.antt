-- A history that is replayed: its writes stand at the same times, and its numbers and begins are new.
use Rattle.std.specs.Prelude.{◌≡◌, ℕ, suc, ◌+◌, List, [], ◌∷◌, length}
use Rattle.lst_model.specs.declared.commits.Commit.{Commit}
use Rattle.lst_model.specs.Soundness.{IsSound, Follows}

-- a commit with its time as its number
abbrev pub numbered_at : ℕ → Commit → Commit
numbered_at time c = record { session = c.session; number = time; begin = c.begin; writes = c.writes }

-- commits from a time on, each with its time as its number
abbrev pub numbered_from : ℕ → List Commit → List Commit
numbered_from time [] = []
numbered_from time (c ∷ commits) = numbered_at time c ∷ numbered_from (suc time) commits

-- a sound history, its numbers aside: they start again with each opening
abbrev pub IsRecovered : List Commit → Type 0
IsRecovered commits = IsSound (numbered_from 1 commits)

-- a commit may stand behind these, its number aside
abbrev pub MayFollow : List Commit → Commit → Type 0
MayFollow commits commit = Follows (numbered_from 1 commits) (numbered_at (length commits + 1) commit)

-- lists that are as long, with the same writes at each time
abbrev pub SameWrites : List Commit → List Commit → Type 0
SameWrites [] [] = Unit {0}
SameWrites [] (d ∷ others) = ⊥
SameWrites (c ∷ commits) [] = ⊥
SameWrites (c ∷ commits) (d ∷ others) = (c.writes ≡ d.writes) × SameWrites commits others

-- a commit that may stand behind a history may stand behind each list with the same writes
abbrev pub FollowsOver : Type 0
FollowsOver = (history commits : List Commit) (commit : Commit) → SameWrites history commits → Follows history commit → MayFollow commits commit

-- a commit that began at the last one of a history
abbrev pub begun_last : List Commit → Commit → Commit
begun_last history c = record { session = c.session; number = c.number; begin = length history; writes = c.writes }

-- a commit that may stand behind a history may also have begun at its last commit: what a replay begins
abbrev pub FollowsLater : Type 0
FollowsLater = (history : List Commit) (commit : Commit) → Follows history commit → Follows history (begun_last history commit)
