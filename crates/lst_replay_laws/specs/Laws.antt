-- The laws of running commits again.
use Rattle.std.specs.Prelude.{◌≡◌, ◌≢◌, ◌⊎◌, ℕ, ◌+◌, ◌*◌, ◌<◌, ◌≤◌, List, [], ◌∷◌, ◌++◌, length}
use Rattle.lst_layout.specs.declared.limits.Limits.{Limits}
use Rattle.lst_model.specs.declared.acts.Write.{Write}
use Rattle.lst_model.specs.declared.commits.Commit.{Commit}
use Rattle.lst_model.specs.declared.lines.Call.TheVariants.{Begin, Commit as CommitCall}
use Rattle.lst_model.specs.declared.replies.Reply.TheVariants.{Begun, Done, Committed, Refused}
use Rattle.lst_model.specs.declared.replies.Cause.TheVariants.{Spent, TableFull, TailFull}
use Rattle.lst_model.specs.Histories.{StandByKey}
use Rattle.lst_machine.specs.State.{Store, opening_store}
use Rattle.lst_machine.specs.Calls.{call_reply, store_after}
use Rattle.lst_snapshots.specs.Replays.{MayFollow, SameWrites}
use Rattle.lst_replay_laws.specs.Again.{call_of, after_again, commits_by, all_again, placed_by, keys_written, writes_in}
use Rattle.lst_replay_laws.specs.Rests.{IsRested, IsUnderWay, MeetsLimit, HasRoomFor, with_tails}

-- an opening store rests behind no commits
abbrev pub OpeningRests : Type 0
OpeningRests = (limits : Limits) → IsRested limits [] opening_store

-- a session that has no more transactions than it has commits begins one at the last commit, or has none left
abbrev pub BeginsAgain : Type 0
BeginsAgain = (limits : Limits) (commits : List Commit) (store : Store) (session : ℕ) → session < limits.sessions → IsRested limits commits store
    → ((call_reply limits store session Begin ≡ Begun (length commits)) × (commits_by session commits < limits.txns) × IsUnderWay limits commits session [] (store_after limits store session Begin))
    ⊎ ((call_reply limits store session Begin ≡ Refused Spent) × (limits.txns ≤ commits_by session commits))

-- the next write of a commit that may follow is accepted, or the table or the range of its key is full
abbrev pub WritesAgain : Type 0
WritesAgain = (limits : Limits) (commits : List Commit) (c : Commit) (done : List Write) (write : Write) (rest : List Write) (store : Store)
    → MayFollow commits c → StandByKey c.writes → c.writes ≡ done ++ write ∷ rest → IsUnderWay limits commits c.session done store
    → ((call_reply limits store c.session (call_of write) ≡ Done) × IsUnderWay limits commits c.session (done ++ write ∷ []) (store_after limits store c.session (call_of write)))
    ⊎ (((call_reply limits store c.session (call_of write) ≡ Refused TableFull) × (256 * limits.ranges < length (placed_by (keys_written commits) (done ++ write ∷ []))))
    ⊎ ((call_reply limits store c.session (call_of write) ≡ Refused TailFull) × (limits.tails ≤ writes_in commits + length done)))

-- behind all its writes it is committed at its time
abbrev pub CommitsAgain : Type 0
CommitsAgain = (limits : Limits) (commits : List Commit) (c : Commit) (store : Store) → c.writes ≢ [] → IsUnderWay limits commits c.session c.writes store
    → (call_reply limits store c.session CommitCall ≡ Committed (length commits + 1)) × IsRested limits (commits ++ c ∷ []) (store_after limits store c.session CommitCall)

-- one commit more, where no limit is met
abbrev pub RestsAgain : Type 0
RestsAgain = (limits : Limits) (commits : List Commit) (c : Commit) (store : Store) → IsRested limits commits store → MayFollow commits c → StandByKey c.writes → c.writes ≢ [] → ¬ MeetsLimit limits store c
    → IsRested limits (commits ++ c ∷ []) (after_again limits store c)

-- where there is room for all commits none of them meets a limit
abbrev pub RoomMeetsNone : Type 0
RoomMeetsNone = (limits : Limits) (commits : List Commit) (c : Commit) (more : List Commit) (store : Store) → IsRested limits commits store → MayFollow commits c → StandByKey c.writes
    → HasRoomFor limits (commits ++ c ∷ more) → ¬ MeetsLimit limits store c

-- limits under which all commits were run again have room for them, given a tail for each write
abbrev pub RestedHasRoom : Type 0
RestedHasRoom = (limits : Limits) (commits : List Commit) (store : Store) → IsRested limits commits store → HasRoomFor (with_tails limits (writes_in commits)) commits

-- the writes stand at the same times as before
abbrev pub AgainIsSame : Type 0
AgainIsSame = (commits : List Commit) → SameWrites (all_again commits) commits
