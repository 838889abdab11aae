-- Commits that are run again on a crew: what the crew tells behind them, and while one is under way.
use Rattle.std.specs.Prelude.{◌≡◌, ℕ, List, ◌∷◌, ◌++◌}
use Rattle.lst_layout.specs.declared.limits.Limits.{Limits}
use Rattle.lst_model.specs.declared.acts.Write.{Write}
use Rattle.lst_model.specs.declared.commits.Commit.{Commit}
use Rattle.lst_machine.specs.State.{Store, opening, opening_store}
use Rattle.lst_machine.specs.Calls.{call_reply}
use Rattle.lst_machine.specs.Machine.{state_after}
use Rattle.lst_snapshots.specs.Replays.{MayFollow}
use Rattle.lst_replay_laws.specs.Again.{call_of, after_writes, after_all_again}
use Rattle.lst_replay_laws.specs.Rests.{IsRested, IsUnderWay, IsFull}
use Rattle.lst_replay_laws.specs.Runs.{HasWrites, RunsAgain}
use Rattle.lst_rule.specs.declared.view.View.{View}
use Rattle.lst_rule.specs.declared.store.Store.{Store as Table}
use Rattle.lst_session.specs.declared.crew.Crew.{Crew}
use Rattle.lst_redo.specs.Scripts.{lines_again}
use Rattle.lst_session.specs.Crews.{IsCrewOf, TellsState, store_told, state_told}

-- these commits were run again on a new crew, and nothing else: none met a limit, and the crew tells the state of the machine behind their lines, with
-- the store that their calls leave
pub record HasRunAgain (table : Table) (limits : Limits) (commits : List Commit) (crew : Crew) : Type 0 where
  pub crew_of : IsCrewOf table crew
  pub limits_are : crew.seat.view.limits ≡ limits
  pub tells : TellsState crew.seat.view
  pub told : store_told crew.seat.view ≡ after_all_again limits opening_store commits
  pub state : state_told crew.seat.view ≡ state_after limits opening (lines_again commits)
  pub runs : RunsAgain limits opening_store commits
  pub rested : IsRested limits commits (store_told crew.seat.view)

-- the crew tells a store in which some commits were run again, and the commit may follow them
pub record MayRun (v : View) (c : Commit) : Type 0 where
  pub tells : TellsState v
  pub front : List Commit
  pub rested : IsRested v.limits front (store_told v)
  pub may : MayFollow front c
  pub writes : HasWrites v.limits.columns c

-- one of a session's writes, behind those before it, finds the table or its key's range full
pub record WritesFindFull (limits : Limits) (store : Store) (session : ℕ) (writes : List Write) : Type 0 where
  pub done : List Write
  pub write : Write
  pub rest : List Write
  pub split : writes ≡ done ++ write ∷ rest
  pub full : IsFull (call_reply limits (after_writes limits store session done) session (call_of write))

-- in the store `begun` the commit's own session had begun a transaction, behind commits that the commit may follow; since then it has made these of its
-- writes, and none found anything full
pub record IsMaking (v : View) (begun : Store) (c : Commit) (done : List Write) : Type 0 where
  pub tells : TellsState v
  pub front : List Commit
  pub may : MayFollow front c
  pub under_way : IsUnderWay v.limits front c.session done (store_told v)
  pub told : store_told v ≡ after_writes v.limits begun c.session done
  pub free : ¬ WritesFindFull v.limits begun c.session done
