-- What the store part of the machine says of keys, of accepted writes, and of what a session sees.
use Rattle.std.specs.Prelude.{ℕ, zero, suc, ◌+◌, ◌/◌, List, [], ◌∷◌, ◌++◌, Bool, cond, not, ◌&&◌, Option, Some, None, is_some, unwrap_or, position, nat_lt, ◌==◌}
use Rattle.lst_layout.specs.declared.limits.Limits.{Limits}
use Rattle.lst_model.specs.declared.acts.Write.{Write}
use Rattle.lst_model.specs.declared.commits.Commit.{Commit}
use Rattle.lst_model.specs.declared.replies.Cause.{Cause}
use Rattle.lst_model.specs.declared.replies.Cause.TheVariants.{Newer, Unfinished}
use Rattle.lst_model.specs.Tables.{Rows}
use Rattle.lst_model.specs.Histories.{snapshot, joined}
use Rattle.lst_machine.specs.State.{Accepted, Store}

-- a function changed at one place
abbrev pub put : {A : Type 0} → (ℕ → A) → ℕ → A → ℕ → A
put f place new other = cond (other == place) new (f other)

abbrev pub put_in : {A : Type 0} → (ℕ → ℕ → A) → ℕ → ℕ → A → ℕ → ℕ → A
put_in f row place new = put f row (put (f row) place new)

-- the place of a key among the placed ones
abbrev pub place_of : List ℕ → ℕ → Option ℕ
place_of placed key = position (λ other. other == key) placed

abbrev pub is_placed : List ℕ → ℕ → Bool
is_placed placed key = is_some (place_of placed key)

-- a key that has no record yet is placed last
abbrev pub with_key : List ℕ → ℕ → List ℕ
with_key placed key = cond (is_placed placed key) placed (placed ++ key ∷ [])

-- the range of a placed key
abbrev pub range_of : List ℕ → ℕ → ℕ
range_of placed key = unwrap_or (place_of placed key) 0 / 256

-- the time at which a transaction was committed
abbrev pub time_of : List Commit → ℕ → ℕ → Option ℕ
time_of [] session number = None
time_of (commit ∷ commits) session number = cond (commit.session == session && commit.number == number) (Some 1) (later (time_of commits session number))
  where
    later : Option ℕ → Option ℕ
    later None = None
    later (Some time) = Some (time + 1)

-- the last of the accepted writes that passes a test
abbrev pub last_where : (Accepted → Bool) → List Accepted → Option Accepted
last_where test [] = None
last_where test (first ∷ rest) = cond (is_some (last_where test rest)) (last_where test rest) (cond (test first) (Some first) None)

-- the last accepted write on a key whose transaction isn't closed
abbrev pub rival_of : Store → ℕ → Option Accepted
rival_of store key = last_where (λ other. other.write.key == key && not (store.closed other.session other.number)) (store.accepted (range_of store.placed key))

-- a rival that was committed after the begin, or that is open in another session, is in the way
abbrev pub conflict_at : ℕ → ℕ → Accepted → Option ℕ → Option Cause
conflict_at session begin rival (Some time) = cond (nat_lt begin time) (Some (Newer time)) None
conflict_at session begin rival None = cond (rival.session == session) None (Some (Unfinished rival.session rival.number))

abbrev pub conflict_with : List Commit → ℕ → ℕ → Option Accepted → Option Cause
conflict_with history session begin None = None
conflict_with history session begin (Some rival) = conflict_at session begin rival (time_of history rival.session rival.number)

abbrev pub conflict_of : Store → ℕ → ℕ → ℕ → Option Cause
conflict_of store session begin key = conflict_with store.history session begin (rival_of store key)

-- the accepted writes of the ranges below a number
abbrev pub accepted_below : (ℕ → List Accepted) → ℕ → List Accepted
accepted_below accepted zero = []
accepted_below accepted (suc range) = accepted_below accepted range ++ accepted range

-- the writes of one transaction among the accepted ones, by rising key and, of one key, in order
abbrev pub gathered : ℕ → ℕ → List Write → List Accepted → List Write
gathered session number writes [] = writes
gathered session number writes (first ∷ rest) = gathered session number (cond (first.session == session && first.number == number) (joined writes first.write) writes) rest

-- the own writes of a session's open transaction
abbrev pub own_writes : Limits → Store → ℕ → List Write
own_writes limits store session = gathered session (store.begins session) [] (accepted_below store.accepted limits.ranges)

-- what a session's open transaction sees
abbrev pub sight_of : Limits → Store → ℕ → ℕ → Rows
sight_of limits store session begin = snapshot store.history begin (own_writes limits store session)
