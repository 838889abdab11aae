-- When what is kept for merges tells a state of the machine.
use Rattle.std.specs.Prelude.{◌≡◌, ℕ, zero, suc, ◌+◌, ◌*◌, ◌<◌, ◌≤◌, List, [], ◌∷◌, Bool, true, cond, not, ◌&&◌, Option, Some, None, is_some, slice_index}
use Rattle.std.specs.List.{AllByRecursion}
use Rattle.lst_layout.specs.declared.limits.Limits.{Limits}
use Rattle.lst_machine.specs.State.{Accepted, Store, State}
use Rattle.lst_machine.specs.Merges.{is_settled}
use Rattle.lst_plain.specs.Telling.{is_by}
use Rattle.lst_plain.specs.Lineages.{HolderState, LineageState, holder_of}

-- whether a write is one of a session's open transaction
abbrev pub is_open_by : Store → ℕ → Accepted → Bool
is_open_by store session write = is_some (store.opened session) && is_by session (store.begins session) write

-- a number that counts one more before it, where 0 is none
abbrev pub one_later : ℕ → ℕ
one_later zero = 0
one_later (suc first) = suc (suc first)

-- the number of the first write that passes a test, counted from 1, or 0
abbrev pub first_where : (Accepted → Bool) → List Accepted → ℕ
first_where test [] = 0
first_where test (write ∷ writes) = cond (test write) 1 (one_later (first_where test writes))

-- a write is settled, unless it is one of its session's open transaction
pub record WriteTells (limits : Limits) (store : Store) (write : Accepted) : Type 0 where
  pub low : write.session < limits.sessions
  pub begun : write.number ≤ store.begins write.session
  pub settled : is_settled store write ≡ not (is_open_by store write.session write)

-- so many pages were swapped since the open transaction began, or at least so many where that is the number of spare frames
pub record IsSince (swaps : ℕ) (limits : Limits) (state : State) (session : ℕ) : Type 0 where
  pub is_open : is_some (state.store.opened session) ≡ true
  pub few : swaps ≤ limits.spare
  pub least : state.pages.swaps_at_begin session + swaps ≤ state.pages.swaps
  pub exact : swaps < limits.spare → state.pages.swaps_at_begin session + swaps ≡ state.pages.swaps

abbrev pub SwapsTell : Option ℕ → Limits → State → ℕ → Type 0
SwapsTell None limits state session = state.store.opened session ≡ None
SwapsTell (Some swaps) limits state session = IsSince swaps limits state session

pub record HolderTells (holder : HolderState) (limits : Limits) (state : State) (session : ℕ) : Type 0 where
  pub swaps : SwapsTell holder.swaps limits state session
  pub firsts : (range : ℕ) → range < limits.ranges → slice_index holder.firsts range ≡ first_where (is_open_by state.store session) (state.store.accepted range)

-- what is kept for merges tells this state
pub record PagesTell (lineage : LineageState) (limits : Limits) (state : State) : Type 0 where
  pub tps : (range column : ℕ) → range < limits.ranges → column < limits.columns → state.pages.tps range column ≡ slice_index lineage.tps (range * limits.columns + column)
  pub holders : (session : ℕ) → session < limits.sessions → HolderTells (holder_of lineage.holders session) limits state session
  pub writes : (range : ℕ) → AllByRecursion (WriteTells limits state.store) (state.store.accepted range)
