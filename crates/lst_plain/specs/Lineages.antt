-- What the engine keeps for merges, and what becomes of it.
use Rattle.std.specs.Prelude.{◌≡◌, ℕ, ◌+◌, ◌-◌, ◌*◌, ◌<◌, List, [], ◌∷◌, Bool, false, cond, ◌||◌, Option, Some, None, map, length, replicate, slice_index, slice_index_or, slice_set, nat_lt, nat_le, ◌==◌}
use Rattle.lst_layout.specs.declared.limits.Limits.{Limits}
use Rattle.lst_model.specs.declared.replies.Reply.{Reply}
use Rattle.lst_model.specs.declared.replies.Reply.TheVariants.{Begun, Done, Committed, Ended, Aborted}
use Rattle.lst_plain.specs.declared.engine.Tail.{Tail}

-- of a session: how many pages were swapped since its open transaction began, counted up to a limit, or None where it has none;
-- and by range the number of the first tail that this transaction wrote there, or 0
pub record HolderState : Type 0 where
  pub swaps : Option ℕ
  pub firsts : List ℕ

abbrev pub new_holder : ℕ → HolderState
new_holder ranges = record { swaps = None; firsts = replicate ranges 0 }

abbrev pub begun_holder : HolderState → HolderState
begun_holder holder = record holder { swaps = Some 0 }

abbrev pub ended_holder : HolderState → HolderState
ended_holder holder = record { swaps = None; firsts = replicate (length holder.firsts) 0 }

abbrev pub noted_firsts : List ℕ → ℕ → ℕ → List ℕ
noted_firsts firsts range tail = cond (slice_index firsts range == 0) (slice_set firsts range tail) firsts

abbrev pub noted_holder : HolderState → ℕ → ℕ → HolderState
noted_holder holder range tail = record holder { firsts = noted_firsts holder.firsts range tail }

abbrev pub one_more : ℕ → Option ℕ → Option ℕ
one_more spare None = None
one_more spare (Some swaps) = Some (cond (nat_lt swaps spare) (swaps + 1) swaps)

abbrev pub swapped_holder : ℕ → HolderState → HolderState
swapped_holder spare holder = record holder { swaps = one_more spare holder.swaps }

abbrev pub are_as_many : ℕ → Option ℕ → Bool
are_as_many spare None = false
are_as_many spare (Some swaps) = nat_le spare swaps

abbrev pub is_behind : ℕ → HolderState → Bool
is_behind spare holder = are_as_many spare holder.swaps

-- by range and column the TPS of the page, and what is kept of each session
pub record LineageState : Type 0 where
  pub tps : List ℕ
  pub holders : List HolderState

abbrev pub holder_of : List HolderState → ℕ → HolderState
holder_of holders session = slice_index_or holders session (new_holder 0)

abbrev pub with_holder : LineageState → ℕ → HolderState → LineageState
with_holder lineage session holder = record lineage { holders = slice_set lineage.holders session holder }

abbrev pub with_begun : LineageState → ℕ → LineageState
with_begun lineage session = with_holder lineage session (begun_holder (holder_of lineage.holders session))

abbrev pub with_ended : LineageState → ℕ → LineageState
with_ended lineage session = with_holder lineage session (ended_holder (holder_of lineage.holders session))

abbrev pub with_tail : LineageState → ℕ → ℕ → ℕ → LineageState
with_tail lineage session range tail = with_holder lineage session (noted_holder (holder_of lineage.holders session) range tail)

abbrev pub with_swap : LineageState → ℕ → ℕ → ℕ → LineageState
with_swap lineage page tps spare = record { tps = slice_set lineage.tps page tps; holders = map (swapped_holder spare) lineage.holders }

-- the lower of two numbers of tails, where 0 is none
abbrev pub lesser : ℕ → ℕ → ℕ
lesser first other = cond (first == 0) other (cond (other == 0 || nat_lt first other) first other)

-- the first tail of a range that some of the open transactions wrote, or this one
abbrev pub least_first : ℕ → List HolderState → ℕ → ℕ
least_first least [] range = least
least_first least (holder ∷ holders) range = least_first (lesser least (slice_index holder.firsts range)) holders range

-- how many of so many tails stand before one, or all where it is none
abbrev pub tails_before : ℕ → ℕ → ℕ
tails_before first count = cond (first == 0) count (first - 1)

abbrev pub with_newest : LineageState → ℕ → Option Tail → LineageState
with_newest lineage session None = lineage
with_newest lineage session (Some tail) = with_tail lineage session tail.range tail.number

-- what is kept after a session's call was answered, where the last tail on the key of the call is this one
abbrev pub followed : LineageState → ℕ → Option Tail → Reply → LineageState
followed lineage session newest (Begun time) = with_begun lineage session
followed lineage session newest Done = with_newest lineage session newest
followed lineage session newest (Committed time) = with_ended lineage session
followed lineage session newest (Ended time) = with_ended lineage session
followed lineage session newest Aborted = with_ended lineage session
followed lineage session newest reply = lineage

-- there is a TPS for each page, and for each session a number for each range
pub record IsWide (limits : Limits) (lineage : LineageState) : Type 0 where
  pub pages : length lineage.tps ≡ limits.ranges * limits.columns
  pub sessions : length lineage.holders ≡ limits.sessions
  pub ranges : (session : ℕ) → session < limits.sessions → length (holder_of lineage.holders session).firsts ≡ limits.ranges
