-- Walks for a cell that are to go on.
use Rattle.std.proofs.Common.{ℕ, ◌≤◌, sym, subst, arith}
use mathlib.Core.Logic.{dite}
use native.Mathlib.Decide.{ℕ_discrete}
use Rattle.lst_layout.specs.declared.limits.Limits.{Limits}
use Rattle.lst_rule.specs.declared.store.Store.{Store}
use Rattle.lst_rule.specs.declared.view.View.{View}
use Rattle.lst_rule.specs.Seats.{Sitting}
use Rattle.lst_rule.specs.Copies.{IsVersionOf, fact_of}
use Rattle.lst_rule.specs.TailLoads.{LoadsOf, LoadsTail}
use Rattle.lst_rule.specs.Watching.{Watched}
use Rattle.lst_rule.proofs.Finds.{loads_join, loads_past, loads_weaker}
use Rattle.lst_walk.specs.Chains.{CellAhead, IsTailOf}
use Rattle.lst_walk.specs.Readers.{IsReader}
use Rattle.lst_walk.proofs.Reading.{facts_on}
use Rattle.lst_walk.proofs.Walking.{cell_stays, number_few}

-- one may go on after looks
pub ahead_stays : (store : Store) (v : View) (a b : Sitting) (s rec column n : ℕ) → Watched a.view b.view s → IsReader store b s → CellAhead store v a s rec column n → CellAhead store v b s rec column n
ahead_stays store v a b s rec column n more reader ahead = record { host = ahead.host; opened = ahead.opened; walk = cell_stays store v a b s rec column n ahead.walk more reader }

-- it is at the number of a tail record of its range, or 0
pub ahead_low : (store : Store) (v : View) (seat : Sitting) (s rec column n : ℕ) → CellAhead store v seat s rec column n → n ≤ store.layout.limits.tails
ahead_low store v seat s rec column n ahead = dite (ℕ_discrete n 0)
    (λ none. omega arith)
    (λ some. number_few store seat s rec n ahead.walk.reader ahead.walk.versions ahead.walk.chain (omega arith))

-- ---- of which record a tail record is

-- that stays so
pub tail_on : (v w : View) (s rec t : ℕ) → Watched v w s → IsTailOf v s rec t → IsTailOf w s rec t
tail_on v w s rec t watched is = (is.0, subst (λ (l : Limits). IsVersionOf l rec is.0) (sym watched.learns.limits) is.1, facts_on v w s watched (fact_of is.0) is.2, is.3)

-- words of one more of the record's were loaded
pub loads_more : (u v w : View) (s rec t : ℕ) → LoadsOf u v s (IsTailOf v s rec) → IsTailOf v s rec t → LoadsTail v w s t → Watched v w s → LoadsOf u w s (IsTailOf w s rec)
loads_more u v w s rec t before is here watched = loads_join (IsTailOf w s rec) u v w s
    (loads_weaker (IsTailOf v s rec) (IsTailOf w s rec) (λ x at. tail_on v w s rec x watched at) u v s before)
    (loads_past v w s t (IsTailOf w s rec) (tail_on v w s rec t watched is) here)

-- and then those that a call loads
pub loads_then : (u v w : View) (s rec : ℕ) → LoadsOf u v s (IsTailOf v s rec) → LoadsOf v w s (IsTailOf w s rec) → Watched v w s → LoadsOf u w s (IsTailOf w s rec)
loads_then u v w s rec before here watched = loads_join (IsTailOf w s rec) u v w s
    (loads_weaker (IsTailOf v s rec) (IsTailOf w s rec) (λ x at. tail_on v w s rec x watched at) u v s before) here
