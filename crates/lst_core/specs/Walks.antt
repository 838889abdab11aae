-- A walk along the chain of a record, from its newest tail on.
use Rattle.std.specs.Prelude.{◌≡◌, ◌↔◌, ℕ, ◌<◌, ◌≤◌, List, None, not, eqb}
use Rattle.lst_layout.specs.declared.limits.Limits.{Limits}
use Rattle.lst_model.specs.Histories.{row_from}
use Rattle.lst_core_state.specs.Lists.{Has, Links, Fitting, Judged, acts}
use Rattle.lst_core_state.specs.Cells.{tail_count}
use Rattle.lst_core_state.specs.State.{Words, entry, writer_at, state_at, line, back_in, act_in, FitsAfter}

-- the walk has come to the tail t of the record r, and the rest of the chain is left
pub record Walks (l : Limits) (w : Words) (r t : ℕ) : Type 0 where
  pub rest : List ℕ
  pub links : Links (back_in l w.cells) t rest
  pub stored : (x : ℕ) → Has x rest → 0 < w.cells x 0
  pub few : (x : ℕ) → Has x rest → x ≤ tail_count l
  pub fits : Fitting FitsAfter (entry w.states) (writer_at w) (act_in l w.cells) rest

-- the versions that were passed are closed, so that the rest decides whether the chain is judged
pub record Judges (l : Limits) (w : Words) (own r t : ℕ) : Type 0 where
  pub walk : Walks l w r t
  pub same : Judged (entry w.states) (entry w.begins) (writer_at w) own (line l w r) ↔ Judged (entry w.states) (entry w.begins) (writer_at w) own walk.rest

-- and so that the rest makes the same row
pub record Rows (l : Limits) (w : Words) (r t : ℕ) : Type 0 where
  pub walk : Walks l w r t
  pub same : row_from None (acts (λ x. not (eqb (state_at w x) 1)) (act_in l w.cells) (line l w r)) ≡ row_from None (acts (λ x. not (eqb (state_at w x) 1)) (act_in l w.cells) walk.rest)
