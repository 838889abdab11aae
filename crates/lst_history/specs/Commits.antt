-- The commits with the writes of the first tails, which commit the write of a tail is of, and the order that a commit has its writes in.
use Rattle.std.specs.Prelude.{◌≡◌, ◌⊎◌, ℕ, zero, suc, ◌<◌, ◌≤◌, List, [], ◌∷◌, ◌++◌, cond, false, eqb}
use Rattle.lst_layout.specs.declared.limits.Limits.{Limits}
use Rattle.lst_model.specs.declared.acts.Write.{Write}
use Rattle.lst_model.specs.declared.commits.Commit.{Commit}
use Rattle.lst_model.specs.Histories.{by_key}
use Rattle.lst_core_state.specs.Writes.{write}
use Rattle.lst_core_state.specs.State.{Words, history, is_by, record_in, act_in}

-- the write of a tail
abbrev pub write_at : Limits → Words → ℕ → Write
write_at l w t = write (w.keys (record_in l w.cells t)) (act_in l w.cells t)

-- the writes of the transaction x in the first n tails, in the order of the tails
abbrev pub writes_until : Limits → Words → ℕ → ℕ → List Write
writes_until l w zero x = []
writes_until l w (suc n) x = cond (is_by w.log w.cells x (suc n)) (writes_until l w n x ++ write_at l w (suc n) ∷ []) (writes_until l w n x)

-- the commits, with the writes of the first n tails in the order of the tails
abbrev pub gathered_until : Limits → Words → ℕ → List Commit
gathered_until l w n = history w.clock w.log w.begins (writes_until l w n)

-- a commit with its writes by rising key, those of one key in the order that they had
abbrev pub in_order : Commit → Commit
in_order c = record c { writes = by_key c.writes }

abbrev pub without_writes : Commit → Commit
without_writes c = record c { writes = [] }

-- the transaction x is the commit at this time, and at no other
pub record IsCommit (clock : ℕ) (log : ℕ → ℕ) (x time : ℕ) : Type 0 where
  pub some : 0 < time
  pub past : time ≤ clock
  pub is : (u : ℕ) → 0 < u → u ≤ clock → eqb x (log u) ≡ eqb u time

-- it is no commit
abbrev pub IsNoCommit : ℕ → (ℕ → ℕ) → ℕ → Type 0
IsNoCommit clock log x = (u : ℕ) → 0 < u → u ≤ clock → eqb x (log u) ≡ false

-- the tail t has a write of the commit at this time, and of no other
pub record IsOfCommit (w : Words) (t time : ℕ) : Type 0 where
  pub stored : 0 < w.cells t 0
  pub some : 0 < time
  pub past : time ≤ w.clock
  pub is : (u : ℕ) → 0 < u → u ≤ w.clock → is_by w.log w.cells (w.log u) t ≡ eqb u time

-- it has a write of no commit
abbrev pub IsOfNone : Words → ℕ → Type 0
IsOfNone w t = (u : ℕ) → 0 < u → u ≤ w.clock → is_by w.log w.cells (w.log u) t ≡ false

-- a write comes behind those of a commit
abbrev pub with_write : Commit → Write → Commit
with_write c x = record c { writes = c.writes ++ x ∷ [] }

-- a write comes behind those of the i-th commit, from 0 on
abbrev pub entered : List Commit → ℕ → Write → List Commit
entered [] i x = []
entered (c ∷ cs) zero x = with_write c x ∷ cs
entered (c ∷ cs) (suc i) x = c ∷ entered cs i x

-- so many tails of the range are drawn: as many as its counter has, which may have passed the limit, or all
abbrev pub IsDrawn : Limits → Words → ℕ → ℕ → Type 0
IsDrawn l w range n = (n ≤ l.tails) × (n ≤ w.counts range) × ((n ≡ l.tails) ⊎ (n ≡ w.counts range))
