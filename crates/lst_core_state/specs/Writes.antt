-- Lists of writes that stand by rising key.
use Rattle.std.specs.Prelude.{ℕ, zero, suc, ◌≤◌, List, [], ◌∷◌, Bool, cond, eqb, ◌&&◌}
use Rattle.lst_model.specs.declared.acts.Act.{Act}
use Rattle.lst_model.specs.declared.acts.Write.{Write}
use Rattle.lst_model.specs.declared.commits.Commit.{Commit}
use Rattle.lst_model.specs.Histories.{joined}
use Rattle.lst_core_state.specs.Lists.{acts, down}

abbrev pub write : ℕ → Act → Write
write k a = record { key = k; act = a }

abbrev pub commit : ℕ → ℕ → ℕ → List Write → Commit
commit s n b ws = record { session = s; number = n; begin = b; writes = ws }

-- by rising key, from the key k on
abbrev pub Rising : ℕ → List Write → Type 0
Rising k [] = Unit {0}
Rising k (w ∷ ws) = (k ≤ w.key) × Rising w.key ws

-- the writes of the tails up to n that p takes, by key and then by tail: tail t writes `act t` on `key t`
abbrev pub writes_by : (ℕ → Bool) → (ℕ → ℕ) → (ℕ → Act) → ℕ → List Write
writes_by p key act zero = []
writes_by p key act (suc n) = cond (p (suc n)) (joined (writes_by p key act n) (write (key (suc n)) (act (suc n)))) (writes_by p key act n)

-- the acts among them on one key
abbrev pub line_by : (ℕ → Bool) → (ℕ → ℕ) → (ℕ → Act) → ℕ → ℕ → List Act
line_by p key act k n = acts (λ t. p t && eqb (key t) k) act (down n)
