-- New rows that one transaction puts into a new store.
use Rattle.std.specs.Prelude.{◌≡◌, ◌⊎◌, ℕ, ◌+◌, ◌*◌, ◌<◌, ◌≤◌, List, [], ◌∷◌, length}
use Rattle.lst_layout.specs.declared.limits.Limits.{Limits}
use Rattle.lst_model.specs.declared.acts.Act.{Act}
use Rattle.lst_model.specs.declared.acts.Act.TheVariants.{Put, Set, Del}
use Rattle.lst_model.specs.declared.acts.Write.{Write}
use Rattle.lst_model.specs.declared.commits.Commit.{Commit}
use Rattle.lst_model.specs.declared.lines.Call.TheVariants.{Commit as CommitCall}
use Rattle.lst_machine.specs.State.{Store, opening_store}
use Rattle.lst_machine.specs.Calls.{store_after}
use Rattle.lst_replay_laws.specs.Again.{after_begun}

abbrev pub IsPut : Act → Type 0
IsPut (Put row) = Unit {0}
IsPut (Set patch) = ⊥
IsPut Del = ⊥

-- writes put rows by rising key, no key twice and none below this one
abbrev pub ArePutsFrom : ℕ → List Write → Type 0
ArePutsFrom low [] = Unit {0}
ArePutsFrom low (write ∷ writes) = IsPut write.act × (low ≤ write.key) × ArePutsFrom (write.key + 1) writes

abbrev pub ArePuts : List Write → Type 0
ArePuts writes = ArePutsFrom 0 writes

-- a new store has room for so many rows that one transaction puts there: a range has 256 keys, and each of its keys needs one tail
pub record HasRoomForRows (limits : Limits) (rows : ℕ) : Type 0 where
  pub keys : rows ≤ 256 * limits.ranges
  pub tails : (rows ≤ limits.tails) ⊎ (256 ≤ limits.tails)

-- the store part once a session has begun a transaction on a new store, made these writes and committed them
abbrev pub after_one : Limits → ℕ → List Write → Store
after_one limits session writes = store_after limits (after_begun limits opening_store session writes) session CommitCall

-- the first commit of a session, with these writes, of which there is none where they are none
abbrev pub one_commit : ℕ → List Write → List Commit
one_commit session [] = []
one_commit session (write ∷ writes) = record { session = session; number = 1; begin = 0; writes = write ∷ writes } ∷ []

-- ---- a law

-- a transaction that puts rows into a new store with room for them is committed whole, and is the only commit
abbrev pub PutsAreCommitted : Type 0
PutsAreCommitted = (limits : Limits) (session : ℕ) (writes : List Write) → session < limits.sessions → 0 < limits.txns → ArePuts writes → HasRoomForRows limits (length writes)
    → (after_one limits session writes).history ≡ one_commit session writes
