-- A walk over a set's keys that asks of each whether it was changed since the begin, and keeps the least one that was.
use Rattle.std.specs.Prelude.{◌≡◌, ℕ, ◌<◌, List, [], ◌∷◌, ◌++◌, true, Option, Some, None}
use Rattle.std.specs.List.{All, list_any}
use Rattle.std.specs.BTreeMap.{is_at}
use Rattle.std.specs.Ordering.{nat_cmp}
use Rattle.lst_model.specs.declared.commits.Commit.{Commit}
use Rattle.lst_rule.specs.declared.store.Store.{Store}
use Rattle.lst_rule.specs.Rule.{knows}
use Rattle.lst_changes.specs.Changes.{IsUnwrittenAfter, Changed}
use Rattle.lst_session.specs.declared.session.Session.{Session}
use Rattle.lst_session.specs.Held.{IsHeld, LooksStill}
use Rattle.lst_serial.specs.declared.checks.Change.{Change}
use Rattle.lst_serial.specs.declared.keys.KeySet.{KeySet}
use Rattle.lst_serial.specs.Keys.{members}

-- of these keys it is the least one that a commit above the begin wrote, with the last time at which one did
pub record IsLeast (history : List Commit) (begin : ℕ) (keys : List ℕ) (change : Change) : Type 0 where
  pub one : list_any (is_at (nat_cmp change.key)) keys ≡ true
  pub changed : Changed history begin change.key (Some change.time)
  pub below : (other : ℕ) → other < change.key → list_any (is_at (nat_cmp other)) keys ≡ true → IsUnwrittenAfter history begin other

-- None comes where none of them was written
abbrev pub IsLeastChange : List Commit → ℕ → List ℕ → Option Change → Type 0
IsLeastChange history begin keys None = All (λ key. IsUnwrittenAfter history begin key) keys
IsLeastChange history begin keys (Some change) = IsLeast history begin keys change

-- whatever keys were asked of before: what was the least change of those became that of them and one key more
abbrev pub StaysLeast : List Commit → ℕ → ℕ → Option Change → Option Change → Type 0
StaysLeast history begin key old new = (passed : List ℕ) → IsLeastChange history begin passed old → IsLeastChange history begin (passed ++ key ∷ []) new

-- the keys but the rest were asked of. It began with the session as it was before
pub record Searching (store : Store) (before session : Session) (keys : KeySet) (rest : List ℕ) (least : Option Change) : Type 0 where
  pub held : IsHeld store session
  pub number : session.number ≡ before.number
  pub still : LooksStill before.seat.view session.seat.view before.number
  pub passed : List ℕ
  pub split : members keys ≡ passed ++ rest
  pub found : let k = knows before.seat.view before.number in IsLeastChange k.seen k.begin passed least
