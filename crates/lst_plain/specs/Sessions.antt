-- What is kept of a session.
use Rattle.std.specs.Prelude.{ℕ, List, [], ◌∷◌, ◌++◌, Bool, true, false, Option, None}
use Rattle.lst_machine.specs.declared.answers.Transaction.{Transaction}

-- how many transactions it has begun, the open one, and the places of the records with a row that it made
pub record SessionState : Type 0 where
  pub begins : ℕ
  pub transaction : Option Transaction
  pub written : List ℕ

-- a session that has begun nothing
abbrev pub new_session : SessionState
new_session = record { begins = 0; transaction = None; written = [] }

-- the places with one more, unless the record was the session's already
abbrev pub noted_places : Bool → List ℕ → ℕ → List ℕ
noted_places true places place = places
noted_places false places place = places ++ place ∷ []
