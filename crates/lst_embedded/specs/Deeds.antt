-- What a commit of the bank is: it opens an account, or makes a transfer.
use Rattle.std.specs.Prelude.{◌≡◌, ℕ, ◌<◌, ◌≤◌, List, [], ◌∷◌, length}
use Rattle.lst_model.specs.declared.commits.Commit.{Commit}
use Rattle.lst_model.specs.Histories.{Extends, table_at}
use Rattle.lst_accounts.specs.declared.transfer.Transfer.{Transfer}
use Rattle.lst_accounts.specs.Books.{opening_of, Transfers}

-- the balance of an account that is opened
abbrev pub opening_balance : ℕ
opening_balance = 1000

-- the commit opens one account with that balance
pub record IsOpening (history : List Commit) (commit : Commit) : Type 0 where
  pub early : commit.begin ≤ length history
  pub key : ℕ
  pub is : commit.writes ≡ opening_of key opening_balance ∷ []

-- the commit transfers an amount that isn't 0, between two accounts that it saw at its begin, which differ
pub record IsMove (history : List Commit) (commit : Commit) : Type 0 where
  pub early : commit.begin ≤ length history
  pub transfer : Transfer
  pub some : 0 < transfer.amount
  pub is : Transfers (table_at history commit.begin) transfer commit.writes

-- what is so of a commit under a history is so under each that goes on from it
abbrev pub Lasts : (List Commit → Commit → Type 0) → Type 0
Lasts P = (longer shorter : List Commit) → Extends longer shorter → (commit : Commit) → P shorter commit → P longer commit
