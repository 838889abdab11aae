-- Accounts are rows of one column, the balance. What opens one, what a transfer does, and what was paid in.
use Rattle.std.specs.Prelude.{◌≡◌, ◌≢◌, ◌⊎◌, ℕ, ◌+◌, ◌≤◌, List, [], ◌∷◌, ◌++◌, Option, Some, length, take}
use Rattle.std.specs.List.{AllByRecursion}
use Rattle.lst_model.specs.declared.acts.Act.{Act}
use Rattle.lst_model.specs.declared.acts.Act.TheVariants.{Put, Set, Del}
use Rattle.lst_model.specs.declared.acts.Write.{Write}
use Rattle.lst_model.specs.declared.commits.Commit.{Commit}
use Rattle.lst_model.specs.Cells.{Cell, number_at}
use Rattle.lst_model.specs.Tables.{Rows, row_of, sum_of}
use Rattle.lst_model.specs.Histories.{Extends, table_at, joined}
use Rattle.lst_model.specs.Soundness.{IsSound}
use Rattle.lst_accounts.specs.declared.transfer.Transfer.{Transfer}

-- the row of an account with this balance, and the patch that gives it this one
abbrev pub account : ℕ → List Cell
account balance = Some balance ∷ []

abbrev pub new_balance : ℕ → List (Option Cell)
new_balance balance = Some (Some balance) ∷ []

-- the write that opens an account with a balance, and the one that sets an account's balance
abbrev pub opening_of : ℕ → ℕ → Write
opening_of key balance = record { key = key; act = Put (account balance) }

abbrev pub setting_of : ℕ → ℕ → Write
setting_of key balance = record { key = key; act = Set (new_balance balance) }

-- the amount left the payer, who had it, and came to the payee
pub record IsPaid (transfer : Transfer) (payer payee payer_after payee_after : ℕ) : Type 0 where
  pub taken : payer_after + transfer.amount ≡ payer
  pub given : payee_after ≡ payee + transfer.amount

-- the writes open one account
pub record Opens (writes : List Write) : Type 0 where
  pub key : ℕ
  pub balance : ℕ
  pub is : writes ≡ opening_of key balance ∷ []

-- the writes make a transfer between two accounts of the table, which differ: they set both balances, and do nothing else
pub record Transfers (table : Rows) (transfer : Transfer) (writes : List Write) : Type 0 where
  pub differ : transfer.from ≢ transfer.to
  pub payer : ℕ
  pub payee : ℕ
  pub payer_has : row_of table transfer.from ≡ Some (account payer)
  pub payee_has : row_of table transfer.to ≡ Some (account payee)
  pub payer_after : ℕ
  pub payee_after : ℕ
  pub paid : IsPaid transfer payer payee payer_after payee_after
  pub is : writes ≡ joined (setting_of transfer.from payer_after ∷ []) (setting_of transfer.to payee_after)

-- the commit is one of the books of a history: it opens an account, or makes a transfer between two that it saw at its begin
pub record IsEntry (history : List Commit) (commit : Commit) : Type 0 where
  pub early : commit.begin ≤ length history
  pub is : Opens commit.writes ⊎ ((transfer : Transfer) × Transfers (table_at history commit.begin) transfer commit.writes)

-- each commit is
abbrev pub AreEntries : List Commit → List Commit → Type 0
AreEntries history commits = AllByRecursion (IsEntry history) commits

-- what an act pays in: the balance of an account that it opens
abbrev pub paid_by_act : Act → ℕ
paid_by_act (Put row) = number_at 0 row
paid_by_act (Set patch) = 0
paid_by_act Del = 0

-- what writes pay in, and what commits do
abbrev pub paid_by : List Write → ℕ
paid_by [] = 0
paid_by (write ∷ writes) = paid_by_act write.act + paid_by writes

abbrev pub paid_in : List Commit → ℕ
paid_in [] = 0
paid_in (commit ∷ commits) = paid_by commit.writes + paid_in commits

-- all balances together, as of a time, and in the final table
abbrev pub balances_at : List Commit → ℕ → ℕ
balances_at history time = sum_of (table_at history time) 0

abbrev pub total : List Commit → ℕ
total history = balances_at history (length history)

-- in a sound history of entries, all balances together are as of each time what was paid in up to then; and in the final table what was paid in at all
abbrev pub EachSumIsPaidIn : Type 0
EachSumIsPaidIn = (history : List Commit) → IsSound history → AreEntries history history → ((time : ℕ) → balances_at history time ≡ paid_in (take time history)) × (total history ≡ paid_in history)

-- entries of a history are entries of each that goes on from it
abbrev pub EntriesLast : Type 0
EntriesLast = (longer shorter : List Commit) → Extends longer shorter → (commits : List Commit) → AreEntries shorter commits → AreEntries longer commits

-- and two lists of them are one
abbrev pub EntriesJoin : Type 0
EntriesJoin = (history commits more : List Commit) → AreEntries history commits → AreEntries history more → AreEntries history (commits ++ more)
