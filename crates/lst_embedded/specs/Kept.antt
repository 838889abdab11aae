-- What the bank hands back when it closes.
use Rattle.std.specs.Prelude.{◌≡◌, ◌⊎◌, ℕ, ◌+◌, ◌*◌, ◌≤◌, List, length, take}
use Rattle.std.specs.List.{AllByRecursion}
use Rattle.lst_model.specs.declared.commits.Commit.{Commit}
use Rattle.lst_model.specs.Soundness.{IsSound}
use Rattle.lst_accounts.specs.Books.{AreEntries, paid_in, total}
use Rattle.lst_embedded.specs.declared.audits.Audit.{Audit}
use Rattle.lst_embedded.specs.declared.bank.Books.{Books}
use Rattle.lst_embedded.specs.Deeds.{opening_balance, IsOpening, IsMove}

-- eight accounts are opened, and two tellers make 25 transfers each
abbrev pub accounts : ℕ
accounts = 8

abbrev pub transfers : ℕ
transfers = 2 * 25

-- the sum is what was paid in at the audit's time, which is one of the history, whichever it is
pub record IsPaidInThen (history : List Commit) (audit : Audit) : Type 0 where
  pub early : audit.time ≤ length history
  pub is : audit.total ≡ paid_in (take audit.time history)

-- The history is sound, and each of its commits opens an account or makes a transfer, of whatever amount between whichever accounts: the openings paid in all that
-- there is, and there are as many commits as openings and transfers. Each sum of an audit is what was paid in at its time, and the sum at the end is that of the
-- final table, and all of it
pub record IsKept (books : Books) : Type 0 where
  pub sound : IsSound books.history
  pub entries : AreEntries books.history books.history
  pub kinds : AllByRecursion (λ commit. IsOpening books.history commit ⊎ IsMove books.history commit) books.history
  pub paid : paid_in books.history ≡ accounts * opening_balance
  pub count : length books.history ≡ accounts + transfers
  pub audit_count : length books.audits.items ≡ 10
  pub audits : AllByRecursion (IsPaidInThen books.history) books.audits.items
  pub table : books.total ≡ total books.history
  pub all : books.total ≡ accounts * opening_balance
