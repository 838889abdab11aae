-- Entries last while a history grows.
use Rattle.std.proofs.Common.{◌≡◌, ◌≢◌, ℕ, ◌≤◌, Bool, true, false, cond, List, [], ◌∷◌, length, take, refl, sym, ap, ◌∙◌, subst, arith, length-append, ◌⊎◌, inl, inr}
use Rattle.std.proofs.lemmas.Bool.{ltb-true, ltb-false}
use Rattle.std.proofs.lemmas.List.{take-append-le}
use Rattle.std.specs.Prelude.{nat_lt}
use Rattle.lst_model.specs.declared.acts.Write.{Write}
use Rattle.lst_model.specs.declared.commits.Commit.{Commit}
use Rattle.lst_model.specs.Tables.{no_rows}
use Rattle.lst_model.specs.Histories.{Extends, replayed, table_at, joined}
use Rattle.lst_accounts.specs.declared.transfer.Transfer.{Transfer}
use Rattle.lst_accounts.specs.Books.{Opens, Transfers, IsEntry, AreEntries, EntriesLast, EntriesJoin}

module _ (longer shorter : List Commit) (grows : Extends longer shorter) where
  long : length shorter ≤ length longer
  long = let size = length-append shorter grows.0 in omega (arith, ap length grows.1, size)

  pub same_table : (begin : ℕ) → begin ≤ length shorter → table_at longer begin ≡ table_at shorter begin
  same_table begin early = ap (replayed no_rows) (ap (take begin) grows.1 ∙ take-append-le begin shorter grows.0 early)

  entry_lasts : (commit : Commit) → IsEntry shorter commit → IsEntry longer commit
  entry_lasts commit entry = record { early = let more = long in omega (arith, more, entry.early); is = either entry.is }
    where
      either : Opens commit.writes ⊎ ((transfer : Transfer) × Transfers (table_at shorter commit.begin) transfer commit.writes) → Opens commit.writes ⊎ ((transfer : Transfer) × Transfers (table_at longer commit.begin) transfer commit.writes)
      either (inl opens) = inl opens
      either (inr t) = inr (t.0, subst (λ table. Transfers table t.0 commit.writes) (sym (same_table commit.begin entry.early)) t.1)

  last : (commits : List Commit) → AreEntries shorter commits → AreEntries longer commits
  last [] entries = tt
  last (commit ∷ commits) entries = (entry_lasts commit entries.0, last commits entries.1)

pub entries_last : EntriesLast
entries_last = last

pub entries_join : EntriesJoin
entries_join history [] more entries others = others
entries_join history (commit ∷ commits) more entries others = (entries.0, entries_join history commits more entries.1 others)

-- of two writes on different keys either may come first
pub joined_either_way : (one other : Write) → one.key ≢ other.key → joined (one ∷ []) other ≡ joined (other ∷ []) one
joined_either_way one other differ = by (nat_lt other.key one.key) refl (nat_lt one.key other.key) refl
  where
    by : (b : Bool) → nat_lt other.key one.key ≡ b → (c : Bool) → nat_lt one.key other.key ≡ c → cond b (other ∷ one ∷ []) (one ∷ other ∷ []) ≡ cond c (one ∷ other ∷ []) (other ∷ one ∷ [])
    by true high true low = let a = ltb-true _ _ high in let b = ltb-true _ _ low in absurd (omega (arith, a, b))
    by true high false low = refl
    by false high true low = refl
    by false high false low = let a = ltb-false _ _ high in let b = ltb-false _ _ low in absurd (differ (omega (arith, a, b)))
