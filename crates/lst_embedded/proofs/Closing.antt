-- What the books of the bank come to: from what each session did, that of the whole history.
use Rattle.std.proofs.Common.{◌≡◌, ℕ, zero, suc, ◌+◌, ◌*◌, ◌<◌, List, [], ◌∷◌, length, take, sym, ap, ◌∙◌, subst, arith, ◌⊎◌, inl, inr}
use Rattle.std.specs.List.{AllByRecursion}
use Rattle.lst_model.specs.declared.commits.Commit.{Commit}
use Rattle.lst_model.specs.Soundness.{IsSound}
use Rattle.lst_core_state.specs.State.{commits_of}
use Rattle.lst_accounts.specs.Books.{AreEntries, IsEntry, paid_in, total, balances_at}
use Rattle.lst_accounts.proofs.Balancing.{each_sum_is_paid_in}
use Rattle.lst_embedded.specs.declared.audits.Audit.{Audit}
use Rattle.lst_embedded.specs.declared.bank.Books.{Books}
use Rattle.lst_embedded.specs.Deeds.{opening_balance, IsOpening, IsMove}
use Rattle.lst_embedded.specs.Doing.{IsRead}
use Rattle.lst_embedded.specs.Kept.{accounts, transfers, IsPaidInThen, IsKept}
use Rattle.lst_embedded.proofs.Adding.{of_each, added, over_all, counted, paid_of, paid_is, openings_pay, moves_pay_nothing, opening_entry, move_entry}

-- the commits of the four sessions: those of two tellers, of the banker and of the other auditor
pub record AreOurs (history : List Commit) : Type 0 where
  pub owned : AllByRecursion (λ (one : Commit). one.session < 4) history
  pub first : AllByRecursion (IsMove history) (commits_of 0 history)
  pub first_count : length (commits_of 0 history) ≡ 25
  pub second : AllByRecursion (IsMove history) (commits_of 1 history)
  pub second_count : length (commits_of 1 history) ≡ 25
  pub banker : AllByRecursion (IsOpening history) (commits_of 2 history)
  pub banker_count : length (commits_of 2 history) ≡ 8
  pub other : commits_of 3 history ≡ []

map_all : (P Q : Commit → Type 0) → ((one : Commit) → P one → Q one) → (commits : List Commit) → AllByRecursion P commits → AllByRecursion Q commits
map_all P Q f [] all = tt
map_all P Q f (one ∷ commits) all = (f one all.0, map_all P Q f commits all.1)

module _ (history : List Commit) (ours : AreOurs history) where
  abbrev Kind : Commit → Type 0
  Kind commit = IsOpening history commit ⊎ IsMove history commit

  kind_of : (s : ℕ) → s < 4 → AllByRecursion Kind (commits_of s history)
  kind_of zero low = map_all (IsMove history) Kind (λ one move. inr move) (commits_of 0 history) ours.first
  kind_of (suc zero) low = map_all (IsMove history) Kind (λ one move. inr move) (commits_of 1 history) ours.second
  kind_of (suc (suc zero)) low = map_all (IsOpening history) Kind (λ one opening. inl opening) (commits_of 2 history) ours.banker
  kind_of (suc (suc (suc zero))) low = subst (AllByRecursion Kind) (sym ours.other) tt
  kind_of (suc (suc (suc (suc s)))) low = absurd (omega (arith, low))

  pub kinds_are : AllByRecursion Kind history
  kinds_are = of_each Kind 4 history ours.owned kind_of

  entry : (commit : Commit) → Kind commit → IsEntry history commit
  entry commit (inl opening) = opening_entry history commit opening
  entry commit (inr move) = move_entry history commit move

  pub entries_are : AreEntries history history
  entries_are = map_all Kind (IsEntry history) entry history kinds_are

  pub count_is : length history ≡ accounts + transfers
  count_is =
      let all = over_all (λ commit. 1) 4 history ours.owned in
      let sum = counted history in
      let a = counted (commits_of 0 history) in let b = counted (commits_of 1 history) in let c = counted (commits_of 2 history) in let d = counted (commits_of 3 history) in
      let e = ours.first_count in let f = ours.second_count in let g = ours.banker_count in let h = ap length ours.other in
      omega (arith, all, sum, a, b, c, d, e, f, g, h)

  pub paid_all : paid_in history ≡ accounts * opening_balance
  paid_all =
      let all = over_all paid_of 4 history ours.owned in
      let sum = paid_is history in
      let a = moves_pay_nothing history (commits_of 0 history) ours.first in let b = moves_pay_nothing history (commits_of 1 history) ours.second in
      let c = openings_pay history (commits_of 2 history) ours.banker in let d = ap (added paid_of) ours.other in
      let g = ours.banker_count in
      omega (arith, all, sum, a, b, c, d, g)

  module _ (sound : IsSound history) where
    sums : ((time : ℕ) → balances_at history time ≡ paid_in (take time history)) × (total history ≡ paid_in history)
    sums = each_sum_is_paid_in history sound entries_are

    audits_are : (audits : List Audit) → AllByRecursion (IsRead history) audits → AllByRecursion (IsPaidInThen history) audits
    audits_are [] all = tt
    audits_are (audit ∷ audits) all = (record { early = all.0.early; is = all.0.is ∙ sums.0 audit.time }, audits_are audits all.1)

    pub is_kept : (books : Books) → books.history ≡ history → length books.audits.items ≡ 10 → AllByRecursion (IsRead history) books.audits.items → books.total ≡ total history → IsKept books
    is_kept books is ten audits table = kept is
      where
        kept : books.history ≡ history → IsKept books
        kept same = record {
          sound = subst IsSound (sym same) sound;
          entries = subst (λ (cs : List Commit). AreEntries cs cs) (sym same) entries_are;
          kinds = subst (λ (cs : List Commit). AllByRecursion (λ commit. IsOpening cs commit ⊎ IsMove cs commit) cs) (sym same) kinds_are;
          paid = ap paid_in same ∙ paid_all;
          count = ap length same ∙ count_is;
          audit_count = ten;
          audits = subst (λ (cs : List Commit). AllByRecursion (IsPaidInThen cs) books.audits.items) (sym same) (audits_are books.audits.items audits);
          table = table ∙ ap total (sym same);
          all = table ∙ (sums.1 ∙ paid_all);
        }
