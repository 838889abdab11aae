-- The number of rows and the sum of a table whose keys have balances.
use Rattle.std.proofs.Common.{◌≡◌, ℕ, zero, suc, ◌+◌, ◌<◌, Bool, true, false, cond, List, [], ◌∷◌, length, Some, None, refl, sym, ap, subst, ◌∙◌, arith, T, Less, Equal, Greater}
use Rattle.std.specs.Prelude.{sum, sum_by, slice_get, ◌==◌}
use Rattle.std.specs.Ordering.{nat_cmp, eq_by_cmp, is_lt}
use Rattle.std.specs.FinMap.{entries, get-entries, len-entries, entries_sorted, nat_cmp-IsAntisymmetric}
use Rattle.std.specs.FinMap.Entries.{find, below_all, is_sorted, same_entries}
use Rattle.std.specs.Cmp.{nat_cmp_total, eq_by_cmp_equiv, unsigned_tied}
use Rattle.std.proofs.lemmas.Bool.{lt-ltb, eq-eqb, ne_eqb, and_from}
use Rattle.std.proofs.lemmas.List.Sums.{sum_by-cons}
use Rattle.lst_model.specs.Cells.{Cell, number_at}
use Rattle.lst_model.specs.Tables.{Rows, row_of, sum_of, count_of}
use Rattle.lst_work.proofs.Balancing.{row_with, row_of_balance, row_at}

-- keys from one on, each with its balance
abbrev pub entries_from : ℕ → List ℕ → List (ℕ × List Cell)
entries_from k [] = []
entries_from k (b ∷ bs) = (k, row_with b) ∷ entries_from (k + 1) bs

below : (x k : ℕ) (bs : List ℕ) → x < k → below_all nat_cmp x (entries_from k bs) ≡ true
below x k [] low = refl
below x k (b ∷ bs) low = and_from (is_lt (nat_cmp x k)) (below_all nat_cmp x (entries_from (k + 1) bs)) (ap (λ (t : Bool). is_lt (cond t Less (cond (x == k) Equal Greater))) (lt-ltb x k low)) (below x (k + 1) bs (omega arith))

rising : (k : ℕ) (bs : List ℕ) → is_sorted nat_cmp (entries_from k bs) ≡ true
rising k [] = refl
rising k (b ∷ bs) = and_from (below_all nat_cmp k (entries_from (k + 1) bs)) (is_sorted nat_cmp (entries_from (k + 1) bs)) (below k (k + 1) bs (omega arith)) (rising (k + 1) bs)

tied : (k q : ℕ) → eq_by_cmp nat_cmp q k ≡ (k == q)
tied k q = (eq_by_cmp_equiv nat_cmp_total).symm q k ∙ unsigned_tied k q

apart : (q k : ℕ) → ¬ (k ≡ q) → eq_by_cmp nat_cmp q k ≡ false
apart q k other = tied k q ∙ ne_eqb k q other

find_low : (q k : ℕ) (bs : List ℕ) → q < k → find nat_cmp q (entries_from k bs) ≡ None
find_low q k [] low = refl
find_low q k (b ∷ bs) low = ap (λ (t : Bool). cond t (Some (row_with b)) (find nat_cmp q (entries_from (k + 1) bs))) (apart q k (λ (is : k ≡ q). absurd (omega arith))) ∙ find_low q (k + 1) bs (omega arith)

find_at : (i k : ℕ) (bs : List ℕ) → find nat_cmp (k + i) (entries_from k bs) ≡ row_of_balance (slice_get bs i)
find_at i k [] = refl
find_at zero k (b ∷ bs) = ap (λ (t : Bool). cond t (Some (row_with b)) (find nat_cmp (k + 0) (entries_from (k + 1) bs))) (tied k (k + 0) ∙ eq-eqb k (k + 0) (omega arith))
find_at (suc i) k (b ∷ bs) =
    ap (λ (t : Bool). cond t (Some (row_with b)) (find nat_cmp (k + suc i) (entries_from (k + 1) bs))) (apart (k + suc i) k (λ (is : k ≡ k + suc i). absurd (omega arith)))
    ∙ (ap (λ (q : ℕ). find nat_cmp q (entries_from (k + 1) bs)) (omega arith) ∙ find_at i (k + 1) bs)

find_row : (q : ℕ) (bs : List ℕ) → find nat_cmp q (entries_from 1 bs) ≡ row_at bs q
find_row zero bs = find_low 0 1 bs (omega arith)
find_row (suc i) bs = ap (λ (q : ℕ). find nat_cmp q (entries_from 1 bs)) (omega arith) ∙ find_at i 1 bs

long : (k : ℕ) (bs : List ℕ) → length (entries_from k bs) ≡ length bs
long k [] = refl
long k (b ∷ bs) = ap suc (long (k + 1) bs)

abbrev number : ℕ × List Cell → ℕ
number entry = number_at 0 entry.1

summed : (k : ℕ) (bs : List ℕ) → sum_by number (entries_from k bs) ≡ sum bs
summed k [] = refl
summed k (b ∷ bs) = sum_by-cons number (k, row_with b) (entries_from (k + 1) bs) ∙ (ap (λ (m : ℕ). b + m) (summed (k + 1) bs) ∙ sym (sum_by-cons (λ (x : ℕ). x) b bs))

module _ (table : Rows) (bs : List ℕ) (rows : (q : ℕ) → row_of table q ≡ row_at bs q) where
  listed : entries table ≡ entries_from 1 bs
  listed = same_entries nat_cmp nat_cmp_total nat_cmp-IsAntisymmetric (entries table) (entries_from 1 bs) (entries_sorted table) (subst T (sym (rising 1 bs)) tt)
      (λ q. sym (get-entries table q) ∙ (rows q ∙ sym (find_row q bs)))

  pub rows_counted : count_of table ≡ length bs
  rows_counted = len-entries table ∙ (ap length listed ∙ long 1 bs)

  pub rows_summed : sum_of table 0 ≡ sum bs
  rows_summed = ap (sum_by number) listed ∙ summed 1 bs
