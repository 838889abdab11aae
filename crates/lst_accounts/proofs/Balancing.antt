-- Why each sum of all balances is what was paid in.
use Rattle.std.proofs.Common.{◌≡◌, ◌≢◌, ℕ, zero, suc, ◌+◌, ◌≤◌, Bool, true, false, cond, List, [], ◌∷◌, ◌++◌, length, take, drop, refl, sym, ap, ◌∙◌, subst, arith, append-nil, append_assoc, length-append, ◌⊎◌, inl, inr}
use Rattle.std.proofs.lemmas.Bool.{ne_eqb, eq-eqb}
use Rattle.std.proofs.lemmas.List.{take-append-le, take-append-drop, length-take-le, take_all}
use Rattle.std.specs.Prelude.{Option, Some, None, nat_lt}
use Rattle.std.specs.FinMap.{get, get-empty, insert}
use Rattle.std.specs.Ordering.{nat_cmp}
use Rattle.lst_model.specs.declared.acts.Act.TheVariants.{Put}
use Rattle.lst_model.specs.declared.acts.Write.{Write}
use Rattle.lst_model.specs.declared.commits.Commit.{Commit}
use Rattle.lst_model.specs.Cells.{Cell, number_at}
use Rattle.lst_model.specs.Tables.{Rows, no_rows, row_of, sum_of, applied, all_applied, with_patch}
use Rattle.lst_model.specs.Histories.{replayed, table_at, acts_on, all_acts_on, row_from, row_after, joined}
use Rattle.lst_model.specs.Soundness.{Fits, Follows, IsSound}
use Rattle.lst_model.proofs.Folds.{get_replayed, get_table_at, get_applied, all_acts_on-append, acts_on-append}
use Rattle.lst_model.proofs.Joining.{joins}
use Rattle.lst_snapshots.proofs.Totals.{of_row, total-changed, total-no_rows}
use Rattle.lst_accounts.specs.declared.transfer.Transfer.{Transfer}
use Rattle.lst_accounts.specs.Books.{account, opening_of, setting_of, new_balance, Opens, Transfers, IsEntry, AreEntries, paid_by_act, paid_by, paid_in, EachSumIsPaidIn}

-- ---- what a commit saw of a key that it writes is so still at its time

module _ (front : List Commit) (commit : Commit) (follows : Follows front commit) (key : ℕ) (writes : acts_on key commit.writes ≡ [] → ⊥) where
  no_act : (before : List Commit) (earlier : Commit) (between : List Commit) → front ≡ before ++ earlier ∷ between → commit.begin ≤ length before → acts_on key earlier.writes ≡ []
  no_act before earlier between split late = either (follows.apart before earlier between split (omega (arith, late)) key)
    where
      either : (acts_on key earlier.writes ≡ []) ⊎ (acts_on key commit.writes ≡ []) → acts_on key earlier.writes ≡ []
      either (inl none) = none
      either (inr none) = absurd (writes none)

  none_since : (before later : List Commit) → front ≡ before ++ later → commit.begin ≤ length before → all_acts_on key later ≡ []
  none_since before [] split late = refl
  none_since before (earlier ∷ later) split late =
      let longer = length-append before (earlier ∷ []) in
      ap (λ acts. acts ++ all_acts_on key later) (no_act before earlier later split late)
      ∙ none_since (before ++ earlier ∷ []) later (split ∙ sym (append_assoc before (earlier ∷ []) later)) (omega (arith, longer, late))

  pub seen_still : get (replayed no_rows front) key ≡ get (table_at front commit.begin) key
  seen_still =
      let first = take commit.begin front in
      let later = drop commit.begin front in
      let parts : first ++ later ≡ front = take-append-drop commit.begin front in
      let long : length first ≡ commit.begin = length-take-le commit.begin front follows.begin in
      let none = none_since first later (sym parts) (omega (arith, long)) in
      get_replayed no_rows front key
      ∙ ap (λ row. row_from row (all_acts_on key front)) (get-empty nat_cmp key)
      ∙ ap (λ commits. row_from None (all_acts_on key commits)) (sym parts)
      ∙ ap (λ acts. row_from None acts) (all_acts_on-append key first later ∙ ap (λ acts. all_acts_on key first ++ acts) none ∙ append-nil (all_acts_on key first))
      ∙ sym (get_table_at front commit.begin key)

-- ---- one row more, and one row changed

abbrev balance_in : List Cell → ℕ
balance_in = number_at 0

added : (table : Rows) (key balance : ℕ) → get table key ≡ None → sum_of (insert table key (account balance)) 0 ≡ balance + sum_of table 0
added table key balance none =
    let one = total-changed balance_in table key (Some (account balance)) in
    let old : of_row balance_in (get table key) ≡ 0 = ap (of_row balance_in) none in
    let new : balance_in (account balance) ≡ balance = refl in
    omega (arith, one, old, new)

changed : (table : Rows) (key old balance : ℕ) → get table key ≡ Some (account old) → sum_of (insert table key (account balance)) 0 + old ≡ balance + sum_of table 0
changed table key old balance is =
    let one = total-changed balance_in table key (Some (account balance)) in
    let was : of_row balance_in (get table key) ≡ old = ap (of_row balance_in) is in
    let new : balance_in (account balance) ≡ balance = refl in
    omega (arith, one, was, new)

set_is : (table : Rows) (key old balance : ℕ) → get table key ≡ Some (account old) → applied table (setting_of key balance) ≡ insert table key (account balance)
set_is table key old balance is = ap (λ row. with_patch table key row (new_balance balance)) is

fits_put : (row : Option (List Cell)) (cells : List Cell) → Fits row (Put cells) → row ≡ None
fits_put None cells fits = refl
fits_put (Some old) cells fits = absurd fits

-- ---- one commit

module _ (table : Rows) where
  pub opened_sum : (key balance : ℕ) → get table key ≡ None → sum_of (all_applied table (opening_of key balance ∷ [])) 0 ≡ paid_by (opening_of key balance ∷ []) + sum_of table 0
  opened_sum key balance none = let one = added table key balance none in let paid : paid_by (opening_of key balance ∷ []) ≡ balance + 0 = refl in omega (arith, one, paid)

  paid_joined : (one other : Write) → paid_by (joined (one ∷ []) other) ≡ paid_by_act one.act + paid_by_act other.act
  paid_joined one other = either (nat_lt other.key one.key)
    where
      either : (b : Bool) → paid_by (cond b (other ∷ one ∷ []) (one ∷ other ∷ [])) ≡ paid_by_act one.act + paid_by_act other.act
      either true = omega arith
      either false = omega arith

  pub moved_sum : (from to payer payee payer_after payee_after amount : ℕ) → from ≢ to → get table from ≡ Some (account payer) → get table to ≡ Some (account payee)
      → payer_after + amount ≡ payer → payee_after ≡ payee + amount
      → sum_of (all_applied table (joined (setting_of from payer_after ∷ []) (setting_of to payee_after))) 0 ≡ paid_by (joined (setting_of from payer_after ∷ []) (setting_of to payee_after)) + sum_of table 0
  moved_sum from to payer payee payer_after payee_after amount differ one other taken given =
      let a = setting_of from payer_after in
      let b = setting_of to payee_after in
      let first : Rows = insert table from (account payer_after) in
      let is : all_applied table (joined (a ∷ []) b) ≡ applied first b = (joins (a ∷ []) b).table table (omega arith, tt) ∙ ap (λ t. applied t b) (set_is table from payer payer_after one) in
      let still : get first to ≡ Some (account payee) = ap (λ t. get t to) (sym (set_is table from payer payer_after one)) ∙ get_applied table a to ∙ ap (λ c. cond c (row_after (get table to) a.act) (get table to)) (ne_eqb from to differ) ∙ other in
      let sum : sum_of (all_applied table (joined (a ∷ []) b)) 0 ≡ sum_of (insert first to (account payee_after)) 0 = ap (λ t. sum_of t 0) (is ∙ set_is first to payee payee_after still) in
      let low = changed table from payer payer_after one in
      let high = changed first to payee payee_after still in
      let none : paid_by (joined (a ∷ []) b) ≡ 0 = paid_joined a b in
      omega (arith, sum, low, high, none, taken, given)

has_act : (key : ℕ) (write : Write) → write.key ≡ key → acts_on key (write ∷ []) ≡ [] → ⊥
has_act key write is none = not_nil write.act [] (sym (ap (λ b. cond b (write.act ∷ []) []) (eq-eqb write.key key is)) ∙ none)
  where
    not_nil : {A : Type 0} (x : A) (xs : List A) → x ∷ xs ≡ [] → ⊥
    not_nil x xs is = cc

-- both writes of a pair are acts on their keys
has_acts : (key : ℕ) (one other : Write) → (one.key ≡ key) ⊎ (other.key ≡ key) → acts_on key (joined (one ∷ []) other) ≡ [] → ⊥
has_acts key one other which none = by which (sym ((joins (one ∷ []) other).acts key (omega arith, tt) ∙ acts_on-append key (one ∷ []) (other ∷ [])) ∙ none)
  where
    left_nil : {A : Type 0} (xs ys : List A) → xs ++ ys ≡ [] → xs ≡ []
    left_nil [] ys is = refl
    left_nil (x ∷ xs) ys is = cc

    right_nil : {A : Type 0} (xs ys : List A) → xs ++ ys ≡ [] → ys ≡ []
    right_nil [] ys is = is
    right_nil (x ∷ xs) ys is = cc

    by : (one.key ≡ key) ⊎ (other.key ≡ key) → acts_on key (one ∷ []) ++ acts_on key (other ∷ []) ≡ [] → ⊥
    by (inl is) nil = has_act key one is (left_nil (acts_on key (one ∷ [])) (acts_on key (other ∷ [])) nil)
    by (inr is) nil = has_act key other is (right_nil (acts_on key (one ∷ [])) (acts_on key (other ∷ [])) nil)

-- ---- a commit of a sound history

module _ (history front : List Commit) (commit : Commit) (rest : List Commit) (split : history ≡ front ++ commit ∷ rest) (follows : Follows front commit) where
  abbrev table : Rows
  table = replayed no_rows front

  abbrev Sums : List Write → Type 0
  Sums writes = sum_of (all_applied table writes) 0 ≡ paid_by writes + sum_of table 0

  -- what the history has at the begin, the front has
  begun : table_at history commit.begin ≡ table_at front commit.begin
  begun = ap (replayed no_rows) (ap (take commit.begin) split ∙ take-append-le commit.begin front (commit ∷ rest) follows.begin)

  of_opening : Opens commit.writes → Sums commit.writes
  of_opening o =
      let write = opening_of o.key o.balance in
      let acts : acts_on o.key commit.writes ≡ [] → ⊥ = λ none. has_act o.key write refl (ap (acts_on o.key) (sym o.is) ∙ none) in
      let none : get (table_at front commit.begin) o.key ≡ None = fits_put (row_of (table_at front commit.begin) o.key) (account o.balance) (follows.fits [] write [] o.is) in
      subst Sums (sym o.is) (opened_sum table o.key o.balance (seen_still front commit follows o.key acts ∙ none))

  of_transfer : (transfer : Transfer) → Transfers (table_at history commit.begin) transfer commit.writes → Sums commit.writes
  of_transfer transfer t =
      let a = setting_of transfer.from t.payer_after in
      let b = setting_of transfer.to t.payee_after in
      let seen : (key : ℕ) → (acts_on key commit.writes ≡ [] → ⊥) → get table key ≡ get (table_at history commit.begin) key = λ key acts. seen_still front commit follows key acts ∙ ap (λ rows. get rows key) (sym begun) in
      let one = seen transfer.from (λ none. has_acts transfer.from a b (inl refl) (ap (acts_on transfer.from) (sym t.is) ∙ none)) ∙ t.payer_has in
      let other = seen transfer.to (λ none. has_acts transfer.to a b (inr refl) (ap (acts_on transfer.to) (sym t.is) ∙ none)) ∙ t.payee_has in
      subst Sums (sym t.is) (moved_sum table transfer.from transfer.to t.payer t.payee t.payer_after t.payee_after transfer.amount t.differ one other t.paid.taken t.paid.given)

  pub of_entry : IsEntry history commit → Sums commit.writes
  of_entry entry = either entry.is
    where
      either : Opens commit.writes ⊎ ((transfer : Transfer) × Transfers (table_at history commit.begin) transfer commit.writes) → Sums commit.writes
      either (inl o) = of_opening o
      either (inr t) = of_transfer t.0 t.1

-- ---- all commits

replayed-snoc : (start : Rows) (front : List Commit) (commit : Commit) → replayed start (front ++ commit ∷ []) ≡ all_applied (replayed start front) commit.writes
replayed-snoc start [] commit = refl
replayed-snoc start (first ∷ front) commit = replayed-snoc (all_applied start first.writes) front commit

paid_in-snoc : (front : List Commit) (commit : Commit) → paid_in (front ++ commit ∷ []) ≡ paid_in front + paid_by commit.writes
paid_in-snoc [] commit = omega arith
paid_in-snoc (first ∷ front) commit = let rest = paid_in-snoc front commit in omega (arith, rest)

module _ (history : List Commit) (sound : IsSound history) where
  abbrev IsPaidIn : List Commit → Type 0
  IsPaidIn front = sum_of (replayed no_rows front) 0 ≡ paid_in front

  one_more : (front : List Commit) (commit : Commit) (rest : List Commit) → history ≡ front ++ commit ∷ rest → IsEntry history commit → IsPaidIn front → IsPaidIn (front ++ commit ∷ [])
  one_more front commit rest split entry before =
      let now = of_entry history front commit rest split (sound front commit rest split) entry in
      let table = ap (λ rows. sum_of rows 0) (replayed-snoc no_rows front commit) in
      let paid = paid_in-snoc front commit in
      omega (arith, now, table, paid, before)

  from_here : (front rest : List Commit) → history ≡ front ++ rest → AreEntries history rest → IsPaidIn front → (time : ℕ) → IsPaidIn (front ++ take time rest)
  from_here front [] split entries before zero = subst IsPaidIn (sym (append-nil front)) before
  from_here front [] split entries before (suc time) = subst IsPaidIn (sym (append-nil front)) before
  from_here front (commit ∷ rest) split entries before zero = subst IsPaidIn (sym (append-nil front)) before
  from_here front (commit ∷ rest) split entries before (suc time) =
      subst IsPaidIn (append_assoc front (commit ∷ []) (take time rest))
      (from_here (front ++ commit ∷ []) rest (split ∙ sym (append_assoc front (commit ∷ []) rest)) entries.1 (one_more front commit rest split entries.0 before) time)

  none_paid : IsPaidIn []
  none_paid = total-no_rows balance_in

  pub each_time : AreEntries history history → (time : ℕ) → IsPaidIn (take time history)
  each_time entries time = from_here [] history refl entries none_paid time

pub each_sum_is_paid_in : EachSumIsPaidIn
each_sum_is_paid_in history sound entries = (each_time history sound entries, each_time history sound entries (length history) ∙ ap paid_in (take_all (length history) history (omega arith)))
