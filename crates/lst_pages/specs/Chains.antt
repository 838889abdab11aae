-- The settled tails of a range by number, and a record's chain of tails beside them, newest first.
use Rattle.std.specs.Prelude.{◌≡◌, ℕ, suc, ◌<◌, ◌≤◌, List, [], ◌∷◌, ◌++◌, Bool, true, false, ◌&&◌, None, length, take}
use Rattle.lst_model.specs.Histories.{row_from}
use Rattle.lst_model.specs.Soundness.{FitInTurn}
use Rattle.lst_core_state.specs.Lists.{Has, Links, acts}
use Rattle.lst_pages.specs.declared.tails.PageTail.{PageTail}
use Rattle.lst_pages.specs.declared.entries.Entry.{Entry}
use Rattle.lst_pages.specs.Tails.{is_on, touches}
use Rattle.lst_pages.specs.Entries.{blank, folded}
use Rattle.lst_pages.specs.Rows.{act_of, column_of}

-- ts are the tails after number n: a t is tail t
abbrev pub Told : (ℕ → PageTail) → ℕ → List PageTail → Type 0
Told a n [] = Unit {0}
Told a n (t ∷ ts) = (t ≡ a (suc n)) × Told a (suc n) ts

-- a reader that began at time b has walked a record's chain, passing the tails of above, down to tail n, which is at most the
-- TPS p of a page of column c over the settled tails ts; rest is the chain from n on, and the record is at slot i
pub record IsWalked (c i b p n : ℕ) (back : ℕ → ℕ) (a : ℕ → PageTail) (is_visible : ℕ → Bool) (ts : List PageTail) (above rest : List ℕ) : Type 0 where
  -- the first p of ts are the tails 1 to p
  pub told : Told a 0 (take p ts)
  pub settled : p ≤ length ts
  pub links : Links back n rest
  pub low : n ≤ p
  -- the last tail up to p that is committed and touches the column is on the chain, if it is committed by the begin
  pub has : (t : ℕ) → 0 < t → t ≤ p → touches c i (a t) ≡ true → (a t).time ≤ b → ((u : ℕ) → t < u → u ≤ p → touches c i (a u) ≡ false) → Has t rest
  -- below, what is committed by the begin is visible, and what is visible is committed
  pub until : (t : ℕ) → Has t rest → 0 < (a t).time → (a t).time ≤ b → is_visible t ≡ true
  pub only : (t : ℕ) → Has t rest → is_visible t ≡ true → 0 < (a t).time
  -- nothing visible above touches the column
  pub passed : (t : ℕ) → Has t above → (is_visible t && is_on c i (a t)) ≡ false

-- the entry of the record in a page at TPS p
abbrev pub entry_at : ℕ → ℕ → ℕ → List PageTail → Entry
entry_at c i p ts = folded (touches c i) c blank (take p ts)

-- where the entry's time is at most the begin, it is the fold of the record's visible tails
abbrev pub EntryIsSeen : Type 0
EntryIsSeen = (c i b p n : ℕ) (back : ℕ → ℕ) (a : ℕ → PageTail) (is_visible : ℕ → Bool) (ts : List PageTail) (above rest : List ℕ) → IsWalked c i b p n back a is_visible ts above rest
    → (entry_at c i p ts).time ≤ b → folded (λ t. true) c blank (acts (λ t. is_visible t && is_on c i (a t)) a (above ++ rest)) ≡ entry_at c i p ts

-- and so it is the column of the row that the visible tails make, where each of them fits those below it
abbrev pub EntryIsAnswer : Type 0
EntryIsAnswer = (c i b p n : ℕ) (back : ℕ → ℕ) (a : ℕ → PageTail) (is_visible : ℕ → Bool) (ts : List PageTail) (above rest : List ℕ) → IsWalked c i b p n back a is_visible ts above rest
    → (entry_at c i p ts).time ≤ b
    → (columns : ℕ) → c < columns → ((t : ℕ) → Has t (above ++ rest) → ((a t).slot ≡ i) × (length (a t).values ≡ columns))
    → FitInTurn None (acts is_visible (λ t. act_of (a t)) (above ++ rest))
    → (entry_at c i p ts).cell ≡ column_of c (row_from None (acts is_visible (λ t. act_of (a t)) (above ++ rest)))
