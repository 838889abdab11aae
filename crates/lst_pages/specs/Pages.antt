-- A right page.
use Rattle.std.specs.Prelude.{ℕ, ◌≤◌, List, length, take}
use Rattle.lst_pages.specs.declared.tails.PageTail.{PageTail}
use Rattle.lst_pages.specs.Tails.{touches}
use Rattle.lst_pages.specs.Entries.{blank, folded}
use Rattle.lst_pages.specs.Frames.{tps_in, HasEntries}

-- the words of a page of column c, over the settled tails ts of its range, oldest first: all tails up to the page's TPS are
-- settled, and each record's entry is the fold of its committed tails up to there that touch the column
pub record IsRightPage (c : ℕ) (ts : List PageTail) (words : ℕ → ℕ) : Type 0 where
  pub settled : tps_in words ≤ length ts
  pub entries : HasEntries words (λ i. folded (touches c i) c blank (take (tps_in words) ts))
