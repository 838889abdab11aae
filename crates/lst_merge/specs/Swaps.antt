-- A page takes the place of another one.
use Rattle.std.specs.Prelude.{◌≡◌, ℕ, ◌+◌, List, [], ◌∷◌, true, slice_set}
use Rattle.lst_layout.specs.Addresses.{address}
use Rattle.lst_layout.specs.declared.place.Place.TheVariants.{EpochWord, DirectoryWord}
use Rattle.lst_layout.specs.Words.{shown}
use Rattle.lst_core_state.specs.declared.known.Known.{Known}
use Rattle.lst_core_state.specs.declared.pages.MergerFrames.{MergerFrames}
use Rattle.lst_core_state.specs.declared.pages.Retired.{Retired}
use Rattle.lst_pages.specs.Frames.{tps_in}
use Rattle.lst_pages.specs.Pages.{IsRightPage}
use Rattle.lst_pages.specs.declared.events.PageEvent.TheVariants.{Raise}
use Rattle.lst_pages.specs.Runs.{frame_known, page_known, tps_known}
use Rattle.lst_pages.specs.Settled.{settled_tails}
use Rattle.lst_pages.specs.Sound.{IsPage}
use Rattle.lst_rule.specs.declared.view.View.{View}
use Rattle.lst_rule.specs.Rule.{Allowed}
use Rattle.lst_rule.specs.Learned.{PageMade}
use Rattle.lst_rule.specs.PageSteps.{swapped, raised, StockIs, stock_of, Swapped}
use Rattle.lst_rule.specs.Stores.{Looked}

-- the epoch at which the last of these frames was retired, or 0 where there is none
abbrev pub latest_epoch : List Retired → ℕ
latest_epoch [] = 0
latest_epoch (r ∷ []) = r.epoch
latest_epoch (r ∷ q ∷ rs) = latest_epoch (q ∷ rs)

-- in each state that the view allows the directory word of the page is the frame, and the frame is a right page of the range and the column
pub record IsListedAs (v : View) (range column frame : ℕ) : Type 0 where
  pub named : (words : List ℕ) (known : ℕ → Known) (merger : Known) → Allowed v words known merger → (shown v.limits words).directory range column ≡ frame
  pub right : (words : List ℕ) (known : ℕ → Known) (merger : Known) → Allowed v words known merger → IsRightPage column (settled_tails v.limits (shown v.limits words) range) ((shown v.limits words).frames frame)
  -- with the TPS that the merger knows
  pub tps : (words : List ℕ) (known : ℕ → Known) (merger : Known) → Allowed v words known merger → tps_in ((shown v.limits words).frames frame) ≡ tps_known (stock_of v) range column

-- one more swap was made: the epoch is one higher, and the last of the retired frames is retired at it
pub record OneMore (m n : MergerFrames) : Type 0 where
  pub epoch : n.epoch ≡ m.epoch + 1
  pub rises : latest_epoch n.retired ≡ latest_epoch m.retired + 1
  pub latest : latest_epoch n.retired ≡ n.epoch

-- the merger loaded the directory word of the page, stored the frame there, and raised the epoch: the views after the first and the second
-- step. The frame that the page had is retired at the new epoch
pub record Swaps (v w : View) (range column frame : ℕ) : Type 0 where
  pub found : View
  pub stored : View
  pub look : Looked v found v.limits.sessions (DirectoryWord range column) (page_known (stock_of v) range column)
  pub swap : Swapped found stored range column
  pub raise : PageMade stored w Raise EpochWord ((stock_of v).epoch + 1)
  pub view : StockIs v w (raised (swapped v.limits (stock_of v) range column))
  -- the page has the TPS of the frame now
  pub tps : tps_known (stock_of w) range column ≡ tps_in (frame_known (stock_of v) frame)
  pub listed : IsListedAs w range column frame
  -- each other page has the TPS that it had
  pub others : (r c : ℕ) → IsPage v.limits r c → ((r ≡ range) × (c ≡ column) → ⊥) → tps_known (stock_of w) r c ≡ tps_known (stock_of v) r c
  pub once : OneMore (stock_of v) (stock_of w)
  -- where the view knows each word
  pub words : v.whole ≡ true → w.words ≡ slice_set (slice_set v.words (address v.limits (DirectoryWord range column)) frame) (address v.limits EpochWord) ((stock_of v).epoch + 1)
