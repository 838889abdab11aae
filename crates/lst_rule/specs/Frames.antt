-- All words of a frame, loaded or stored by one call.
use Rattle.std.specs.Prelude.{◌≡◌, ℕ, ◌+◌, ◌<◌, Some, slice_index}
use Rattle.lst_layout.specs.declared.place.Place.TheVariants.{FrameWord}
use Rattle.lst_core_state.specs.declared.pages.PageInHand.{PageInHand}
use Rattle.lst_pages.specs.declared.events.PageEvent.TheVariants.{StoreFrame}
use Rattle.lst_pages.specs.State.{hand_of}
use Rattle.lst_pages.specs.Runs.{frame_known}
use Rattle.lst_rule.specs.declared.view.View.{View}
use Rattle.lst_rule.specs.Rule.{knows}
use Rattle.lst_rule.specs.Learned.{Learns, Kept, PageMade}
use Rattle.lst_rule.specs.PageSteps.{StockIs, stock_of, frame_stored, FrameLoaded}

-- the session s loaded the first n words of the frame f, one after another, and found these: the views between
pub record LoadsFrame (v w : View) (s f n : ℕ) (found : ℕ → ℕ) : Type 0 where
  pub between : ℕ → View
  pub first : between 0 ≡ v
  pub last : between n ≡ w
  pub each : (i : ℕ) → i < n → FrameLoaded (between i) (between (i + 1)) s f i (found i)

-- the first n words of the frame f were found to be these: they are those that were kept with the frame, where it is in hand of a session,
-- and the merger knows them of every frame. Nothing was learnt
pub record FrameFound (v w : View) (s f n : ℕ) (found : ℕ → ℕ) : Type 0 where
  pub view : Learns v w s (knows v s)
  pub kept : Kept v w
  pub in_hand : s < v.limits.sessions → (page : PageInHand) → hand_of (knows v s).pages.session f ≡ Some page → (i : ℕ) → i < n → found i ≡ slice_index page.words i
  pub own : s ≡ v.limits.sessions → (i : ℕ) → i < n → found i ≡ frame_known (knows v s).pages.stock f i

-- the merger stored x as the word n of the frame f
pub record FrameStored (v w : View) (f n x : ℕ) : Type 0 where
  pub view : StockIs v w (frame_stored (stock_of v) f n x)
  pub made : PageMade v w (StoreFrame f n x) (FrameWord f n) x

-- the merger stored the first n words of the frame f, one after another: the views between
pub record StoresWords (v w : View) (f n : ℕ) (page : ℕ → ℕ) : Type 0 where
  pub between : ℕ → View
  pub first : between 0 ≡ v
  pub last : between n ≡ w
  pub each : (i : ℕ) → i < n → FrameStored (between i) (between (i + 1)) f i (page i)
