-- The build of a page in a free frame.
use Rattle.std.specs.Prelude.{◌≡◌, ℕ, zero, suc, ◌<◌, List, true, Some, slice_set}
use Rattle.lst_layout.specs.declared.TheConstants.{FRAME_WORDS}
use Rattle.lst_layout.specs.declared.limits.Limits.{Limits}
use Rattle.lst_layout.specs.declared.place.Place.TheVariants.{FrameWord}
use Rattle.lst_layout.specs.Addresses.{address}
use Rattle.lst_layout.specs.Words.{shown}
use Rattle.lst_core_state.specs.declared.known.Known.{Known}
use Rattle.lst_core_state.specs.declared.pages.MergerFrames.{MergerFrames}
use Rattle.lst_core_state.specs.declared.pages.Retired.{Retired}
use Rattle.lst_pages.specs.Frames.{tps_in}
use Rattle.lst_pages.specs.Pages.{IsRightPage}
use Rattle.lst_pages.specs.declared.events.PageEvent.TheVariants.{StoreFrame}
use Rattle.lst_pages.specs.Lists.{HasFirst}
use Rattle.lst_pages.specs.Runs.{frame_known, IsSwapKnown, tps_known}
use Rattle.lst_pages.specs.Settled.{settled_tails}
use Rattle.lst_pages.specs.Sound.{IsPage}
use Rattle.lst_pages.specs.Step.{IsClear}
use Rattle.lst_rule.specs.declared.view.View.{View}
use Rattle.lst_rule.specs.Rule.{Allowed}
use Rattle.lst_rule.specs.Learned.{PageMade}
use Rattle.lst_rule.specs.PageSteps.{StockIs, stock_of, frame_stored}
use Rattle.lst_rule.specs.Spares.{AreSpares}
use Rattle.lst_merge.specs.Inspections.{Inspects}
use Rattle.lst_merge.specs.Pages.{AreAbsentZero}

-- the frame is the oldest retired one, and each session's pin was found not to hold it: words may be stored into it
abbrev pub IsFree : View → ℕ → Type 0
IsFree v frame = HasFirst (λ r. r.frame ≡ frame) (stock_of v).retired × IsClear v.limits (stock_of v)

-- ---- the stores

-- the merger's stock once the first n of these words were stored in the frame f
abbrev pub frames_stored : MergerFrames → ℕ → (ℕ → ℕ) → ℕ → MergerFrames
frames_stored m f page zero = m
frames_stored m f page (suc n) = frame_stored (frames_stored m f page n) f n (page n)

-- and the words of the store
abbrev pub words_stored : Limits → List ℕ → ℕ → (ℕ → ℕ) → ℕ → List ℕ
words_stored l words f page zero = words
words_stored l words f page (suc n) = slice_set (words_stored l words f page n) (address l (FrameWord f n)) (page n)

-- the merger stored the first n words of the frame f, one after another: the views between
pub record StoresFrame (v w : View) (f n : ℕ) (page : ℕ → ℕ) : Type 0 where
  pub between : ℕ → View
  pub first : between 0 ≡ v
  pub last : between n ≡ w
  pub each : (i : ℕ) → i < n → PageMade (between i) (between (suc i)) (StoreFrame f i (page i)) (FrameWord f i) (page i)
  pub view : StockIs v w (frames_stored (stock_of v) f page n)
  -- where the view knows each word
  pub words : v.whole ≡ true → w.words ≡ words_stored v.limits v.words f page n

-- ---- the page

-- in each state that the view allows, the frame being built is a right page of the range and the column, whose TPS is `end`
pub record IsBuilt (v : View) (range column frame end : ℕ) : Type 0 where
  pub built : (stock_of v).built ≡ Some frame
  pub tps : tps_in (frame_known (stock_of v) frame) ≡ end
  -- an absent record has the value 0
  pub zero : AreAbsentZero (frame_known (stock_of v) frame)
  pub right : (words : List ℕ) (known : ℕ → Known) (merger : Known) → Allowed v words known merger → IsRightPage column (settled_tails v.limits (shown v.limits words) range) (frame_known (stock_of v) frame)

-- the frame being built may take the place of the page of the range and the column
abbrev pub MayReplace : View → ℕ → ℕ → ℕ → Type 0
MayReplace v range column frame = (words : List ℕ) (known : ℕ → Known) (merger : Known) → Allowed v words known merger → IsSwapKnown v.limits (stock_of v) (settled_tails v.limits (shown v.limits words) range) range column frame

-- the merger looked at tails, and then built the page in the frame, word by word. Each page keeps its TPS
pub record Builds (v w : View) (range column frame end : ℕ) : Type 0 where
  pub between : View
  pub inspects : Inspects v between v.limits.sessions
  pub page : ℕ → ℕ
  pub stores : StoresFrame between w frame FRAME_WORDS page
  pub is : IsBuilt w range column frame end
  pub old : (r c : ℕ) → IsPage v.limits r c → tps_known (stock_of w) r c ≡ tps_known (stock_of v) r c
  -- the spares stay those of the merger, and so do the finds of pins that held a frame
  pub spares : (spares : List Retired) → AreSpares v spares → AreSpares w spares
  pub held : (stock_of w).held ≡ (stock_of v).held
