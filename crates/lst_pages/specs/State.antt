-- A state: the words of the store, the settled tails of each range, and what the sessions and the merger know.
use Rattle.std.specs.Prelude.{ℕ, List, [], ◌∷◌, Bool, false, Option, Some, None, slice_index_or}
use Rattle.lst_layout.specs.declared.limits.Limits.{Limits}
use Rattle.lst_layout.specs.Words as store
use Rattle.lst_layout.specs.Words.{Words}
use Rattle.lst_pages.specs.declared.tails.PageTail.{PageTail}
use Rattle.lst_core_state.specs.declared.pages.Retired.{Retired}
use Rattle.lst_core_state.specs.declared.pages.PageInHand.{PageInHand}
use Rattle.lst_core_state.specs.declared.pages.SessionFrames.{SessionFrames}
use Rattle.lst_core_state.specs.declared.pages.MergerFrames.{MergerFrames}
pub use Rattle.lst_core_state.specs.Pages.{empty_hand, nobody_clear, retired_at, spares, opening_directory, opening_reader, opening_merger}

-- tails by range, oldest first; readers by session
pub record Pages : Type 0 where
  pub limits : Limits
  pub words : Words
  pub tails : ℕ → List PageTail
  pub readers : ℕ → SessionFrames
  pub merger : MergerFrames

-- the page that a session took a frame in hand as, if the frame is in hand
abbrev pub hand_of : SessionFrames → ℕ → Option PageInHand
hand_of v f = slice_index_or v.hand f None

-- the session's pin was found not to hold the oldest retired frame
abbrev pub is_clear : MergerFrames → ℕ → Bool
is_clear m s = slice_index_or m.clear s false

-- the epoch at which the oldest retired frame was retired
abbrev pub oldest_epoch : List Retired → ℕ
oldest_epoch [] = 0
oldest_epoch (r ∷ rs) = r.epoch

-- a frame, where there is one
abbrev pub frame_in : Option ℕ → ℕ
frame_in None = 0
frame_in (Some f) = f

-- each page has the frame of its number, and no tail is settled
abbrev pub opening : Limits → Pages
opening l = record { limits = l; words = store.opening l; tails = λ r. []; readers = λ s. opening_reader l; merger = opening_merger l }
