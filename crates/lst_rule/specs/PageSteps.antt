-- What the steps on pages tell, and the loads of words that pages are made of.
use Rattle.std.specs.Prelude.{◌≡◌, ℕ, ◌+◌, ◌<◌, [], ◌∷◌, ◌++◌, true, cond, Some, None, slice_index, slice_set}
use Rattle.lst_layout.specs.declared.limits.Limits.{Limits}
use Rattle.lst_layout.specs.declared.place.Place.TheVariants.{DirectoryWord, FrameWord, PinWord}
use Rattle.lst_core_state.specs.declared.known.Known.{Known}
use Rattle.lst_core_state.specs.declared.pages.PageInHand.{PageInHand}
use Rattle.lst_core_state.specs.declared.pages.SessionFrames.{SessionFrames}
use Rattle.lst_core_state.specs.declared.pages.MergerFrames.{MergerFrames}
use Rattle.lst_core_state.specs.State.{state_over}
use Rattle.lst_pages.specs.declared.events.PageEvent.TheVariants.{LookPage, LookPin, Swap}
use Rattle.lst_pages.specs.Lists.{rest, with_word_in}
use Rattle.lst_pages.specs.State.{hand_of, nobody_clear, empty_hand, oldest_epoch, retired_at, frame_in}
use Rattle.lst_pages.specs.Step.{lets_go}
use Rattle.lst_pages.specs.Runs.{IsReadable, frame_known, page_known}
use Rattle.lst_pages.specs.Known.{pages_in}
use Rattle.lst_rule.specs.declared.view.View.{View}
use Rattle.lst_rule.specs.Rule.{knows}
use Rattle.lst_rule.specs.Learned.{Learns, Kept, PageMade, PageMet}
use Rattle.lst_rule.specs.Stores.{Looked}

-- ---- what is known, with another part on pages

abbrev pub with_frames : Known → SessionFrames → Known
with_frames k frames = record k { pages = record k.pages { session = frames } }

abbrev pub with_stock : Known → MergerFrames → Known
with_stock k stock = record k { pages = record k.pages { stock = stock } }

-- ---- pins

-- once a pin was set at the epoch: no frame is in hand
abbrev pub pinned_at : Limits → Known → ℕ → Known
pinned_at l k epoch = record k { pages = record k.pages { pins = k.pages.pins + 1; session = record { pin = epoch + 1; hand = empty_hand l } } }

-- once it was taken away
abbrev pub unpinned : Limits → Known → Known
unpinned l k = with_frames k record { pin = 0; hand = empty_hand l }

-- ---- a page in hand

-- the session s took the page of the range r and the column c in hand, which has the frame f
pub record PageLooked (v w : View) (s r c f : ℕ) : Type 0 where
  pub met : PageMet v w (LookPage s r c) (DirectoryWord r c) f f
  pub page : PageInHand
  pub names : (page.range ≡ r) × (page.column ≡ c)
  pub view : Learns v w s (with_frames (knows v s) (record (knows v s).pages.session { hand = slice_set (knows v s).pages.session.hand f (Some page) }))
  pub in_hand : hand_of (knows w s).pages.session f ≡ Some page
  -- its words make a right page over the settled tails of the state that was met
  pub readable : IsReadable (pages_in (state_over v.limits met.made.told.words met.made.told.known met.made.told.merger)) f page
  pub kept : Kept v w

-- ---- what the merger learns

-- the pin word of the session s was found as x: it lets go of the oldest retired frame, or it holds it. Either is counted, by its session
abbrev pub pin_found : MergerFrames → ℕ → ℕ → MergerFrames
pin_found m s x = cond (lets_go x (oldest_epoch m.retired)) (record m { clear = slice_set m.clear s true; let_go = m.let_go ++ s ∷ [] }) (record m { held = m.held ++ s ∷ [] })

-- a word of the frame that is being built was stored
abbrev pub frame_stored : MergerFrames → ℕ → ℕ → ℕ → MergerFrames
frame_stored m f n x = record m { frames = with_word_in m.frames f n x; built = Some f }

-- the frame that was built has become that of a page: the one that the page had waits to be retired, and nobody is known to let go
abbrev pub swapped : Limits → MergerFrames → ℕ → ℕ → MergerFrames
swapped l m r c = record m { directory = with_word_in m.directory r c (frame_in m.built); retired = rest m.retired; clear = nobody_clear l; waiting = Some (page_known m r c); built = None }

-- the epoch was raised: the frame that waited is retired at it
abbrev pub raised : MergerFrames → MergerFrames
raised m = record m { epoch = m.epoch + 1; retired = m.retired ++ retired_at (frame_in m.waiting) (m.epoch + 1) ∷ []; waiting = None }

-- the merger alone learnt something: its stock is this now
abbrev pub StockIs : View → View → MergerFrames → Type 0
StockIs v w m = Learns v w v.limits.sessions (with_stock (knows v v.limits.sessions) m)

-- the merger's stock of frames, where the view hosts the merger
abbrev pub stock_of : View → MergerFrames
stock_of v = (knows v v.limits.sessions).pages.stock

-- the merger loaded the pin word of the session s, and found x
pub record PinLooked (v w : View) (s x : ℕ) : Type 0 where
  pub met : PageMet v w (LookPin s) (PinWord s) x x
  pub view : StockIs v w (pin_found (stock_of v) s x)
  pub kept : Kept v w

-- the merger stored the frame that was built into the directory word of the page of the range r and the column c
pub record Swapped (v w : View) (r c : ℕ) : Type 0 where
  pub made : PageMade v w (Swap r c) (DirectoryWord r c) (frame_in (stock_of v).built)
  pub view : StockIs v w (swapped v.limits (stock_of v) r c)

-- ---- loads of words of pages

-- a load of a word of the frame f, which found x: of a frame in hand of a session it is the word that was kept with it, and the merger
-- knows it of every frame
pub record FrameLoaded (v w : View) (s f n x : ℕ) : Type 0 where
  pub looked : Looked v w s (FrameWord f n) x
  pub in_hand : s < v.limits.sessions → (page : PageInHand) → hand_of (knows v s).pages.session f ≡ Some page → x ≡ slice_index page.words n
  pub own : s ≡ v.limits.sessions → x ≡ frame_known (knows v s).pages.stock f n
