-- Lists of steps and settlements, and what a sound state promises.
use Rattle.std.specs.Prelude.{◌≡◌, ℕ, ◌+◌, ◌-◌, ◌*◌, ◌<◌, ◌≤◌, ◌^◌, ◌↔◌, List, [], ◌∷◌, Some, None, false, length, slice_index}
use Rattle.lst_layout.specs.declared.TheConstants.{FRAME_WORDS}
use Rattle.lst_layout.specs.declared.limits.Limits.{Limits}
use Rattle.lst_layout.specs.Limits.{IsValid}
use Rattle.lst_layout.specs.Areas.{frame_count}
use Rattle.lst_layout.specs.Words.{Words}
use Rattle.lst_pages.specs.declared.tails.PageTail.{PageTail}
use Rattle.lst_pages.specs.Frames.{tps_in}
use Rattle.lst_pages.specs.Pages.{IsRightPage}
use Rattle.lst_pages.specs.declared.events.PageEvent.{PageEvent}
use Rattle.lst_pages.specs.declared.events.PageEvent.TheVariants.{LookPin, StoreFrame, Swap}
use Rattle.lst_core_state.specs.declared.pages.PageInHand.{PageInHand}
use Rattle.lst_core_state.specs.declared.pages.MergerFrames.{MergerFrames}
use Rattle.lst_pages.specs.Lists.{word_in}
use Rattle.lst_pages.specs.State.{Pages, hand_of, oldest_epoch, opening}
use Rattle.lst_pages.specs.Step.{IsWithin, Enabled, lets_go, after, settled}
use Rattle.lst_pages.specs.Sound.{IsPage, Outside, late, Sound}

-- a step, or a tail of a range that is settled
pub data Move : Type 0 where
  steps : PageEvent → Move
  settles : ℕ → PageTail → Move

abbrev pub MayMove : Pages → Move → Type 0
MayMove p (steps e) = IsWithin p.limits e × Enabled p e
MayMove p (settles r t) = Unit {0}

abbrev pub moved : Pages → Move → Pages
moved p (steps e) = after p e
moved p (settles r t) = settled p r t

-- each move of a list may be made where it comes
abbrev pub MayMoveAll : Pages → List Move → Type 0
MayMoveAll p [] = Unit {0}
MayMoveAll p (a ∷ moves) = MayMove p a × MayMoveAll (moved p a) moves

abbrev pub all_moved : Pages → List Move → Pages
all_moved p [] = p
all_moved p (a ∷ moves) = all_moved (moved p a) moves

-- every list of moves from the opening state leads to a sound one
abbrev pub EveryRunIsSound : Type 0
EveryRunIsSound = (l : Limits) → IsValid l → (moves : List Move) → MayMoveAll (opening l) moves → Sound (all_moved (opening l) moves)

-- the words of pages, frames and pins are the same
pub record SamePages (w v : Words) : Type 0 where
  pub epoch : w.epoch ≡ v.epoch
  pub directory : w.directory ≡ v.directory
  pub frames : w.frames ≡ v.frames
  pub pins : w.pins ≡ v.pins

-- whatever happens to other words, a sound state stays sound
abbrev pub OtherWordsAreFree : Type 0
OtherWordsAreFree = (p : Pages) → Sound p → (w : Words) → SamePages w p.words → Sound (record p { words = w })

-- ---- what a sound state promises

-- a page in hand is right, and its frame is one of the store's and holds the words that were found
pub record IsReadable (p : Pages) (f : ℕ) (page : PageInHand) : Type 0 where
  pub within : IsPage p.limits page.range page.column
  pub frame : f < frame_count p.limits
  pub right : IsRightPage page.column (p.tails page.range) (slice_index page.words)
  pub same : (n : ℕ) → n < FRAME_WORDS → p.words.frames f n ≡ slice_index page.words n

-- a directory word names a frame of the store that is a right page, of at most as many tails as a range may have
pub record IsListed (p : Pages) (r c : ℕ) : Type 0 where
  pub frame : p.words.directory r c < frame_count p.limits
  pub right : IsRightPage c (p.tails r) (p.words.frames (p.words.directory r c))
  pub few : tps_in (p.words.frames (p.words.directory r c)) ≤ p.limits.tails

-- a pin word is what its session knows, and 0 or one more than an epoch that is at most the epoch word
pub record IsPinWord (p : Pages) (s : ℕ) : Type 0 where
  pub known : p.words.pins s ≡ (p.readers s).pin
  pub low : p.words.pins s ≤ p.words.epoch + 1

pub record IsSafe (p : Pages) : Type 0 where
  -- what a session has in hand is readable
  pub in_hand : (s f : ℕ) (page : PageInHand) → s < p.limits.sessions → hand_of (p.readers s) f ≡ Some page → IsReadable p f page
  -- and the session is pinned
  pub pinned : (s f : ℕ) (page : PageInHand) → s < p.limits.sessions → hand_of (p.readers s) f ≡ Some page → 0 < p.words.pins s
  pub pins : (s : ℕ) → s < p.limits.sessions → IsPinWord p s
  -- no frame is stored into that a session has in hand
  pub unread : (f n x : ℕ) → Enabled p (StoreFrame f n x) → (s : ℕ) → s < p.limits.sessions → hand_of (p.readers s) f ≡ None
  -- nor one that a directory word names
  pub unlisted : (f n x : ℕ) → Enabled p (StoreFrame f n x) → (f < frame_count p.limits) × Outside p.limits p.words.directory f
  -- into the frame being built further words may be stored, and no frame waits to be retired
  pub built : (f n x : ℕ) → p.merger.built ≡ Some f → Enabled p (StoreFrame f n x) × (p.merger.waiting ≡ None)
  pub listed : (r c : ℕ) → IsPage p.limits r c → IsListed p r c
  -- no two pages have one frame
  pub apart : (r c q d : ℕ) → IsPage p.limits r c → IsPage p.limits q d → p.words.directory r c ≡ p.words.directory q d → (r ≡ q) × (c ≡ d)
  -- the retired frames and one that waits are as many as there are spare frames
  pub spare : length p.merger.retired + late p.merger.waiting ≡ p.limits.spare
  -- pins and the epoch fit their words
  pub few_swaps : p.words.epoch ≤ p.limits.ranges * (p.limits.columns * p.limits.tails)
  pub fits : p.words.epoch + 1 < 2 ^ 64
  -- a pin that holds the oldest retired frame is found only after as many swaps as there are spare frames
  pub swaps : (s : ℕ) → s < p.limits.sessions → Enabled p (LookPin s) → lets_go (p.words.pins s) (oldest_epoch p.merger.retired) ≡ false → p.limits.spare ≤ p.words.epoch
  -- while no frame waits, the retired ones above epoch 0 are the last swaps
  pub last : p.merger.waiting ≡ None → 0 < oldest_epoch p.merger.retired → oldest_epoch p.merger.retired + p.limits.spare ≡ p.words.epoch + 1
  -- so a pin holds the oldest of them exactly where as many swaps as there are spare frames came after its epoch
  pub holds : (pin : ℕ) → p.merger.waiting ≡ None → 0 < pin → (lets_go pin (oldest_epoch p.merger.retired) ≡ false) ↔ (pin - 1 + p.limits.spare ≤ p.words.epoch)

-- ---- what the merger knows of the words that it alone stores

-- the words of a frame, as the merger knows them
abbrev pub frame_known : MergerFrames → ℕ → ℕ → ℕ
frame_known m f = word_in m.frames f

-- the frame of a page
abbrev pub page_known : MergerFrames → ℕ → ℕ → ℕ
page_known m r c = word_in m.directory r c

-- its TPS: the number of the last tail that it has
abbrev pub tps_known : MergerFrames → ℕ → ℕ → ℕ
tps_known m r c = tps_in (frame_known m (page_known m r c))

-- by what it knows, the frame f may take the place of the page of range r and column c over the settled tails ts
pub record IsSwapKnown (l : Limits) (m : MergerFrames) (ts : List PageTail) (r c f : ℕ) : Type 0 where
  pub built : m.built ≡ Some f
  pub right : IsRightPage c ts (frame_known m f)
  pub more : tps_in (frame_known m (page_known m r c)) < tps_in (frame_known m f)
  pub few : tps_in (frame_known m f) ≤ l.tails

pub record IsKnown (p : Pages) : Type 0 where
  pub epoch : p.merger.epoch ≡ p.words.epoch
  pub directory : (r c : ℕ) → IsPage p.limits r c → page_known p.merger r c ≡ p.words.directory r c
  pub frames : (f n : ℕ) → f < frame_count p.limits → n < FRAME_WORDS → frame_known p.merger f n ≡ p.words.frames f n
  -- the page that a build reads, as the merger knows it, is the right page that the directory names
  pub old : (r c : ℕ) → IsPage p.limits r c → IsRightPage c (p.tails r) (frame_known p.merger (page_known p.merger r c))
      × ((n : ℕ) → n < FRAME_WORDS → frame_known p.merger (page_known p.merger r c) n ≡ p.words.frames (p.words.directory r c) n)
  -- a swap may be made exactly where the words that the merger knows say so, over the settled tails
  pub swap : (r c : ℕ) → IsPage p.limits r c → ((f : ℕ) × IsSwapKnown p.limits p.merger (p.tails r) r c f) ↔ Enabled p (Swap r c)
