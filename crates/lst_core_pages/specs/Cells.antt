-- What the page core keeps, and the state that it tells.
use Rattle.std.specs.Prelude.{◌≡◌, ℕ, ◌+◌, ◌<◌, ◌≤◌, ◌^◌, suc, List, [], ◌∷◌, ◌++◌, Bool, true, false, cond, Option, Some, None, length, replicate, slice_index, slice_index_or, slice_set}
use Rattle.lst_layout.specs.declared.TheConstants.{FRAME_WORDS}
use Rattle.lst_layout.specs.declared.limits.Limits.{Limits}
use Rattle.lst_layout.specs.Addresses.{address}
use Rattle.lst_layout.specs.Areas.{page_count, frame_count, words_of, directory_start}
use Rattle.lst_layout.specs.Words.{Words, shown}
use Rattle.lst_pages.specs.declared.tails.PageTail.{PageTail}
use Rattle.lst_pages.specs.declared.events.PageEvent.{PageEvent}
use Rattle.lst_pages.specs.declared.events.PageEvent.TheVariants.{Pin, Unpin, LookPage, LookPin, StoreFrame, Swap, Raise}
use Rattle.lst_core_state.specs.declared.pages.PageInHand.{PageInHand}
use Rattle.lst_core_state.specs.declared.pages.SessionFrames.{SessionFrames}
use Rattle.lst_core_state.specs.declared.pages.Retired.{Retired}
use Rattle.lst_core_state.specs.declared.pages.MergerFrames.{MergerFrames}
use Rattle.lst_core_pages.specs.declared.hands.PageId.{PageId}
use Rattle.lst_pages.specs.declared.numbers.MergerNumbers.{MergerNumbers}
use Rattle.lst_pages.specs.Lists.{rest, listed, rows_of}
use Rattle.lst_pages.specs.State.{Pages, empty_hand, nobody_clear, oldest_epoch, retired_at, spares, frame_in}
use Rattle.lst_pages.specs.Step.{lets_go, place_of}
use Rattle.lst_pages.specs.Numbers.{written_of}
use Rattle.lst_pages.specs.Sound.{Sound}

-- the retired frames, oldest first, and how far the oldest is on its way to be used again
pub record Queue : Type 0 where
  pub retired : List Retired
  pub clear : List Bool
  pub waiting : Option ℕ
  pub built : Option ℕ

-- all words in a row, the pages in hand by session and frame, the settled tails by range
pub record Cells : Type 0 where
  pub limits : Limits
  pub row : List ℕ
  pub hands : List (List (Option PageId))
  pub tails : List (List PageTail)
  pub queue : Queue

-- the frames that no page has are retired
abbrev pub opening_queue : Limits → Queue
opening_queue l = record { retired = spares (page_count l) l.spare; clear = nobody_clear l; waiting = None; built = None }

-- ---- the state that cells tell

abbrev pub page_of : (ℕ → ℕ → ℕ) → ℕ → Option PageId → Option PageInHand
page_of frames f None = None
page_of frames f (Some page) = Some (record { range = page.range; column = page.column; words = listed (frames f) 0 FRAME_WORDS })

-- the pages in hand with the words of their frames, from the frame f on
abbrev pub filled : (ℕ → ℕ → ℕ) → ℕ → List (Option PageId) → List (Option PageInHand)
filled frames f [] = []
filled frames f (x ∷ xs) = page_of frames f x ∷ filled frames (suc f) xs

abbrev pub hand_at : Limits → List (List (Option PageId)) → ℕ → List (Option PageId)
hand_at l hands s = slice_index_or hands s (empty_hand l)

abbrev pub reader_of : Limits → Words → List (List (Option PageId)) → ℕ → SessionFrames
reader_of l w hands s = record { pin = w.pins s; hand = filled w.frames 0 (hand_at l hands s) }

-- the finds are left out
abbrev pub merger_of : Limits → Words → Queue → MergerFrames
merger_of l w q = record {
  epoch = w.epoch;
  directory = rows_of w.directory l.ranges l.columns;
  frames = rows_of w.frames (frame_count l) FRAME_WORDS;
  retired = q.retired;
  clear = q.clear;
  waiting = q.waiting;
  built = q.built;
  held = [];
  let_go = [];
}

abbrev pub state_of : Limits → Words → List (List (Option PageId)) → List (List PageTail) → Queue → Pages
state_of l w hands tails q = record { limits = l; words = w; tails = λ r. slice_index_or tails r []; readers = reader_of l w hands; merger = merger_of l w q }

abbrev pub pages_of : Cells → Pages
pages_of c = state_of c.limits (shown c.limits c.row) c.hands c.tails c.queue

-- a state but for the merger's finds, which cells do not keep
abbrev pub unheld : Pages → Pages
unheld p = record p { merger = record p.merger { held = []; let_go = [] } }

pub record IsCore (c : Cells) : Type 0 where
  pub wide : length c.row ≡ words_of c.limits
  pub each_session : length c.hands ≡ c.limits.sessions
  pub each_range : length c.tails ≡ c.limits.ranges
  pub sound : Sound (pages_of c)

-- ---- a step on cells

abbrev pub page_id : ℕ → ℕ → PageId
page_id r c = record { range = r; column = c }

abbrev pub found_in : Cells → PageEvent → ℕ
found_in c e = slice_index c.row (address c.limits (place_of e))

abbrev pub numbers_in : Cells → MergerNumbers
numbers_in c = record { epoch = (shown c.limits c.row).epoch; built = c.queue.built }

-- the pages in hand, where the step found the word x
abbrev pub hand_in : List (List (Option PageId)) → ℕ → List (Option PageId)
hand_in hands s = slice_index_or hands s []

abbrev pub hands_after : List (List (Option PageId)) → PageEvent → ℕ → List (List (Option PageId))
hands_after hands (Pin s e) x = hands
hands_after hands (Unpin s) x = slice_set hands s (replicate (length (hand_in hands s)) None)
hands_after hands (LookPage s r c) x = slice_set hands s (slice_set (hand_in hands s) x (Some (page_id r c)))
hands_after hands (LookPin s) x = hands
hands_after hands (StoreFrame f n y) x = hands
hands_after hands (Swap r c) x = hands
hands_after hands Raise x = hands

-- the hand that the step changes is there, and has the frame
abbrev pub HandsFit : List (List (Option PageId)) → PageEvent → ℕ → Type 0
HandsFit hands (Unpin s) x = s < length hands
HandsFit hands (LookPage s r c) x = (s < length hands) × (x < length (hand_in hands s))
HandsFit hands e x = Unit {0}

abbrev pub queue_after : Queue → PageEvent → ℕ → Queue
queue_after q (Pin s e) x = q
queue_after q (Unpin s) x = q
queue_after q (LookPage s r c) x = q
queue_after q (LookPin s) x = cond (lets_go x (oldest_epoch q.retired)) (record q { clear = slice_set q.clear s true }) q
queue_after q (StoreFrame f n y) x = record q { built = Some f }
queue_after q (Swap r c) x = record { retired = rest q.retired; clear = replicate (length q.clear) false; waiting = Some x; built = None }
queue_after q Raise x = record q { retired = q.retired ++ retired_at (frame_in q.waiting) (x + 1) ∷ []; waiting = None }

-- what the step puts into the queue fits there
abbrev pub QueueFits : Queue → PageEvent → ℕ → Type 0
QueueFits q (LookPin s) x = s < length q.clear
QueueFits q (Swap r c) x = (0 < length q.retired) × (x < 2 ^ 32)
QueueFits q Raise x = (length q.retired < 64) × (x + 1 < 2 ^ 64)
QueueFits q e x = Unit {0}

abbrev pub stepped : Cells → PageEvent → Cells
stepped c e = record {
  limits = c.limits;
  row = slice_set c.row (address c.limits (place_of e)) (written_of (numbers_in c) e (found_in c e));
  hands = hands_after c.hands e (found_in c e);
  tails = c.tails;
  queue = queue_after c.queue e (found_in c e);
}

abbrev pub settled_in : Cells → ℕ → PageTail → Cells
settled_in c r t = record c { tails = slice_set c.tails r (slice_index_or c.tails r [] ++ t ∷ []) }
