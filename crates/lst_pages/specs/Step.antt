-- The kinds of step: where each may be made, the word that it is on, and what it changes.
use Rattle.std.specs.Prelude.{◌≡◌, ℕ, ◌+◌, ◌<◌, ◌≤◌, List, [], ◌∷◌, ◌++◌, Bool, true, cond, eqb, nat_lt, ◌||◌, Some, None, slice_set}
use Rattle.lst_layout.specs.declared.TheConstants.{FRAME_WORDS}
use Rattle.lst_layout.specs.declared.limits.Limits.{Limits}
use Rattle.lst_layout.specs.declared.place.Place.{Place}
use Rattle.lst_layout.specs.declared.place.Place.TheVariants.{EpochWord, DirectoryWord, FrameWord, PinWord}
use Rattle.lst_layout.specs.Addresses as addresses
use Rattle.lst_layout.specs.Functions.{put, put_in}
use Rattle.lst_layout.specs.Words.{Words}
use Rattle.lst_pages.specs.declared.tails.PageTail.{PageTail}
use Rattle.lst_pages.specs.Frames.{tps_in}
use Rattle.lst_pages.specs.Pages.{IsRightPage}
use Rattle.lst_pages.specs.declared.events.PageEvent.{PageEvent}
use Rattle.lst_pages.specs.declared.events.PageEvent.TheVariants.{Pin, Unpin, LookPage, LookPin, StoreFrame, Swap, Raise}
use Rattle.lst_core_state.specs.declared.pages.PageInHand.{PageInHand}
use Rattle.lst_core_state.specs.declared.pages.SessionFrames.{SessionFrames}
use Rattle.lst_core_state.specs.declared.pages.MergerFrames.{MergerFrames}
use Rattle.lst_pages.specs.Lists.{HasFirst, rest, listed, with_word_in}
use Rattle.lst_pages.specs.State.{Pages, is_clear, nobody_clear, empty_hand, oldest_epoch, retired_at, frame_in}

-- the word that a step is on
abbrev pub place_of : PageEvent → Place
place_of (Pin s e) = PinWord s
place_of (Unpin s) = PinWord s
place_of (LookPage s r c) = DirectoryWord r c
place_of (LookPin s) = PinWord s
place_of (StoreFrame f n x) = FrameWord f n
place_of (Swap r c) = DirectoryWord r c
place_of Raise = EpochWord

-- the fields of a step are within the limits
abbrev pub IsWithin : Limits → PageEvent → Type 0
IsWithin l (LookPage s r c) = (s < l.sessions) × addresses.IsWithin l (DirectoryWord r c)
IsWithin l e = addresses.IsWithin l (place_of e)

-- ---- where a step may be made

-- every session's pin was found not to hold the oldest retired frame
abbrev pub IsClear : Limits → MergerFrames → Type 0
IsClear l m = (s : ℕ) → s < l.sessions → is_clear m s ≡ true

-- the frame f may take the place of the page of range r and column c: it is right, and has more tails than the page has
pub record MaySwap (l : Limits) (w : Words) (ts : List PageTail) (r c f : ℕ) : Type 0 where
  pub right : IsRightPage c ts (w.frames f)
  pub more : tps_in (w.frames (w.directory r c)) < tps_in (w.frames f)
  pub few : tps_in (w.frames f) ≤ l.tails

abbrev pub Enabled : Pages → PageEvent → Type 0
Enabled p (Pin s e) = ((p.readers s).pin ≡ 0) × (e ≤ p.words.epoch)
Enabled p (Unpin s) = 0 < (p.readers s).pin
Enabled p (LookPage s r c) = 0 < (p.readers s).pin
Enabled p (LookPin s) = p.merger.waiting ≡ None
Enabled p (StoreFrame f n x) = HasFirst (λ oldest. oldest.frame ≡ f) p.merger.retired × IsClear p.limits p.merger
Enabled p (Swap r c) = (f : ℕ) × (p.merger.built ≡ Some f) × MaySwap p.limits p.words (p.tails r) r c f
Enabled p Raise = (f : ℕ) × (p.merger.waiting ≡ Some f)

-- ---- what a step changes

-- the words
abbrev pub words_after : Words → MergerFrames → PageEvent → Words
words_after w m (Pin s e) = record w { pins = put w.pins s (e + 1) }
words_after w m (Unpin s) = record w { pins = put w.pins s 0 }
words_after w m (LookPage s r c) = w
words_after w m (LookPin s) = w
words_after w m (StoreFrame f n x) = record w { frames = put_in w.frames f n x }
words_after w m (Swap r c) = record w { directory = put_in w.directory r c (frame_in m.built) }
words_after w m Raise = record w { epoch = m.epoch + 1 }

-- the page of a directory word, with the words of its frame
abbrev pub page_at : Words → ℕ → ℕ → PageInHand
page_at w r c = record { range = r; column = c; words = listed (w.frames (w.directory r c)) 0 FRAME_WORDS }

-- what a session knows after its step
abbrev pub with_page : Words → SessionFrames → ℕ → ℕ → SessionFrames
with_page w v r c = record v { hand = slice_set v.hand (w.directory r c) (Some (page_at w r c)) }

abbrev pub reader_after : Limits → Words → SessionFrames → PageEvent → SessionFrames
reader_after l w v (Pin s e) = record { pin = e + 1; hand = empty_hand l }
reader_after l w v (Unpin s) = record { pin = 0; hand = empty_hand l }
reader_after l w v (LookPage s r c) = with_page w v r c
reader_after l w v (LookPin s) = v
reader_after l w v (StoreFrame f n x) = v
reader_after l w v (Swap r c) = v
reader_after l w v Raise = v

abbrev pub readers_after : Limits → Words → (ℕ → SessionFrames) → PageEvent → ℕ → SessionFrames
readers_after l w vs (Pin s e) = put vs s (reader_after l w (vs s) (Pin s e))
readers_after l w vs (Unpin s) = put vs s (reader_after l w (vs s) (Unpin s))
readers_after l w vs (LookPage s r c) = put vs s (reader_after l w (vs s) (LookPage s r c))
readers_after l w vs (LookPin s) = vs
readers_after l w vs (StoreFrame f n x) = vs
readers_after l w vs (Swap r c) = vs
readers_after l w vs Raise = vs

-- a pin word does not hold a frame that was retired at epoch e: there is no pin, or its epoch is e or above
abbrev pub lets_go : ℕ → ℕ → Bool
lets_go pin e = eqb pin 0 || nat_lt e pin

-- what the merger knows after a step
abbrev pub merger_after : Limits → Words → MergerFrames → PageEvent → MergerFrames
merger_after l w m (Pin s e) = m
merger_after l w m (Unpin s) = m
merger_after l w m (LookPage s r c) = m
merger_after l w m (LookPin s) = cond (lets_go (w.pins s) (oldest_epoch m.retired)) (record m { clear = slice_set m.clear s true; let_go = m.let_go ++ s ∷ [] }) (record m { held = m.held ++ s ∷ [] })
merger_after l w m (StoreFrame f n x) = record m { frames = with_word_in m.frames f n x; built = Some f }
merger_after l w m (Swap r c) = record m { directory = with_word_in m.directory r c (frame_in m.built); retired = rest m.retired; clear = nobody_clear l; waiting = Some (w.directory r c); built = None }
merger_after l w m Raise = record m { epoch = m.epoch + 1; retired = m.retired ++ retired_at (frame_in m.waiting) (m.epoch + 1) ∷ []; waiting = None }

abbrev pub after : Pages → PageEvent → Pages
after p e = record {
  limits = p.limits;
  words = words_after p.words p.merger e;
  tails = p.tails;
  readers = readers_after p.limits p.words p.readers e;
  merger = merger_after p.limits p.words p.merger e;
}

-- a range has one more settled tail
abbrev pub settled : Pages → ℕ → PageTail → Pages
settled p r t = record p { tails = put p.tails r (p.tails r ++ t ∷ []) }
