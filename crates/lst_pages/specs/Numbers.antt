-- The numbers of what the merger and a session know, and each step on them.
use Rattle.std.specs.Prelude.{◌≡◌, ◌≢◌, ℕ, ◌+◌, ◌<◌, ◌^◌, Option, Some, None}
use Rattle.lst_layout.specs.Words.{word_at, with_word}
use Rattle.lst_bits.specs.Numbers.{number_word}
use Rattle.lst_pages.specs.declared.events.PageEvent.{PageEvent}
use Rattle.lst_pages.specs.declared.events.PageEvent.TheVariants.{Pin, Unpin, LookPage, LookPin, StoreFrame, Swap, Raise}
use Rattle.lst_core_state.specs.declared.pages.MergerFrames.{MergerFrames}
use Rattle.lst_pages.specs.declared.numbers.MergerNumbers.{MergerNumbers}
use Rattle.lst_pages.specs.State.{Pages, frame_in}
use Rattle.lst_pages.specs.Step.{place_of, after}

abbrev pub numbers_of : MergerFrames → MergerNumbers
numbers_of m = record { epoch = m.epoch; built = m.built }

-- what a step makes of the word that it finds
abbrev pub written_of : MergerNumbers → PageEvent → ℕ → ℕ
written_of n (Pin s e) x = number_word (Some e)
written_of n (Unpin s) x = number_word None
written_of n (LookPage s r c) x = x
written_of n (LookPin s) x = x
written_of n (StoreFrame f i y) x = y
written_of n (Swap r c) x = frame_in n.built
written_of n Raise x = n.epoch + 1

abbrev pub numbers_after : MergerNumbers → PageEvent → MergerNumbers
numbers_after n (Pin s e) = n
numbers_after n (Unpin s) = n
numbers_after n (LookPage s r c) = n
numbers_after n (LookPin s) = n
numbers_after n (StoreFrame f i y) = record n { built = Some f }
numbers_after n (Swap r c) = record n { built = None }
numbers_after n Raise = record n { epoch = n.epoch + 1 }

abbrev pub pin_after_of : ℕ → PageEvent → ℕ
pin_after_of p (Pin s e) = e + 1
pin_after_of p (Unpin s) = 0
pin_after_of p (LookPage s r c) = p
pin_after_of p (LookPin s) = p
pin_after_of p (StoreFrame f i y) = p
pin_after_of p (Swap r c) = p
pin_after_of p Raise = p

-- what the step stores fits a word
abbrev pub IsPinnable : PageEvent → Type 0
IsPinnable (Pin s e) = e + 1 < 2 ^ 64
IsPinnable e = Unit {0}

abbrev pub IsWritable : MergerNumbers → PageEvent → Type 0
IsWritable n Raise = n.epoch + 1 < 2 ^ 64
IsWritable n e = IsPinnable e

-- the session whose step it is, where it is not the merger's
abbrev pub session_of : PageEvent → Option ℕ
session_of (Pin s e) = Some s
session_of (Unpin s) = Some s
session_of (LookPage s r c) = Some s
session_of (LookPin s) = None
session_of (StoreFrame f i y) = None
session_of (Swap r c) = None
session_of Raise = None

-- the step is made by its numbers and one word
pub record IsByNumbers (p : Pages) (e : PageEvent) : Type 0 where
  pub fits : IsWritable (numbers_of p.merger) e
  pub words : with_word p.words (place_of e) (written_of (numbers_of p.merger) e (word_at p.words (place_of e))) ≡ (after p e).words
  pub merger : numbers_of (after p e).merger ≡ numbers_after (numbers_of p.merger) e
  pub reader : (s : ℕ) → session_of e ≡ Some s → ((after p e).readers s).pin ≡ pin_after_of (p.readers s).pin e
  pub others : (s : ℕ) → session_of e ≢ Some s → (after p e).readers s ≡ p.readers s
