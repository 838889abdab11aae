-- The executable core: a row of words, and the numbers of each session and of the merger.
use Rattle.std.specs.Prelude.{◌≡◌, ◌↔◌, Result, IsOk, IfOk, ℕ, ◌+◌, ◌≤◌, List, length, slice_index, slice_index_or, slice_set}
use Rattle.lst_layout.specs.declared.limits.Limits.{Limits}
use Rattle.lst_layout.specs.Areas.{words_of}
use Rattle.lst_layout.specs.Addresses.{address}
use Rattle.lst_layout.specs.Words.{shown, word_at}
use Rattle.lst_core_state.specs.declared.events.Event.{Event}
use Rattle.lst_core_state.specs.State as state
use Rattle.lst_core_state.specs.declared.known.Known.{Known}
use Rattle.lst_core_state.specs.State.{newcomer}
use Rattle.lst_core_state.specs.Step.{session_of, known_of, IsEnabled, after}
use Rattle.lst_core_state.specs.Sound.{Sound}
use Rattle.lst_core_state.specs.declared.numbers.Numbers.{Numbers}
use Rattle.lst_core.specs.declared.cores.NotEnabled.{NotEnabled}
use Rattle.lst_core_state.specs.Numbers.{numbers_of, place_for, written_of, numbers_after}

-- what a running core holds
pub record Cells : Type 0 where
  pub limits : Limits
  pub words : List ℕ
  pub numbers : List Numbers  -- by session, and last the merger's

abbrev pub number_at : Cells → ℕ → Numbers
number_at m s = slice_index_or m.numbers s (numbers_of (newcomer m.limits))

-- it holds this state: its words are the state's, and its numbers those of what each session knows
pub record Holds (m : Cells) (c : state.Core) : Type 0 where
  pub limits : c.limits ≡ m.limits
  pub words : c.words ≡ shown m.limits m.words
  pub numbers : (s : ℕ) → s ≤ m.limits.sessions → numbers_of (known_of c s) ≡ number_at m s

-- a state of some sessions' and the merger's knowledge
abbrev pub state_of : Cells → (ℕ → Known) → Known → state.Core
state_of m known merger = record { limits = m.limits; words = shown m.limits m.words; known = known; merger = merger }

-- the merger begins and latches nothing
pub record IsIdle (n : Numbers) : Type 0 where
  pub number : n.number ≡ 0
  pub latch : n.hold.latch ≡ 0

-- it holds some sound state
pub record IsCore (m : Cells) : Type 0 where
  pub wide : length m.words ≡ words_of m.limits
  pub all : length m.numbers ≡ m.limits.sessions + 1
  pub state : state.Core
  pub holds : Holds m state
  pub sound : Sound state
  pub idle : IsIdle (number_at m m.limits.sessions)

-- the word that an event finds, in a state
abbrev pub word_found : state.Core → Event → ℕ
word_found c e = word_at c.words (place_for c.limits (numbers_of (known_of c (session_of e))) e)

-- a step on the words and the numbers, where a stamp stores this time
abbrev pub stepped : Cells → ℕ → Event → Cells
stepped m time e = let n = number_at m (session_of e) in let a : ℕ = address m.limits (place_for m.limits n e) in record {
  limits = m.limits;
  words = slice_set m.words a (written_of m.limits n time e (slice_index m.words a));
  numbers = slice_set m.numbers (session_of e) (numbers_after m.limits e (slice_index m.words a) n);
}

-- what a step answers and leaves, from each sound state that is held
abbrev pub Steps : Cells → Cells → Event → Result ℕ NotEnabled → Type 0
Steps m m' e result = (c : state.Core) → Holds m c → Sound c → (IsOk result ↔ IsEnabled c e)
    × IfOk result (λ found. (found ≡ word_found c e) × Holds m' (after c e) × Sound (after c e))
