-- A row of words that is read as those of some sound state.
use Rattle.std.specs.Prelude.{◌≡◌, ◌⊎◌, ◌↔◌, ℕ, ◌<◌, ◌≤◌, ◌+◌, ◌-◌, ◌*◌, ◌^◌, List, length, Option, Some, None, Bool, IsTrue, not, eqb}
use Rattle.lst_layout.specs.declared.limits.Limits.{Limits}
use Rattle.lst_layout.specs.Areas.{words_of}
use Rattle.lst_layout.specs.Words.{Words, shown}
use Rattle.lst_core_state.specs.declared.known.Known.{Known}
use Rattle.lst_core_state.specs.State.{state_over, FitsAfter, act_in, line, state_at, record_in}
use Rattle.lst_core_state.specs.Step.{session_of, known_of, Stands, IsCommitted}
use Rattle.lst_core_state.specs.Cells.{record_count, tail_count, kind_of, mask_of, IsCell}
use Rattle.lst_core_state.specs.declared.events.Event.{Event}
use Rattle.lst_core_state.specs.declared.events.Event.TheVariants.{Stamp}
use Rattle.lst_core_state.specs.declared.known.Hold.{Hold}
use Rattle.lst_core_state.specs.Lists.{acts}
use Rattle.lst_core_state.specs.declared.numbers.Numbers.{Numbers}
use Rattle.lst_core_state.specs.Numbers.{numbers_of}
use Rattle.lst_core_state.specs.Sound.{Sound}

-- the words of a sound state
pub record IsRead (l : Limits) (words : List ℕ) : Type 0 where
  pub wide : length words ≡ words_of l
  pub known : ℕ → Known
  pub merger : Known
  pub sound : Sound record { limits = l; words = shown l words; known = known; merger = merger }

-- there is a row
abbrev pub IsPresent : {A : Type 0} → Option A → Type 0
IsPresent (Some x) = Unit {0}
IsPresent None = ⊥

-- the words of a sound state, in which the event's session knows these numbers
pub record IsTold (l : Limits) (words : List ℕ) (n : Numbers) (e : Event) : Type 0 where
  pub wide : length words ≡ words_of l
  pub known : ℕ → Known
  pub merger : Known
  pub sound : Sound (state_over l words known merger)
  pub numbers : numbers_of (known_of (state_over l words known merger) (session_of e)) ≡ n

-- the answer b says whether the words allow the step, in each such state
abbrev pub StandsIn : Limits → List ℕ → Numbers → Event → Bool → Type 0
StandsIn l words n e b = (known : ℕ → Known) (merger : Known) → Sound (state_over l words known merger) → numbers_of (known_of (state_over l words known merger) (session_of e)) ≡ n
    → IsTrue b ↔ Stands l (shown l words) (known_of (state_over l words known merger) (session_of e)) e

-- an encoding word has a kind, and a mask that fits it
abbrev pub IsKind : ℕ → ℕ → Type 0
IsKind columns e = ((kind_of e ≡ 1) × (mask_of e ≡ 2 ^ columns - 1)) ⊎ (((kind_of e ≡ 2) × (0 < mask_of e) × (mask_of e < 2 ^ columns)) ⊎ ((kind_of e ≡ 3) × (mask_of e ≡ 0)))

-- a tail is in hand
pub record IsHeld (l : Limits) (words : List ℕ) (h : Hold) : Type 0 where
  pub read : IsRead l words
  pub latch : 0 < h.latch
  pub record_low : h.latch ≤ record_count l
  pub tail : 0 < h.tail
  pub few : h.tail ≤ tail_count l

-- its words are those of a write on the latched record that fits the row there
abbrev pub IsWhole : Limits → List ℕ → Hold → Type 0
IsWhole l words h = let w = shown l words in IsCell l.columns (w.cells h.tail 1) (λ c. w.cells h.tail (3 + c)) × (record_in l w.cells h.tail ≡ h.latch - 1)
    × FitsAfter (acts (λ t. not (eqb (state_at w t) 1)) (act_in l w.cells) (line l w (h.latch - 1))) (act_in l w.cells h.tail)

-- a stamp is on the tail of a committed transaction
abbrev pub IsStampable : Words → Limits → Event → Type 0
IsStampable w l (Stamp s range n) = IsCommitted w (range * l.tails + n)
IsStampable w l e = Unit {0}
