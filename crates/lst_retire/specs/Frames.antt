-- The looks at pins by which the oldest retired frame is found free, or held.
use Rattle.std.specs.Prelude.{◌≡◌, ℕ, zero, suc, ◌<◌, ◌≤◌, List, [], ◌∷◌, ◌++◌, Bool, true, false, slice_set}
use Rattle.lst_layout.specs.declared.TheConstants.{FRAME_WORDS}
use Rattle.lst_layout.specs.Words.{shown}
use Rattle.lst_core_state.specs.declared.known.Known.{Known}
use Rattle.lst_core_state.specs.declared.pages.MergerFrames.{MergerFrames}
use Rattle.lst_pages.specs.declared.events.PageEvent.TheVariants.{StoreFrame}
use Rattle.lst_pages.specs.Known.{PageEnabled, IsHeld}
use Rattle.lst_pages.specs.Lists.{Every, HasFirst}
use Rattle.lst_pages.specs.State.{oldest_epoch}
use Rattle.lst_pages.specs.Step.{IsClear, IsWithin, lets_go}
use Rattle.lst_rule.specs.declared.view.View.{View}
use Rattle.lst_rule.specs.Rule.{knows, hosts, Allowed}
use Rattle.lst_rule.specs.Learned.{Kept}
use Rattle.lst_rule.specs.PageSteps.{StockIs, stock_of, pin_found, PinLooked}
use Rattle.lst_rule.specs.Spares.{IsUnused}

-- ---- looks at pins

-- the stock after looks at the pins of the sessions below n, one after another, which were found to be these
abbrev pub pins_found : MergerFrames → (ℕ → ℕ) → ℕ → MergerFrames
pins_found m found zero = m
pins_found m found (suc n) = pin_found (pins_found m found n) n (found n)

-- the merger has looked at the pins of the sessions below n, one after another, and found these: the views between
pub record LooksAtPins (v w : View) (n : ℕ) (found : ℕ → ℕ) : Type 0 where
  pub between : ℕ → View
  pub first : between 0 ≡ v
  pub last : between n ≡ w
  pub each : (s : ℕ) → s < n → PinLooked (between s) (between (suc s)) s (found s)
  pub view : StockIs v w (pins_found (stock_of v) found n)
  pub kept : Kept v w
  -- of a session that the view hosts it is the pin that it knows
  pub own : (s : ℕ) → s < n → hosts v s ≡ true → found s ≡ (knows v s).pages.session.pin

-- each of the first n pins lets go of a frame that was retired at this epoch
abbrev pub AllLetGo : (ℕ → ℕ) → ℕ → ℕ → Type 0
AllLetGo found epoch n = (s : ℕ) → s < n → lets_go (found s) epoch ≡ true

-- the pins of the sessions below n were looked at, and each lets go of a frame that was retired at this epoch
pub record NoPinHolds (v w : View) (epoch n : ℕ) : Type 0 where
  pub found : ℕ → ℕ
  pub looks : LooksAtPins v w n found
  pub free : AllLetGo found epoch n

-- the pins of the sessions up to s were looked at, and that of s is the first that holds a frame that was retired at this epoch
pub record FirstPinHolds (v w : View) (epoch s : ℕ) : Type 0 where
  pub low : s < v.limits.sessions
  pub found : ℕ → ℕ
  pub looks : LooksAtPins v w (suc s) found
  pub free : AllLetGo found epoch s
  pub holds : lets_go (found s) epoch ≡ false
  -- it is set, and at an epoch below: a pin word is its epoch plus one
  pub pinned : 0 < found s
  pub below : found s ≤ epoch

-- ---- the oldest retired frame, free or held

-- the sessions below n are marked as clear
abbrev pub with_clear : List Bool → ℕ → List Bool
with_clear clear zero = clear
with_clear clear (suc n) = slice_set (with_clear clear n) n true

abbrev pub sessions_below : ℕ → List ℕ
sessions_below zero = []
sessions_below (suc n) = sessions_below n ++ n ∷ []

-- the stock once the pins of the sessions below n were found, one after another, to let go of the oldest retired frame
abbrev pub let_go_by : MergerFrames → ℕ → MergerFrames
let_go_by m n = record m { clear = with_clear m.clear n; let_go = m.let_go ++ sessions_below n }

-- the merger has looked at each session's pin, and each lets go of the oldest retired frame, which is this one: words may be stored into it
pub record FindsFree (v w : View) (frame : ℕ) : Type 0 where
  pub looks : NoPinHolds v w (oldest_epoch (stock_of v).retired) v.limits.sessions
  pub view : StockIs v w (let_go_by (stock_of v) v.limits.sessions)
  pub oldest : HasFirst (λ r. r.frame ≡ frame) (stock_of w).retired
  pub clear : IsClear w.limits (stock_of w)
  pub within : (place value : ℕ) → place < FRAME_WORDS → IsWithin w.limits (StoreFrame frame place value)
  pub may_store : (place value : ℕ) → PageEnabled w.limits (knows w w.limits.sessions).pages (StoreFrame frame place value)
  pub unused : IsUnused w frame

-- the merger has looked at the pins of the sessions up to s, and that of s is the first that holds the oldest retired frame. It holds the others too
pub record FindsHeld (v w : View) (s : ℕ) : Type 0 where
  pub looks : FirstPinHolds v w (oldest_epoch (stock_of v).retired) s
  pub view : let m : MergerFrames = let_go_by (stock_of v) s in StockIs v w (record m { held = m.held ++ s ∷ [] })
  -- no frame was retired before the oldest one, so that pin holds each of them
  pub all : Every (λ r. lets_go (looks.found s) r.epoch ≡ false) (stock_of v).retired
  -- there were as many swaps as there are spare frames
  pub swaps : w.limits.spare ≤ (stock_of w).epoch
  -- in each state that the view allows, the session has set a pin at some time, and there were so many swaps
  pub says : (words : List ℕ) (known : ℕ → Known) (merger : Known) → Allowed w words known merger → IsHeld w.limits (shown w.limits words).epoch known s
