-- A step of a seat is one of the core or one on pages. Each function here is that of the core at the one, and that of pages at the
-- other.
use Rattle.std.specs.Prelude.{ℕ}
use Rattle.lst_layout.specs.declared.limits.Limits.{Limits}
use Rattle.lst_layout.specs.declared.place.Place.{Place}
use Rattle.lst_layout.specs.Words.{Words}
use Rattle.lst_core_state.specs.declared.known.Known.{Known}
use Rattle.lst_core_state.specs.declared.numbers.Numbers.{Numbers}
use Rattle.lst_core_state.specs.State.{Core}
use Rattle.lst_core_state.specs.Step as core
use Rattle.lst_core_state.specs.Numbers as core_numbers
use Rattle.lst_core_state.specs.Targets as core_targets
use Rattle.lst_pages.specs.declared.events.PageEvent.{PageEvent}
use Rattle.lst_pages.specs.declared.numbers.MergerNumbers.{MergerNumbers}
use Rattle.lst_pages.specs.Step as pages
use Rattle.lst_pages.specs.Numbers as page_numbers
use Rattle.lst_pages.specs.Known.{stepper, PageEnabled, PageStands, IsPageEnabled, words_after_page, known_after_page, after_page}
use Rattle.lst_rule.specs.declared.actions.Action.{Action}
use Rattle.lst_rule.specs.declared.actions.Action.TheVariants as action

-- who steps: a session, or the merger, which has the number of the sessions
abbrev pub actor : Limits → Action → ℕ
actor l (action.Core e) = core.session_of e
actor l (action.Page e) = stepper l e

-- ---- where a step may be made

-- its fields are within the limits
abbrev pub IsActionWithin : Limits → Action → Type 0
IsActionWithin l (action.Core e) = core.IsWithin l e
IsActionWithin l (action.Page e) = pages.IsWithin l e

-- what the actor itself knows allows it
abbrev pub ActionEnabled : Limits → Known → Action → Type 0
ActionEnabled l v (action.Core e) = core.Enabled l v e
ActionEnabled l v (action.Page e) = PageEnabled l v.pages e

-- and the words allow it
abbrev pub ActionStands : Limits → Words → Known → Action → Type 0
ActionStands l w v (action.Core e) = core.Stands l w v e
ActionStands l w v (action.Page e) = PageStands l w v.pages e

-- the step may be made
abbrev pub IsActionEnabled : Core → Action → Type 0
IsActionEnabled c (action.Core e) = core.IsEnabled c e
IsActionEnabled c (action.Page e) = IsPageEnabled c e

-- ---- what a step changes

-- the words
abbrev pub words_after_action : Limits → Words → Known → Action → Words
words_after_action l w v (action.Core e) = core.words_after l w v e
words_after_action l w v (action.Page e) = words_after_page w v e

-- what the actor knows then
abbrev pub known_after_action : Limits → Words → Known → Action → Known
known_after_action l w v (action.Core e) = core.known_after l w v e
known_after_action l w v (action.Page e) = known_after_page l w v e

-- the state then
abbrev pub after_action : Core → Action → Core
after_action c (action.Core e) = core.after c e
after_action c (action.Page e) = after_page c e

-- ---- a step on the numbers of its actor, and on one word

-- the numbers of the merger's stock of frames
abbrev pub stock_numbers : Numbers → MergerNumbers
stock_numbers n = record { epoch = n.epoch; built = n.built }

-- the numbers after a step on pages
abbrev pub numbers_after_page : PageEvent → Numbers → Numbers
numbers_after_page e n = let m : MergerNumbers = page_numbers.numbers_after (stock_numbers n) e in record n { pin = page_numbers.pin_after_of n.pin e; epoch = m.epoch; built = m.built }

-- the word that the step is on
abbrev pub place_for_action : Limits → Numbers → Action → Place
place_for_action l n (action.Core e) = core_numbers.place_for l n e
place_for_action l n (action.Page e) = pages.place_of e

-- the time that a stamp stores
abbrev pub time_for_action : Limits → Words → Action → ℕ
time_for_action l w (action.Core e) = core_targets.time_for l w e
time_for_action l w (action.Page e) = 0

-- what the step makes of the word that it finds; a stamp stores `time`
abbrev pub written_for_action : Limits → Numbers → ℕ → Action → ℕ → ℕ
written_for_action l n time (action.Core e) x = core_numbers.written_of l n time e x
written_for_action l n time (action.Page e) x = page_numbers.written_of (stock_numbers n) e x

-- the numbers after it, where it found x
abbrev pub numbers_after_action : Limits → Action → ℕ → Numbers → Numbers
numbers_after_action l (action.Core e) x n = core_numbers.numbers_after l e x n
numbers_after_action l (action.Page e) x n = numbers_after_page e n
