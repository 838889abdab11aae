-- Pages over a state of the core: the same words and knowledge are a state of pages, whose settled tails are those of the words.
use Rattle.std.specs.Prelude.{◌≡◌, ◌≤◌, ℕ, ◌+◌, ◌<◌, List, cond, eqb, Some, None}
use Rattle.std.specs.List.{Contains}
use Rattle.lst_layout.specs.declared.limits.Limits.{Limits}
use Rattle.lst_layout.specs.Functions.{put}
use Rattle.lst_layout.specs.Words.{Words}
use Rattle.lst_core_state.specs.declared.known.Known.{Known}
use Rattle.lst_core_state.specs.declared.pages.PageKnown.{PageKnown}
use Rattle.lst_core_state.specs.State.{Core}
use Rattle.lst_core_state.specs.Step.{known_of}
use Rattle.lst_pages.specs.declared.events.PageEvent.{PageEvent}
use Rattle.lst_pages.specs.declared.events.PageEvent.TheVariants.{Pin, Unpin, LookPage, LookPin, StoreFrame, Swap, Raise}
use Rattle.lst_pages.specs.Lists.{HasFirst}
use Rattle.lst_pages.specs.State.{Pages, frame_in}
use Rattle.lst_pages.specs.Settled.{settled_tails}
use Rattle.lst_pages.specs.Step.{IsClear, MaySwap, words_after, reader_after, merger_after}
use Rattle.lst_pages.specs.Sound.{Sound}

-- ---- pages over words and knowledge

abbrev pub pages_over : Limits → Words → (ℕ → Known) → Known → Pages
pages_over l w known merger = record { limits = l; words = w; tails = settled_tails l w; readers = λ s. (known s).pages.session; merger = merger.pages.stock }

abbrev pub pages_in : Core → Pages
pages_in c = pages_over c.limits c.words c.known c.merger

-- a session that has a pin has set one
abbrev pub PinsCounted : Limits → (ℕ → Known) → Type 0
PinsCounted l known = (s : ℕ) → s < l.sessions → 0 < (known s).pages.session.pin → 0 < (known s).pages.pins

-- what a find says that the pin of the session s holds the oldest retired frame: s has set a pin, and as many swaps were made as there
-- are spare frames
pub record IsHeld (l : Limits) (epoch : ℕ) (known : ℕ → Known) (s : ℕ) : Type 0 where
  pub session : s < l.sessions
  pub pinned : 0 < (known s).pages.pins
  pub swaps : l.spare ≤ epoch

abbrev pub HeldAreSo : Limits → ℕ → (ℕ → Known) → List ℕ → Type 0
HeldAreSo l epoch known held = (s : ℕ) → Contains held s → IsHeld l epoch known s

-- the pages are sound over the words and knowledge of the core
pub record PagesSound (c : Core) : Type 0 where
  pub pages : Sound (pages_in c)
  pub pins : PinsCounted c.limits c.known
  pub held : HeldAreSo c.limits c.words.epoch c.known c.merger.pages.stock.held

-- ---- a step on pages

-- the session that steps; the merger has the number of the sessions
abbrev pub stepper : Limits → PageEvent → ℕ
stepper l (Pin s e) = s
stepper l (Unpin s) = s
stepper l (LookPage s r c) = s
stepper l (LookPin s) = l.sessions
stepper l (StoreFrame f n x) = l.sessions
stepper l (Swap r c) = l.sessions
stepper l Raise = l.sessions

-- what the stepper itself knows allows the step
abbrev pub PageEnabled : Limits → PageKnown → PageEvent → Type 0
PageEnabled l k (Pin s e) = k.session.pin ≡ 0
PageEnabled l k (Unpin s) = 0 < k.session.pin
PageEnabled l k (LookPage s r c) = 0 < k.session.pin
PageEnabled l k (LookPin s) = k.stock.waiting ≡ None
PageEnabled l k (StoreFrame f n x) = HasFirst (λ oldest. oldest.frame ≡ f) k.stock.retired × IsClear l k.stock
PageEnabled l k (Swap r c) = (f : ℕ) × (k.stock.built ≡ Some f)
PageEnabled l k Raise = (f : ℕ) × (k.stock.waiting ≡ Some f)

-- and the words allow it
abbrev pub PageStands : Limits → Words → PageKnown → PageEvent → Type 0
PageStands l w k (Pin s e) = e ≤ w.epoch
PageStands l w k (Swap r c) = MaySwap l w (settled_tails l w r) r c (frame_in k.stock.built)
PageStands l w k e = Unit {0}

-- the step may be made
abbrev pub IsPageEnabled : Core → PageEvent → Type 0
IsPageEnabled c e = let k = (known_of c (stepper c.limits e)).pages in PageEnabled c.limits k e × PageStands c.limits c.words k e

-- ---- what a step on pages changes

-- how many pins were ever set
abbrev pub pins_after : ℕ → PageEvent → ℕ
pins_after n (Pin s e) = n + 1
pins_after n (Unpin s) = n
pins_after n (LookPage s r c) = n
pins_after n (LookPin s) = n
pins_after n (StoreFrame f i x) = n
pins_after n (Swap r c) = n
pins_after n Raise = n

-- what the stepper knows then
abbrev pub page_known_after : Limits → Words → PageKnown → PageEvent → PageKnown
page_known_after l w k e = record { pins = pins_after k.pins e; session = reader_after l w k.session e; stock = merger_after l w k.stock e }

abbrev pub known_after_page : Limits → Words → Known → PageEvent → Known
known_after_page l w v e = record v { pages = page_known_after l w v.pages e }

-- the words then
abbrev pub words_after_page : Words → Known → PageEvent → Words
words_after_page w v e = words_after w v.pages.stock e

-- a session's step
abbrev pub after_own_page : Core → PageEvent → Core
after_own_page c e = let v = c.known (stepper c.limits e) in record {
  limits = c.limits;
  words = words_after_page c.words v e;
  known = put c.known (stepper c.limits e) (known_after_page c.limits c.words v e);
  merger = c.merger;
}

-- the merger's
abbrev pub after_merger_page : Core → PageEvent → Core
after_merger_page c e = record c { words = words_after_page c.words c.merger e; merger = known_after_page c.limits c.words c.merger e }

abbrev pub after_page : Core → PageEvent → Core
after_page c e = cond (eqb (stepper c.limits e) c.limits.sessions) (after_merger_page c e) (after_own_page c e)
