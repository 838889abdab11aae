-- What a session knows after it has only looked at versions, statuses, the clock and pages.
use Rattle.std.specs.Prelude.{◌≡◌, ◌⊎◌, ℕ, ◌%◌, ◌<◌, List, ◌++◌, true, eqb, Some, slice_index}
use Rattle.std.specs.List.{All}
use Rattle.lst_layout.specs.declared.place.Place.{Place}
use Rattle.lst_layout.specs.declared.TheConstants.{FRAME_WORDS}
use Rattle.lst_layout.specs.declared.place.Place.TheVariants.{ClockWord, StateWord, HeadWord, CellWord, DirectoryWord, FrameWord}
use Rattle.lst_layout.specs.Words.{Words, shown}
use Rattle.lst_model.specs.declared.commits.Commit.{Commit}
use Rattle.lst_core_state.specs.declared.known.Known.{Known}
use Rattle.lst_core_state.specs.declared.known.Counter.{Counter}
use Rattle.lst_core_state.specs.declared.known.Looks.{Looks}
use Rattle.lst_core_state.specs.declared.known.Stage.{Stage}
use Rattle.lst_core_state.specs.declared.pages.PageInHand.{PageInHand}
use Rattle.lst_core_state.specs.declared.pages.SessionFrames.{SessionFrames}
use Rattle.lst_core_state.specs.declared.facts.Fact.{Fact}
use Rattle.lst_core_state.specs.declared.facts.Find.{Find}
use Rattle.lst_core_state.specs.declared.facts.Find.TheVariants.{FullRecords, FullTails}
use Rattle.lst_core_state.specs.State.{writer_at, mine}
use Rattle.lst_core_state.specs.Step.{refreshed}
use Rattle.lst_pages.specs.State.{hand_of}
use Rattle.lst_rule.specs.declared.view.View.{View}
use Rattle.lst_rule.specs.Rule.{knows}
use Rattle.lst_rule.specs.Learned.{Learns}

-- a find of anything else than that a counter was full
abbrev pub IsNotFull : Find → Type 0
IsNotFull FullRecords = ⊥
IsNotFull (FullTails range) = ⊥
IsNotFull f = Unit {0}

-- the frame is in hand, and its page has these words
pub record HasInHand (frames : SessionFrames) (f : ℕ) (words : ℕ → ℕ) : Type 0 where
  pub page : PageInHand
  pub in_hand : hand_of frames f ≡ Some page
  pub same : (n : ℕ) → n < FRAME_WORDS → slice_index page.words n ≡ words n

-- v is u with more facts, finds and commits seen, other words loaded last, other loads of tail counters, and maybe pages taken in hand. Where u has the turn, the clock may be
-- loaded in it. No counter was found full, the pin is the same, and each frame in hand stays in hand, with the same words
pub record Watches (u v : Known) : Type 0 where
  pub facts : List Fact
  pub finds : List Find
  pub later : List Commit
  pub turn : Stage
  pub looks : Looks
  pub counters : List Counter
  pub frames : SessionFrames
  pub is : v ≡ record u { seen = u.seen ++ later; turn = turn; counters = counters; facts = u.facts ++ facts; finds = u.finds ++ finds; looks = looks; pages = record u.pages { session = frames } }
  pub stage : (turn ≡ u.turn) ⊎ (turn ≡ refreshed u.turn)
  pub room : All IsNotFull finds
  pub pin : frames.pin ≡ u.pages.session.pin
  pub hand : (f : ℕ) (page : PageInHand) → hand_of u.pages.session f ≡ Some page → HasInHand frames f (slice_index page.words)

-- the session has the pin that it had, and has set none since
pub record SamePins (u k : Known) : Type 0 where
  pub pins : k.pages.pins ≡ u.pages.pins
  pub pin : k.pages.session.pin ≡ u.pages.session.pin

-- the words differ in stamps alone: start words of stored tails, whose transactions stay the same
pub record IsStamped (a b : Words) : Type 0 where
  pub rest : b ≡ record a { cells = b.cells }
  pub others : (t p : ℕ) → 0 < p → b.cells t p ≡ a.cells t p
  pub stored : (t : ℕ) → eqb (b.cells t 0) 0 ≡ eqb (a.cells t 0) 0
  pub writers : (t : ℕ) → writer_at b t ≡ writer_at a t

-- stamps stay stamps
abbrev pub KeepsStamps : Words → Words → Type 0
KeepsStamps a b = (t : ℕ) → a.cells t 0 % 2 ≡ 0 → b.cells t 0 % 2 ≡ 0

-- of the sessions and the merger only s has looked. What it has committed stays, and so do the words that the view knows, but for stamps
pub record Watched (v w : View) (s : ℕ) : Type 0 where
  pub learns : Learns v w s (knows w s)
  pub watches : Watches (knows v s) (knows w s)
  pub own : s < v.limits.sessions → mine s (knows w s) ≡ mine s (knows v s)
  pub words : v.whole ≡ true → IsStamped (shown v.limits v.words) (shown w.limits w.words)
  pub stamps : v.whole ≡ true → KeepsStamps (shown v.limits v.words) (shown w.limits w.words)

-- a word of a version, a status or a page
abbrev pub IsWatched : Place → Type 0
IsWatched ClockWord = Unit {0}
IsWatched (StateWord session number) = Unit {0}
IsWatched (HeadWord rec) = Unit {0}
IsWatched (CellWord tail place) = Unit {0}
IsWatched (DirectoryWord range column) = Unit {0}
IsWatched (FrameWord frame place) = Unit {0}
IsWatched p = ⊥
