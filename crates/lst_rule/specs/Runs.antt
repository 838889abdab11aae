-- Many words loaded by one call.
use Rattle.std.specs.Prelude.{◌≡◌, ℕ, ◌+◌, ◌*◌, ◌<◌, List, ◌++◌, Some, length, slice_index, slice_set}
use Rattle.lst_layout.specs.declared.TheConstants.{RANGE_RECORDS, FRAME_VALUES, FRAME_TIMES}
use Rattle.lst_layout.specs.declared.limits.Limits.{Limits}
use Rattle.lst_layout.specs.declared.place.Place.{Place}
use Rattle.lst_layout.specs.declared.place.Place.TheVariants.{FrameWord, HeadWord}
use Rattle.lst_layout.specs.Addresses.{IsWithin}
use Rattle.lst_core_state.specs.declared.facts.Fact.{Fact}
use Rattle.lst_core_state.specs.declared.pages.PageInHand.{PageInHand}
use Rattle.lst_pages.specs.State.{hand_of}
use Rattle.lst_pages.specs.Runs.{frame_known}
use Rattle.lst_rule.specs.declared.runs.Run.{Run}
use Rattle.lst_rule.specs.declared.runs.Run.TheVariants.{Values, Times, Heads}
use Rattle.lst_rule.specs.declared.view.View.{View}
use Rattle.lst_rule.specs.Rule.{knows}
use Rattle.lst_rule.specs.Learned.{Learns, Kept}
use Rattle.lst_rule.specs.Stores.{Looked}

-- the place of its word i, from 0 on
abbrev pub place_in : Run → ℕ → Place
place_in (Values frame) i = FrameWord frame (FRAME_VALUES + i)
place_in (Times frame) i = FrameWord frame (FRAME_TIMES + i)
place_in (Heads range) i = HeadWord (RANGE_RECORDS * range + i)

-- its words are words of the store
abbrev pub IsRunOf : Limits → Run → Type 0
IsRunOf l run = (i : ℕ) → i < RANGE_RECORDS → IsWithin l (place_in run i)

-- the session s loaded the word i of the run, and put what it found into the list at i
pub record LoadsNext (run : Run) (v : View) (s i : ℕ) (w : View) (before after : List ℕ) : Type 0 where
  pub found : ℕ
  pub looked : Looked v w s (place_in run i) found
  pub short : i < length before
  pub put : after ≡ slice_set before i found

-- the session s loaded the first n words of the run, one after another, and found these: the views between
pub record LoadsRun (run : Run) (found : ℕ → ℕ) (v : View) (s n : ℕ) (w : View) : Type 0 where
  pub between : ℕ → View
  pub first : between 0 ≡ v
  pub last : between n ≡ w
  pub each : (i : ℕ) → i < n → Looked (between i) (between (i + 1)) s (place_in run i) (found i)

-- the words of the frame f from this place on were found to be these: they are those that were kept with the frame, where it is in hand
-- of a session, and the merger knows them of every frame. Nothing was learnt
pub record FrameRun (v w : View) (s f place : ℕ) (found : ℕ → ℕ) : Type 0 where
  pub view : Learns v w s (knows v s)
  pub same : Kept v w
  pub in_hand : s < v.limits.sessions → (page : PageInHand) → hand_of (knows v s).pages.session f ≡ Some page → (i : ℕ) → i < RANGE_RECORDS → found i ≡ slice_index page.words (place + i)
  pub own : s ≡ v.limits.sessions → (i : ℕ) → i < RANGE_RECORDS → found i ≡ frame_known (knows v s).pages.stock f (place + i)

-- the indirection words of a range were loaded: of what the session knows, only facts came
pub record HeadRun (v w : View) (s : ℕ) : Type 0 where
  pub facts : List Fact
  pub view : Learns v w s (record (knows v s) { facts = (knows v s).facts ++ facts })
  pub same : Kept v w
