-- What holds of every state, in parts. Each part speaks of the areas and of the knowledge that it names, and of nothing else.
use Rattle.std.specs.Prelude.{◌≡◌, ◌≢◌, ◌⊎◌, ℕ, ◌+◌, ◌<◌, ◌≤◌, List, [], ◌∷◌, Bool, true, false, Option, Some, None, IfSome, length, slice_index, slice_index_or}
use Rattle.lst_layout.specs.declared.TheConstants.{FRAME_WORDS}
use Rattle.lst_layout.specs.declared.limits.Limits.{Limits}
use Rattle.lst_layout.specs.Limits.{IsValid}
use Rattle.lst_layout.specs.Areas.{frame_count}
use Rattle.lst_pages.specs.declared.tails.PageTail.{PageTail}
use Rattle.lst_pages.specs.Frames.{tps_in}
use Rattle.lst_pages.specs.Pages.{IsRightPage}
use Rattle.lst_core_state.specs.declared.pages.PageInHand.{PageInHand}
use Rattle.lst_core_state.specs.declared.pages.SessionFrames.{SessionFrames}
use Rattle.lst_core_state.specs.declared.pages.Retired.{Retired}
use Rattle.lst_pages.specs.Lists.{Every, Any, First, HasFirst, total, word_in}
use Rattle.lst_pages.specs.State.{Pages, hand_of, is_clear}

-- there is a page of range r and column c
abbrev pub IsPage : Limits → ℕ → ℕ → Type 0
IsPage l r c = (r < l.ranges) × (c < l.columns)

-- ---- each frame is in exactly one place: one directory word, the retired list, or waiting to be retired

-- some directory word names the frame
abbrev pub Inside : Limits → (ℕ → ℕ → ℕ) → ℕ → Type 0
Inside l directory f = (r : ℕ) × (c : ℕ) × IsPage l r c × (directory r c ≡ f)

-- none does
abbrev pub Outside : Limits → (ℕ → ℕ → ℕ) → ℕ → Type 0
Outside l directory f = (r c : ℕ) → IsPage l r c → directory r c ≢ f

-- the frame is not in the list
abbrev pub Off : ℕ → List Retired → Type 0
Off f rs = Every (λ r. r.frame ≢ f) rs

-- no frame is twice in the list
abbrev pub Distinct : List Retired → Type 0
Distinct [] = Unit {0}
Distinct (r ∷ rs) = Off r.frame rs × Distinct rs

pub record Places (l : Limits) (directory : ℕ → ℕ → ℕ) (retired : List Retired) (waiting : Option ℕ) : Type 0 where
  pub low : (r c : ℕ) → IsPage l r c → directory r c < frame_count l
  pub once : (r c q d : ℕ) → IsPage l r c → IsPage l q d → directory r c ≡ directory q d → (r ≡ q) × (c ≡ d)
  pub outside : Every (λ r. (r.frame < frame_count l) × Outside l directory r.frame) retired
  pub distinct : Distinct retired
  pub waits : (f : ℕ) → waiting ≡ Some f → (f < frame_count l) × Outside l directory f × Off f retired
  pub placed : (f : ℕ) → f < frame_count l → Inside l directory f ⊎ ((waiting ≡ Some f) ⊎ Any (λ r. r.frame ≡ f) retired)

-- ---- a session's pin and its frames in hand

-- the pin word is what the session knows; it is 0 or an epoch plus one, that epoch is at most the epoch word, and at 0 no frame is in hand
pub record Pinned (epoch word : ℕ) (pin : ℕ) (hand : ℕ → Option PageInHand) : Type 0 where
  pub known : word ≡ pin
  pub low : pin ≤ epoch + 1
  pub none : pin ≡ 0 → (f : ℕ) → hand f ≡ None

-- where a frame in hand under a pin may be: in a directory word, waiting to be retired, or retired at an epoch above the pinned one
abbrev pub Kept : Limits → (ℕ → ℕ → ℕ) → List Retired → Option ℕ → ℕ → ℕ → Type 0
Kept l directory retired waiting pin f = Inside l directory f ⊎ ((waiting ≡ Some f) ⊎ Any (λ r. (r.frame ≡ f) × (pin ≤ r.epoch)) retired)

-- P holds of each frame in hand and its page
abbrev pub EachInHand : (ℕ → PageInHand → Type 0) → (ℕ → Option PageInHand) → Type 0
EachInHand P hand = (f : ℕ) → IfSome (hand f) (P f)

abbrev pub HandKept : Limits → (ℕ → ℕ → ℕ) → List Retired → Option ℕ → ℕ → (ℕ → Option PageInHand) → Type 0
HandKept l directory retired waiting pin hand = EachInHand (λ f page. Kept l directory retired waiting pin f) hand

-- the page in hand is one of the store's, and right
abbrev pub HandRight : Limits → (ℕ → List PageTail) → (ℕ → Option PageInHand) → Type 0
HandRight l tails hand = EachInHand (λ f page. IsPage l page.range page.column × IsRightPage page.column (tails page.range) (slice_index page.words)) hand

-- the frame's words are those that were found
abbrev pub HandSame : (ℕ → ℕ → ℕ) → (ℕ → Option PageInHand) → Type 0
HandSame frames hand = EachInHand (λ f page. (n : ℕ) → n < FRAME_WORDS → frames f n ≡ slice_index page.words n) hand

-- ---- readers that were found to be clear, and the frame being built

-- a session whose pin was found not to hold the oldest retired frame has not got it in hand
abbrev pub Cleared : Limits → (ℕ → SessionFrames) → List Retired → (ℕ → Bool) → Type 0
Cleared l readers retired clear = First (λ r. (s : ℕ) → s < l.sessions → clear s ≡ true → hand_of (readers s) r.frame ≡ None) retired

-- while a frame waits to be retired, nobody was found so
abbrev pub Unlooked : Option ℕ → (ℕ → Bool) → Type 0
Unlooked waiting clear = (f : ℕ) → waiting ≡ Some f → (s : ℕ) → clear s ≡ false

-- a frame that is being built is the oldest retired one, and every session's pin was found not to hold it
pub record Built (l : Limits) (retired : List Retired) (clear : ℕ → Bool) (f : ℕ) : Type 0 where
  pub first : HasFirst (λ r. r.frame ≡ f) retired
  pub all : (s : ℕ) → s < l.sessions → clear s ≡ true

-- ---- the order of retirement

-- epochs do not fall along the list; each above 0 but the first is one more than the one before it; the last is e
abbrev pub Rise : List Retired → ℕ → Type 0
Rise [] e = Unit {0}
Rise (r ∷ []) e = r.epoch ≡ e
Rise (r ∷ q ∷ rs) e = (r.epoch ≤ q.epoch) × (0 < q.epoch → q.epoch ≡ r.epoch + 1) × Rise (q ∷ rs) e

-- the number of frames that wait
abbrev pub late : Option ℕ → ℕ
late None = 0
late (Some f) = 1

-- the TPS of the page of range r and column c
abbrev pub tps_at : (ℕ → ℕ → ℕ) → (ℕ → ℕ → ℕ) → ℕ → ℕ → ℕ
tps_at directory frames r c = tps_in (frames (directory r c))

-- the TPS of all pages together
abbrev pub tps_total : Limits → (ℕ → ℕ → ℕ) → (ℕ → ℕ → ℕ) → ℕ
tps_total l directory frames = total (λ r. total (tps_at directory frames r) l.columns) l.ranges

pub record Retirement (l : Limits) (epoch : ℕ) (directory frames : ℕ → ℕ → ℕ) (retired : List Retired) (waiting : Option ℕ) : Type 0 where
  pub rise : Rise retired epoch
  pub count : length retired + late waiting ≡ l.spare
  pub bound : epoch + late waiting ≤ tps_total l directory frames
  pub few : (r c : ℕ) → IsPage l r c → tps_at directory frames r c ≤ l.tails

-- ---- pages

-- each page in a directory word is right
abbrev pub Right : Limits → (ℕ → ℕ → ℕ) → (ℕ → ℕ → ℕ) → (ℕ → List PageTail) → Type 0
Right l directory frames tails = (r c : ℕ) → IsPage l r c → IsRightPage c (tails r) (frames (directory r c))

-- ---- what the merger knows

-- what the merger knows of the words that it alone stores is what they are
pub record Copied (l : Limits) (epoch : ℕ) (directory frames : ℕ → ℕ → ℕ) (its_epoch : ℕ) (its_directory its_frames : List (List ℕ)) : Type 0 where
  pub epoch_known : its_epoch ≡ epoch
  pub directory_known : (r c : ℕ) → IsPage l r c → word_in its_directory r c ≡ directory r c
  pub frames_known : (f n : ℕ) → f < frame_count l → n < FRAME_WORDS → word_in its_frames f n ≡ frames f n

-- its lists have an item for each session, range, column, frame and word of a frame
pub record Sized (l : Limits) (clear : List Bool) (its_directory its_frames : List (List ℕ)) : Type 0 where
  pub sessions : length clear ≡ l.sessions
  pub ranges : length its_directory ≡ l.ranges
  pub columns : (r : ℕ) → r < l.ranges → length (slice_index_or its_directory r []) ≡ l.columns
  pub each_frame : length its_frames ≡ frame_count l
  pub each_word : (f : ℕ) → f < frame_count l → length (slice_index_or its_frames f []) ≡ FRAME_WORDS

-- ---- all parts

-- P holds of what each session knows
abbrev pub EachReader : Limits → (ℕ → SessionFrames → Type 0) → (ℕ → SessionFrames) → Type 0
EachReader l P readers = (s : ℕ) → s < l.sessions → P s (readers s)

pub record Sound (p : Pages) : Type 0 where
  pub valid : IsValid p.limits
  pub places : Places p.limits p.words.directory p.merger.retired p.merger.waiting
  pub hand_sized : EachReader p.limits (λ s v. length v.hand ≡ frame_count p.limits) p.readers
  pub pinned : EachReader p.limits (λ s v. Pinned p.words.epoch (p.words.pins s) v.pin (hand_of v)) p.readers
  pub hand_kept : EachReader p.limits (λ s v. HandKept p.limits p.words.directory p.merger.retired p.merger.waiting v.pin (hand_of v)) p.readers
  pub hand_same : EachReader p.limits (λ s v. HandSame p.words.frames (hand_of v)) p.readers
  pub hand_right : EachReader p.limits (λ s v. HandRight p.limits p.tails (hand_of v)) p.readers
  pub cleared : Cleared p.limits p.readers p.merger.retired (is_clear p.merger)
  pub unlooked : Unlooked p.merger.waiting (is_clear p.merger)
  pub built : IfSome p.merger.built (Built p.limits p.merger.retired (is_clear p.merger))
  pub retirement : Retirement p.limits p.words.epoch p.words.directory p.words.frames p.merger.retired p.merger.waiting
  pub right : Right p.limits p.words.directory p.words.frames p.tails
  pub copied : Copied p.limits p.words.epoch p.words.directory p.words.frames p.merger.epoch p.merger.directory p.merger.frames
  pub sized : Sized p.limits p.merger.clear p.merger.directory p.merger.frames
