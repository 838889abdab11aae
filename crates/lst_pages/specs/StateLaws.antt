-- What holds of pages over every sound state of the core, and of every step from it.
use Rattle.std.specs.Prelude.{◌≡◌, ◌≢◌, ◌⊎◌, ◌↔◌, ℕ, ◌+◌, ◌*◌, ◌/◌, ◌%◌, ◌<◌, ◌≤◌, List, true, length, take, filter, eqb, nat_le}
use Rattle.lst_layout.specs.declared.limits.Limits.{Limits}
use Rattle.lst_layout.specs.Limits.{IsValid}
use Rattle.lst_layout.specs.Words.{Words, word_at, with_word}
use Rattle.lst_model.specs.declared.commits.Commit.{Commit}
use Rattle.lst_pages.specs.declared.tails.PageTail.{PageTail}
use Rattle.lst_pages.specs.Chains.{Told}
use Rattle.lst_core_state.specs.declared.events.Event.{Event}
use Rattle.lst_core_state.specs.declared.facts.Fact.{Fact}
use Rattle.lst_core_state.specs.declared.facts.Fact.TheVariants.{CellIs, StateAt, CommitAt}
use Rattle.lst_core_state.specs.declared.pages.PageKnown.{PageKnown}
use Rattle.lst_core_state.specs.State.{Core, history_of, line}
use Rattle.lst_core_state.specs.Lists.{acts}
use Rattle.lst_core_state.specs.Cells.{record_count, range_of}
use Rattle.lst_core_state.specs.Facts.{IsFact}
use Rattle.lst_core_state.specs.Laws.{heard, with_heard}
use Rattle.lst_core_state.specs.Step.{known_of}
use Rattle.lst_core_state.specs.Step as core
use Rattle.lst_core_state.specs.Sound as core_parts
use Rattle.lst_core_state.specs.Runs as core_runs
use Rattle.lst_pages.specs.declared.events.PageEvent.{PageEvent}
use Rattle.lst_pages.specs.declared.events.PageEvent.TheVariants.{Pin}
use Rattle.lst_pages.specs.Lists.{GoesOn}
use Rattle.lst_pages.specs.State.{Pages}
use Rattle.lst_pages.specs.Step.{IsWithin, Enabled, place_of, words_after, after}
use Rattle.lst_pages.specs.Numbers.{numbers_of, written_of, numbers_after, pin_after_of, IsWritable}
use Rattle.lst_pages.specs.Sound.{Sound}
use Rattle.lst_pages.specs.Runs.{SamePages}
use Rattle.lst_pages.specs.Settled.{tail_by, tail_in, is_settled, settled_tails}
use Rattle.lst_pages.specs.Known.{pages_in, PagesSound, stepper, IsPageEnabled, page_known_after, words_after_page, known_after_page, after_page}

-- ---- settled tails

-- pages stay sound while any number of tails settle
abbrev pub TailsMaySettle : Type 0
TailsMaySettle = (p : Pages) → Sound p → (tails : ℕ → List PageTail) → ((range : ℕ) → GoesOn (tails range) (p.tails range)) → Sound (record p { tails = tails })

-- whatever step of the core is made, the settled tails go on where they ended
abbrev pub TailsGrow : Type 0
TailsGrow = (c : Core) → core_parts.Sound c → (e : Event) → core.IsWithin c.limits e → core.IsEnabled c e → (range : ℕ) → GoesOn (settled_tails c.limits (core.after c e).words range) (settled_tails c.limits c.words range)

-- the n-th settled tail of a range is its tail number n, and is settled
pub record AreNumbered (l : Limits) (w : Words) (range : ℕ) : Type 0 where
  pub few : length (settled_tails l w range) ≤ l.tails
  pub told : Told (λ n. tail_in l w (range * l.tails + n)) 0 (settled_tails l w range)
  pub each : (n : ℕ) → 0 < n → n ≤ length (settled_tails l w range) → is_settled w (range * l.tails + n) ≡ true
  -- where those after the p-th are settled too, up to the n-th, there are at least n
  pub more : (p n : ℕ) → p ≤ length (settled_tails l w range) → n ≤ l.tails → ((k : ℕ) → p < k → k ≤ n → is_settled w (range * l.tails + k) ≡ true) → n ≤ length (settled_tails l w range)

abbrev pub SettledAreNumbered : Type 0
SettledAreNumbered = (l : Limits) (w : Words) (range : ℕ) → AreNumbered l w range

-- the tail t is settled, and this is what a page folds of it
pub record IsSettledAs (l : Limits) (w : Words) (t : ℕ) (tail : PageTail) : Type 0 where
  pub settled : is_settled w t ≡ true
  pub is : tail_in l w t ≡ tail

-- a tail is settled as what steps have found of it says: its words, with its transaction closed, or committed by the clock
abbrev pub FactsSettle : Type 0
FactsSettle = (l : Limits) (w : Words) (t x word back : ℕ) (values : List ℕ) → IsFact l w (CellIs t x word back values)
    → (IsFact l w (StateAt (x % 16) (x / 16) 1) → IsSettledAs l w t (tail_by word values 0))
    × ((time : ℕ) → 0 < time → time ≤ w.clock → IsFact l w (StateAt (x % 16) (x / 16) (time + 1)) → IsSettledAs l w t (tail_by word values time))

-- or with its commit in the log
abbrev pub CommitsSettle : Type 0
CommitsSettle = (c : Core) → core_parts.Sound c → (t x word back : ℕ) (values : List ℕ) (time : ℕ) → IsFact c.limits c.words (CellIs t x word back values)
    → IsFact c.limits c.words (CommitAt time (x % 16) (x / 16)) → IsSettledAs c.limits c.words t (tail_by word values time)

-- of the first p settled tails of its range, those of a record are the tails of its chain with a number up to p, oldest first
abbrev pub SettledAreOnChains : Type 0
SettledAreOnChains = (c : Core) → core_parts.Sound c → (rec p : ℕ) → rec < record_count c.limits → p ≤ length (settled_tails c.limits c.words (range_of rec))
    → filter (λ t. eqb t.slot (rec % 256)) (take p (settled_tails c.limits c.words (range_of rec))) ≡ acts (λ t. nat_le t (range_of rec * c.limits.tails + p)) (tail_in c.limits c.words) (line c.limits c.words rec)

-- ---- what leaves pages alone

-- words of pages, and what is known of pages, are the same, and the settled tails go on
pub record LeavesPages (c d : Core) : Type 0 where
  pub limits : d.limits ≡ c.limits
  pub words : SamePages d.words c.words
  pub tails : (range : ℕ) → GoesOn (settled_tails c.limits d.words range) (settled_tails c.limits c.words range)
  pub known : (s : ℕ) → (d.known s).pages ≡ (c.known s).pages
  pub merger : d.merger.pages ≡ c.merger.pages

abbrev pub PagesAreLeft : Type 0
PagesAreLeft = (c d : Core) → LeavesPages c d → PagesSound c → PagesSound d

-- each step of the core does, and so does hearing of the history
abbrev pub StepsLeavePages : Type 0
StepsLeavePages = (c : Core) → core_parts.Sound c → (e : Event) → core.IsWithin c.limits e → core.IsEnabled c e → LeavesPages c (core.after c e)

abbrev pub HearingLeavesPages : Type 0
HearingLeavesPages = (c : Core) (s : ℕ) (seen : List Commit) (more : List Fact) → LeavesPages c (with_heard c s seen more) × LeavesPages c (record c { merger = heard c.merger seen more })

-- ---- the core, whatever happens to pages

-- the states differ in words of pages and in what is known of pages alone, and the epoch hasn't fallen
pub record DiffersInPages (c d : Core) : Type 0 where
  pub limits : d.limits ≡ c.limits
  pub words : d.words ≡ record c.words { epoch = d.words.epoch; directory = d.words.directory; frames = d.words.frames; pins = d.words.pins }
  pub known : (s : ℕ) → d.known s ≡ record (c.known s) { pages = (d.known s).pages }
  pub merger : d.merger ≡ record c.merger { pages = d.merger.pages }
  pub epoch : c.words.epoch ≤ d.words.epoch

-- what the core says of the one state holds of the other
pub record IsAsSound (c d : Core) : Type 0 where
  pub sound : core_parts.Sound c → core_parts.Sound d
  pub history : history_of d.limits d.words ≡ history_of c.limits c.words
  pub facts : (f : Fact) → IsFact c.limits c.words f → IsFact d.limits d.words f
  pub tails : (range : ℕ) → settled_tails d.limits d.words range ≡ settled_tails c.limits c.words range

abbrev pub WordsAreFree : Type 0
WordsAreFree = (c d : Core) → DiffersInPages c d → IsAsSound c d

-- ---- steps on pages

-- a step may be made on words and knowledge exactly where it may be made on the pages that they are
abbrev pub EnabledIsSplit : Type 0
EnabledIsSplit = (c : Core) (e : PageEvent) → IsWithin c.limits e → IsPageEnabled c e ↔ Enabled (pages_in c) e

-- the step e on pages, of the session s or the merger, leads from c to d
pub record PageStepOf (c : Core) (e : PageEvent) (s : ℕ) (d : Core) : Type 0 where
  pub sound : PagesSound d
  pub is : pages_in d ≡ after (pages_in c) e
  pub words : d.words ≡ words_after_page c.words (known_of c s) e
  -- s alone learns something
  pub known : known_of d s ≡ known_after_page c.limits c.words (known_of c s) e
  pub others : (t : ℕ) → t ≢ s → known_of d t ≡ known_of c t
  -- the core stays as it was, but for pages
  pub differs : DiffersInPages c d
  -- only a pin of its own raises the number of pins that a session ever set
  pub pins : (t : ℕ) → ((d.known t).pages.pins ≡ (c.known t).pages.pins) ⊎ ((epoch : ℕ) × (e ≡ Pin t epoch) × ((d.known t).pages.pins ≡ (c.known t).pages.pins + 1))

abbrev pub PageStepsAreSound : Type 0
PageStepsAreSound = (c : Core) → PagesSound c → (e : PageEvent) → IsWithin c.limits e → IsPageEnabled c e → PageStepOf c e (stepper c.limits e) (after_page c e)

-- the step e, made on the words w by whoever knows k, is told by its numbers and by the one word that it finds
pub record IsByItsWord (l : Limits) (w : Words) (k : PageKnown) (e : PageEvent) : Type 0 where
  -- what is stored fits a word
  pub fits : IsWritable (numbers_of k.stock) e
  pub words : with_word w (place_of e) (written_of (numbers_of k.stock) e (word_at w (place_of e))) ≡ words_after w k.stock e
  pub numbers : numbers_of (page_known_after l w k e).stock ≡ numbers_after (numbers_of k.stock) e
  pub pin : (page_known_after l w k e).session.pin ≡ pin_after_of k.session.pin e

abbrev pub PageStepsAreByWords : Type 0
PageStepsAreByWords = (c : Core) → PagesSound c → (e : PageEvent) → IsWithin c.limits e → IsPageEnabled c e → IsByItsWord c.limits c.words (known_of c (stepper c.limits e)).pages e

-- ---- at opening

abbrev pub OpeningIsSound : Type 0
OpeningIsSound = (l : Limits) → IsValid l → PagesSound (core_runs.opening l)
