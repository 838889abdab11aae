-- A merge of a page: what each of its answers says.
use Rattle.std.specs.Prelude.{◌≡◌, ◌≢◌, ◌⊎◌, ℕ, ◌+◌, ◌<◌, ◌≤◌, List, true, false, length}
use Rattle.lst_layout.specs.Functions.{put_in}
use Rattle.lst_layout.specs.Words.{Words, shown}
use Rattle.lst_model.specs.Histories.{Extends}
use Rattle.lst_core_state.specs.declared.facts.Fact.{Fact}
use Rattle.lst_core_state.specs.declared.facts.Find.{Find}
use Rattle.lst_core_state.specs.Step.{refreshed}
use Rattle.lst_pages.specs.Lists.{Every}
use Rattle.lst_pages.specs.Settled.{settled_tails}
use Rattle.lst_pages.specs.Sound.{IsPage}
use Rattle.lst_pages.specs.State.{oldest_epoch}
use Rattle.lst_pages.specs.Step.{lets_go}
use Rattle.lst_pages.specs.Runs.{tps_known}
use Rattle.lst_retire.specs.Frames.{FindsFree, FindsHeld}
use Rattle.lst_rule.specs.declared.view.View.{View}
use Rattle.lst_rule.specs.Rule.{knows, hosts}
use Rattle.lst_rule.specs.Learned.{Learns, Kept}
use Rattle.lst_rule.specs.PageSteps.{with_stock, stock_of}
use Rattle.lst_session.specs.declared.kinds.Merge.{Merge}
use Rattle.lst_session.specs.declared.kinds.Merge.TheVariants.{Merged, Idle, NoFrame}
use Rattle.lst_merge.specs.declared.runs.Run.{Run}
use Rattle.lst_merge.specs.Inspections.{merger_of, inspected, Inspects}
use Rattle.lst_merge.specs.Runs.{StopsAt, IsRun}
use Rattle.lst_merge.specs.Builds.{Builds}
use Rattle.lst_merge.specs.Swaps.{IsListedAs, OneMore, Swaps}

-- ---- what every merge leaves

-- of the sessions and the merger the merger alone learnt something: facts, finds, commits, which words it loaded last, what it found of
-- the tail counters, and its stock of frames
pub record MergerLearns (v w : View) : Type 0 where
  pub facts : List Fact
  pub finds : List Find
  pub view : Learns v w v.limits.sessions (with_stock (inspected (merger_of v) (merger_of w) facts finds) (stock_of w))
  pub grows : Extends (merger_of w).seen (merger_of v).seen
  pub turn : ((merger_of w).turn ≡ (merger_of v).turn) ⊎ ((merger_of w).turn ≡ refreshed (merger_of v).turn)

-- the words differ in the epoch, in the directory and in frames alone
abbrev pub OnlyPages : Words → Words → Type 0
OnlyPages v w = w ≡ record v { epoch = w.epoch; directory = w.directory; frames = w.frames }

-- ---- what the words say, where the view knows each of them

-- the number of settled tails of a range, up to the first that isn't
abbrev pub settled_count : View → ℕ → ℕ
settled_count v range = length (settled_tails v.limits (shown v.limits v.words) range)

-- the pin that the view knows of a session that it hosts lets go of the oldest retired frame
abbrev pub LetsGo : View → ℕ → Type 0
LetsGo v s = hosts v s ≡ true → lets_go (knows v s).pages.session.pin (oldest_epoch (stock_of v).retired) ≡ true

-- or it holds it, and each other one
pub record HoldsAll (v : View) (s : ℕ) : Type 0 where
  pub oldest : hosts v s ≡ true → lets_go (knows v s).pages.session.pin (oldest_epoch (stock_of v).retired) ≡ false
  pub each : hosts v s ≡ true → Every (λ r. lets_go (knows v s).pages.session.pin r.epoch ≡ false) (stock_of v).retired

-- ---- the answers

-- the page was merged up to tail n: the run, the frame that was found free, the page that was built in it, and the swap, one after
-- another; and what they come to
pub record MergesTo (v w : View) (range column n : ℕ) : Type 0 where
  pub run : Run
  pub frame : ℕ
  pub found : View
  pub freed : View
  pub built : View
  pub inspects : Inspects v found v.limits.sessions
  pub is_run : IsRun v found range column run
  pub end : run.end ≡ n
  pub frees : FindsFree found freed frame
  pub builds : Builds freed built range column frame n
  pub swaps : Swaps built w range column frame
  -- the page's TPS has risen to n; each other page has the one that it had
  pub more : tps_known (stock_of v) range column < n
  pub tps : tps_known (stock_of w) range column ≡ n
  pub others : (r c : ℕ) → IsPage v.limits r c → ((r ≡ range) × (c ≡ column) → ⊥) → tps_known (stock_of w) r c ≡ tps_known (stock_of v) r c
  pub listed : IsListedAs w range column frame
  pub once : OneMore (stock_of v) (stock_of w)
  pub held : (stock_of w).held ≡ (stock_of v).held
  -- the tail after n was found in this call not to be settled
  pub stops : StopsAt v.limits (merger_of v) (merger_of w) range (n + 1)
  pub whole : v.whole ≡ true → n ≡ settled_count v range
  pub free : (s : ℕ) → s < v.limits.sessions → LetsGo v s
  -- of the words the epoch, the page's directory word and words of the frame alone changed
  pub words : v.whole ≡ true → shown w.limits w.words
      ≡ record (shown v.limits v.words) { epoch = (stock_of v).epoch + 1; directory = put_in (shown v.limits v.words).directory range column frame; frames = (shown w.limits w.words).frames }
  pub frames : v.whole ≡ true → (f i : ℕ) → f ≢ frame → (shown w.limits w.words).frames f i ≡ (shown v.limits v.words).frames f i

-- there is nothing to merge: n is the page's TPS, and the tail after it was found in this call not to be settled
pub record HasNothing (v w : View) (range column n : ℕ) : Type 0 where
  pub inspects : Inspects v w v.limits.sessions
  pub tps : n ≡ tps_known (stock_of v) range column
  pub stock : stock_of w ≡ stock_of v
  pub stops : StopsAt v.limits (merger_of v) (merger_of w) range (n + 1)
  pub whole : v.whole ≡ true → n ≡ settled_count v range

-- there is a tail to merge, and no frame: the pin of the session s, which was loaded in this call, is the first that holds the oldest retired
-- frame, and it holds each other one
pub record LacksFrame (v w : View) (range column s : ℕ) : Type 0 where
  pub run : Run
  pub found : View
  pub inspects : Inspects v found v.limits.sessions
  pub is_run : IsRun v found range column run
  pub more : run.tps < run.end
  pub held : FindsHeld found w s
  pub low : s < v.limits.sessions
  pub tps : (r c : ℕ) → tps_known (stock_of w) r c ≡ tps_known (stock_of v) r c
  pub epoch : (stock_of w).epoch ≡ (stock_of v).epoch
  pub retired : (stock_of w).retired ≡ (stock_of v).retired
  pub swaps : v.limits.spare ≤ (stock_of v).epoch
  pub kept : Kept v w
  pub stops : StopsAt v.limits (merger_of v) (merger_of w) range (run.end + 1)
  pub whole : v.whole ≡ true → run.end ≡ settled_count v range
  pub before : (t : ℕ) → t < s → LetsGo v t
  pub holds : HoldsAll v s

-- by the answer
abbrev pub MergesAs : View → View → ℕ → ℕ → Merge → Type 0
MergesAs v w range column (Merged n) = MergesTo v w range column n
MergesAs v w range column (Idle n) = HasNothing v w range column n
MergesAs v w range column (NoFrame s) = LacksFrame v w range column s

-- the merger merged the page of the range and the column, and this is the answer
pub record Merges (v w : View) (range column : ℕ) (answer : Merge) : Type 0 where
  pub learns : MergerLearns v w
  pub words : v.whole ≡ true → OnlyPages (shown v.limits v.words) (shown w.limits w.words)
  pub is : MergesAs v w range column answer
