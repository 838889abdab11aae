-- The run of a merge: the settled tails of a range after the TPS of a page, and the find that ends it.
use Rattle.std.specs.Prelude.{◌≡◌, ◌⊎◌, ℕ, zero, suc, ◌+◌, ◌*◌, ◌/◌, ◌%◌, ◌<◌, ◌≤◌, List, true, false, length}
use Rattle.std.specs.List.{Contains}
use Rattle.lst_layout.specs.declared.limits.Limits.{Limits}
use Rattle.lst_layout.specs.Words.{shown}
use Rattle.lst_bits.specs.declared.encodings.Encoding.{Encoding}
use Rattle.lst_bits.specs.Encodings.{encoding_of}
use Rattle.lst_core_state.specs.declared.facts.Fact.{Fact}
use Rattle.lst_core_state.specs.declared.facts.Fact.TheVariants.{StateAt, CellIs, CommitAt}
use Rattle.lst_core_state.specs.declared.facts.Find.TheVariants.{UnfinishedVersion, CountedTails, EmptyStart}
use Rattle.lst_core_state.specs.declared.known.Known.{Known}
use Rattle.lst_pages.specs.declared.tails.PageTail.{PageTail}
use Rattle.lst_pages.specs.Runs.{tps_known}
use Rattle.lst_pages.specs.Settled.{tail_by, is_settled, settled_tails}
use Rattle.lst_rule.specs.declared.view.View.{View}
use Rattle.lst_rule.specs.PageSteps.{stock_of}
use Rattle.lst_rule.specs.Statuses.{FoundSince}
use Rattle.lst_merge.specs.declared.runs.Run.{Run}
use Rattle.lst_merge.specs.Inspections.{merger_of}

-- ---- tails that are known to be settled

-- the transaction of this name is known to be closed, where the time is 0, or committed at the time, which was seen or which the log has
abbrev pub IsEnded : Known → ℕ → ℕ → Type 0
IsEnded k x zero = Contains k.facts (StateAt (x % 16) (x / 16) 1)
IsEnded k x (suc t) = ((suc t ≤ length k.seen) × Contains k.facts (StateAt (x % 16) (x / 16) (suc t + 1))) ⊎ Contains k.facts (CommitAt (suc t) (x % 16) (x / 16))

-- the tail t is known to be settled, and this is what a page folds of it
pub record KnowsSettled (k : Known) (t : ℕ) (tail : PageTail) : Type 0 where
  pub writer : ℕ
  pub encoding : ℕ
  pub back : ℕ
  pub values : List ℕ
  pub cell : Contains k.facts (CellIs t writer encoding back values)
  pub ended : IsEnded k writer tail.time
  pub is : tail ≡ tail_by encoding values tail.time

abbrev pub HasSettled : Known → ℕ → Type 0
HasSettled k t = (tail : PageTail) × KnowsSettled k t tail

-- at this time
abbrev pub SettledAt : Known → ℕ → ℕ → Type 0
SettledAt k t time = (tail : PageTail) × (tail.time ≡ time) × KnowsSettled k t tail

-- this is what the facts have as the encoding of the tail t
abbrev pub IsEncodedAs : List Fact → ℕ → Encoding → Type 0
IsEncodedAs facts t e = (writer word back : ℕ) (values : List ℕ) → Contains facts (CellIs t writer word back values) → e ≡ encoding_of word

-- each tail of the range after number p, up to number n
abbrev pub AreSettled : Limits → Known → ℕ → ℕ → ℕ → Type 0
AreSettled l k range p n = (i : ℕ) → p < i → i ≤ n → HasSettled k (range * l.tails + i)

-- ---- the find that ends a run

-- since the merger knew u it found the tail's start word empty, or its transaction neither closed nor committed by the clock
abbrev pub FoundUnsettled : Known → Known → ℕ → Type 0
FoundUnsettled u v t = FoundSince u v (EmptyStart t) ⊎ ((about : ℕ) × (session : ℕ) × (number : ℕ) × FoundSince u v (UnfinishedVersion about t session number 0))

-- since it knew u it found that the tail of the range with this number isn't settled: it loaded the tail counter, and the number is beyond that,
-- or beyond the limit; or it found the tail so
abbrev pub StopsAt : Limits → Known → Known → ℕ → ℕ → Type 0
StopsAt l u v range n = ((count : ℕ) × FoundSince u v (CountedTails range count) × ((count < n) ⊎ (l.tails < n))) ⊎ FoundUnsettled u v (range * l.tails + n)

-- ---- the run

-- between v and w the merger found this run for the page of the range and the column
pub record IsRun (v w : View) (range column : ℕ) (run : Run) : Type 0 where
  -- it goes on from the TPS of the page
  pub tps : run.tps ≡ tps_known (stock_of v) range column
  pub from : run.tps ≤ run.end
  pub few : run.end ≤ v.limits.tails
  -- each tail after it was found settled, up to the end, and the next one not
  pub settled : AreSettled v.limits (merger_of w) range run.tps run.end
  pub stops : StopsAt v.limits (merger_of v) (merger_of w) range (run.end + 1)
  -- where the view knows each word, there are no more settled tails
  pub whole : w.whole ≡ true → run.end ≡ length (settled_tails w.limits (shown w.limits w.words) range)

-- ---- one tail

-- where the view knows each word, the tail isn't settled
abbrev pub IsUnsettledIn : View → ℕ → Type 0
IsUnsettledIn v t = v.whole ≡ true → is_settled (shown v.limits v.words) t ≡ false

-- between v and w the merger found that the tail isn't settled, which it didn't know to be
pub record Unsettled (v w : View) (t : ℕ) : Type 0 where
  pub found : FoundUnsettled (merger_of v) (merger_of w) t
  pub unknown : HasSettled (merger_of v) t → ⊥
  pub words : IsUnsettledIn w t
