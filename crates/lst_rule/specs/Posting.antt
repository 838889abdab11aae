-- The posting of a tail in hand: which columns are posted, and what else changes.
use Rattle.std.specs.Prelude.{◌≡◌, ◌⊎◌, ℕ, ◌-◌, ◌<◌, List, ◌++◌, true, false, slice_index}
use Rattle.std.specs.List.{All}
use Rattle.lst_layout.specs.declared.limits.Limits.{Limits}
use Rattle.lst_layout.specs.Areas.{IsIndexed}
use Rattle.lst_layout.specs.Words.{Words, shown}
use Rattle.lst_core_state.specs.declared.known.Known.{Known}
use Rattle.lst_core_state.specs.declared.facts.Fact.{Fact}
use Rattle.lst_core_state.specs.declared.facts.Find.{Find}
use Rattle.lst_core_state.specs.declared.facts.Find.TheVariants.{TailLoad}
use Rattle.lst_core_state.specs.Cells.{has_number}
use Rattle.lst_rule.specs.declared.view.View.{View}
use Rattle.lst_rule.specs.Rule.{knows}
use Rattle.lst_rule.specs.Learned.{Learns}
use Rattle.lst_rule.specs.Shown.{HasWords, IsShown}

-- the tail in hand is whole, and a fact says which words it holds
pub record HasTail (k : Known) : Type 0 where
  pub whole : k.hold.is_whole ≡ true
  pub encoding : ℕ
  pub values : List ℕ
  pub words : HasWords k.facts k.hold.tail encoding values

-- by facts, the tail in hand doesn't hold the column with a number, or that number is posted for the latched record
pub record ColumnIsPosted (l : Limits) (k : Known) (column : ℕ) : Type 0 where
  pub encoding : ℕ
  pub values : List ℕ
  pub words : HasWords k.facts k.hold.tail encoding values
  pub posted : (has_number encoding column ≡ false) ⊎ IsShown l k.facts column (k.hold.latch - 1) (slice_index values column)

-- so for each indexed column
abbrev pub AllPosted : Limits → Known → Type 0
AllPosted l k = (column : ℕ) → column < l.columns → IsIndexed l column → ColumnIsPosted l k column

-- ---- what the steps change

-- a word of a tail was loaded
abbrev pub IsTailLoad : Find → Type 0
IsTailLoad (TailLoad t) = Unit {0}
IsTailLoad f = ⊥

-- the words differ in postings alone
abbrev pub ChangesPostings : Words → Words → Type 0
ChangesPostings a b = b ≡ record a { postings = b.postings }

-- of the sessions and the merger only s learnt something: facts, that it loaded words of tails, and where its tail in hand is posted. Of the
-- words that the view knows only postings have changed
pub record Posts (v w : View) (s : ℕ) : Type 0 where
  pub facts : List Fact
  pub finds : List Find
  pub posted : ℕ
  pub unposted : ℕ
  pub view : Learns v w s (record (knows v s) {
    draft = record (knows v s).draft { posted = posted; unposted = unposted };
    facts = (knows v s).facts ++ facts;
    finds = (knows v s).finds ++ finds;
  })
  pub loads : All IsTailLoad finds
  pub words : v.whole ≡ true → ChangesPostings (shown v.limits v.words) (shown w.limits w.words)
