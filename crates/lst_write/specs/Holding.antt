-- What a session has in hand while it writes, and how it comes to it.
use Rattle.std.specs.Prelude.{◌≡◌, ℕ, ◌+◌, List, [], ◌∷◌, ◌++◌, true, false}
use Rattle.lst_core_state.specs.declared.known.Known.{Known}
use Rattle.lst_core_state.specs.declared.known.Hold.{Hold}
use Rattle.lst_core_state.specs.declared.facts.Fact.{Fact}
use Rattle.lst_core_state.specs.declared.facts.Find.TheVariants.{LatchedRecord}
use Rattle.lst_core_state.specs.State.{rank}
use Rattle.lst_rule.specs.declared.view.View.{View}
use Rattle.lst_rule.specs.Rule.{knows}
use Rattle.lst_rule.specs.Learned.{Learns}
use Rattle.lst_rule.specs.Seen.{HasKey}
use Rattle.lst_rule.specs.Loads.{ChainFound}

-- a transaction is open that may write, and neither a latch nor the turn is in hand
pub record MayLatch (k : Known) : Type 0 where
  pub on : k.is_open ≡ true
  pub writes : k.read_only ≡ false
  pub away : rank k.turn ≡ 0
  pub free : k.hold.latch ≡ 0

-- the facts have the record in the index, with some key
abbrev pub IsPlaced : Known → ℕ → Type 0
IsPlaced k rec = (key : ℕ) × HasKey k.facts rec key

-- the latch of the record, whose newest version has the number `head` in its range, and no tail
abbrev pub latch_of : ℕ → ℕ → Hold
latch_of rec head = record { latch = rec + 1; head = head; tail = 0; is_whole = false }

abbrev pub HasLatch : Known → ℕ → ℕ → Type 0
HasLatch k rec head = k.hold ≡ latch_of rec head

-- the session s has latched the record, and has a copy of its chain, whose newest version has the number `head` in its range
pub record Latches (v w : View) (s rec head : ℕ) : Type 0 where
  pub facts : List Fact
  pub view : Learns v w s (record (knows v s) { hold = latch_of rec head; latched = (knows v s).latched ++ rec ∷ []; facts = (knows v s).facts ++ facts })
  pub chain : ChainFound w.limits (knows w s) s rec head

-- the session s has found the record latched, and learnt nothing else but facts
pub record FindsLatched (v w : View) (s rec : ℕ) : Type 0 where
  pub facts : List Fact
  pub view : Learns v w s (record (knows v s) { facts = (knows v s).facts ++ facts; finds = (knows v s).finds ++ LatchedRecord rec ∷ [] })
