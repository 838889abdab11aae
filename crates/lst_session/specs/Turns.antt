-- A session that takes the turn, asks while it holds it, and spends it, step by step: which views lie between.
use Rattle.std.specs.Prelude.{◌≡◌, ℕ, ◌+◌, [], slice_set}
use Rattle.lst_layout.specs.Addresses.{address}
use Rattle.lst_layout.specs.declared.place.Place.TheVariants.{CommitWord}
use Rattle.lst_core_state.specs.declared.events.Event.TheVariants.{Take, Give}
use Rattle.lst_core_state.specs.declared.known.Stage.TheVariants.{Away}
use Rattle.lst_core_state.specs.Step.{took}
use Rattle.lst_rule.specs.declared.view.View.{View}
use Rattle.lst_rule.specs.Rule.{knows}
use Rattle.lst_rule.specs.Learned.{Learns, Kept, Made}
use Rattle.lst_rule.specs.Stores.{Clocked}
use Rattle.lst_index.specs.Searches.{Works, Keeps}
use Rattle.lst_txn.specs.Transactions.{Commits}
use Rattle.lst_retire.specs.Pins.{Unpins}
use Rattle.lst_changes.specs.Changes.{Steady}

-- the turn was taken, and then the clock loaded
pub record Takes (v w : View) (s : ℕ) : Type 0 where
  pub between : View
  pub takes : Learns v between s (took (knows v s))
  pub made : Made v between (Take s) CommitWord (s + 1)
  pub clock : ℕ
  pub load : Clocked between w s clock

-- the record of a key was looked for, and then the versions on it looked at
pub record Asks (v w : View) (s : ℕ) : Type 0 where
  pub between : View
  pub works : Works v between s []
  pub kept : Kept v between
  pub keeps : Keeps (knows v s).placing (knows between s).placing
  pub steady : Steady between w s

-- with the turn the transaction was committed at the time, and then the pin taken away
pub record Spends (v w : View) (s time : ℕ) : Type 0 where
  pub committed : View
  pub commits : Commits v committed s time
  pub unpins : Unpins committed w s

-- the turn was given back, and nothing else done
pub record Returns (v w : View) (s : ℕ) : Type 0 where
  pub view : Learns v w s (record (knows v s) { turn = Away })
  pub words : w.words ≡ slice_set v.words (address v.limits CommitWord) 0
  pub made : Made v w (Give s) CommitWord 0
