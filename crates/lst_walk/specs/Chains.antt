-- Walks along a record's chain alone.
use Rattle.std.specs.Prelude.{◌≡◌, ℕ, ◌+◌, ◌*◌, ◌/◌, Option, true}
use Rattle.std.specs.List.{Contains}
use Rattle.lst_layout.specs.declared.limits.Limits.{Limits}
use Rattle.lst_layout.specs.declared.place.Place.TheVariants.{CellWord, HeadWord}
use Rattle.lst_layout.specs.Addresses.{address}
use Rattle.lst_layout.specs.Areas.{cell_words}
use Rattle.lst_rule.specs.declared.store.Store.{Store}
use Rattle.lst_rule.specs.declared.view.View.{View}
use Rattle.lst_rule.specs.Rule.{knows, hosts}
use Rattle.lst_rule.specs.Seats.{Sitting}
use Rattle.lst_rule.specs.Stores.{Looked}
use Rattle.lst_rule.specs.Watching.{Watched}
use Rattle.lst_rule.specs.Copies.{Version, fact_of, IsVersionOf}
use Rattle.lst_rule.specs.TailLoads.{LoadsOf}
use Rattle.lst_walk.specs.declared.placed.TailPlaces.{TailPlaces}
use Rattle.lst_walk.specs.Walks.{IsCellOf, WalksCell, CellWalk}

-- the call from v to w loaded the indirection word. Where that names no tail record it found nothing, so it loaded no word of one
pub record SavesChain (v w : View) (s rec : ℕ) : Type 0 where
  pub headed : View
  pub word : ℕ
  pub head : Looked v headed s (HeadWord rec) word
  pub quiet : word / 2 ≡ 0 → (knows w s).finds ≡ (knows v s).finds

-- the tail records of the range stand one after another from this address on, each of so many words
abbrev pub AreTailsOf : Limits → ℕ → TailPlaces → Type 0
AreTailsOf l range tails = (tails.start ≡ address l (CellWord (range * l.tails + 1) 0)) × (tails.words ≡ cell_words l)

-- the walk for a cell, in a call that began at v, is at the number n
pub record CellAhead (store : Store) (v : View) (seat : Sitting) (s rec column n : ℕ) : Type 0 where
  pub host : hosts v s ≡ true
  pub opened : (knows v s).is_open ≡ true
  pub walk : CellWalk store v seat s rec column n

-- what a call from v to w for the record's cell answers
pub record CellBy (v w : View) (s rec column : ℕ) (found : Option ℕ) : Type 0 where
  pub cell : IsCellOf v s rec column found
  pub walk : WalksCell v w s rec column found

-- the facts of the session have a version of the record, with this tail
abbrev pub IsTailOf : View → ℕ → ℕ → ℕ → Type 0
IsTailOf v s rec t = (c : Version) × IsVersionOf v.limits rec c × Contains (knows v s).facts (fact_of c) × (c.tail ≡ t)

-- the walk for a cell from the number n on, for each view at which the call for it may have begun; it is at the number m
pub record CellOnWalk (store : Store) (a seat : Sitting) (s rec column n m : ℕ) : Type 0 where
  pub goes : (v : View) → CellAhead store v a s rec column n → CellAhead store v seat s rec column m
  pub watched : Watched a.view seat.view s
  pub loads : LoadsOf a.view seat.view s (IsTailOf seat.view s rec)
