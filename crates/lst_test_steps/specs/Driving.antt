-- Sessions of one seat that hosts them all, as the tests operate them.
use Rattle.std.specs.Prelude.{◌≡◌, ◌≢◌, ℕ, ◌<◌, List, [], ◌∷◌, ◌++◌, true, length}
use Rattle.lst_layout.specs.declared.limits.Limits.{Limits}
use Rattle.lst_model.specs.declared.acts.Act.{Act}
use Rattle.lst_core_state.specs.declared.known.Known.{Known}
use Rattle.lst_core_state.specs.State.{sight}
use Rattle.lst_rule.specs.declared.view.View.{View}
use Rattle.lst_rule.specs.Rule.{knows, hosts}
use Rattle.lst_rule.specs.Learned.{Learns}
use Rattle.lst_rule.specs.declared.store.Store.{Store}
use Rattle.lst_rule.specs.Seats.{Sitting}
use Rattle.lst_rule.specs.Stores.{IsSeatOf}
use Rattle.lst_rule.specs.Seen.{HasKey}
use Rattle.lst_txn.specs.Transactions.{IsFree}
use Rattle.lst_test_steps.specs.declared.stages.Pair.{Pair}
use Rattle.lst_test_steps.specs.declared.stages.Stage.{Stage}
use Rattle.lst_test_steps.specs.declared.stages.Stage.TheVariants.{Out, In, Latching, Judged, Whole}
use Rattle.lst_write.specs.Appending.{HasWhole}
use Rattle.lst_write.specs.Holding.{MayLatch, IsPlaced, HasLatch}
use Rattle.lst_write.specs.Judgements.{HasChain, HasJudged}

-- the store has two columns, and its seat hosts each session
pub record HostsAll (store : Store) (seat : Sitting) : Type 0 where
  pub seat_of : IsSeatOf store seat
  pub columns : store.layout.limits.columns ≡ 2
  pub hosted : (s : ℕ) → s < store.layout.limits.sessions → hosts seat.view s ≡ true

-- what a session has in hand at its stage
abbrev pub IsAt : Limits → Known → ℕ → Stage → Type 0
IsAt l k s Out = IsFree k
IsAt l k s In = MayLatch k
IsAt l k s (Latching rec head) = HasLatch k rec head × HasChain l k rec head × IsPlaced k rec
IsAt l k s (Judged rec head) = HasLatch k rec head × HasJudged l k s rec head × IsPlaced k rec
IsAt l k s (Whole rec tail) = (head : ℕ) × (act : Act) × HasWhole l k s rec head tail act

-- the session s is at the stage, and has no record in hand
pub record IsAtStage (seat : Sitting) (s : ℕ) (stage : Stage) : Type 0 where
  pub low : s < seat.view.limits.sessions
  pub hand : (knows seat.view s).placing.hand ≡ 0
  pub at : IsAt seat.view.limits (knows seat.view s) s stage

-- the sessions 0 and 1 are at these stages
abbrev pub ArePair : Sitting → Pair → Type 0
ArePair seat pair = IsAtStage seat 0 pair.first × IsAtStage seat 1 pair.second

-- and the store has four sessions
pub record IsOpened (store : Store) (seat : Sitting) (pair : Pair) : Type 0 where
  pub crew : HostsAll store seat
  pub four : store.layout.limits.sessions ≡ 4
  pub both : ArePair seat pair

-- an operation of the session s brings it to the stage, and leaves each other session where it is
pub record MovesTo (store : Store) (old new : Sitting) (s : ℕ) (stage : Stage) : Type 0 where
  pub crew : HostsAll store new
  pub driven : IsAtStage new s stage
  pub others : (t : ℕ) (other : Stage) → t ≢ s → IsAtStage old t other → IsAtStage new t other

-- of the sessions only s learnt something: it has no turn, no latch and no record in hand, as before
pub record Rests (v w : View) (s : ℕ) : Type 0 where
  pub now : Known
  pub view : Learns v w s now
  pub free : IsFree now
  pub hand : now.placing.hand ≡ 0

-- ---- one key

-- the facts have the record in the index with its key, and these are the acts on the key that the transaction sees
pub record SeesActs (k : Known) (rec key : ℕ) (acts : List Act) : Type 0 where
  pub has : HasKey k.facts rec key
  pub sees : sight k key ≡ acts

-- the session s, which may latch again, has one more own write, of the act: it is the last one on the key of the record that it sees
pub record Writes (v w : View) (s rec : ℕ) (act : Act) : Type 0 where
  pub hosted : w.hosts ≡ v.hosts
  pub limits : w.limits ≡ v.limits
  pub free : MayLatch (knows w s)
  pub some : 0 < length (knows w s).own
  pub sees : (key : ℕ) (acts : List Act) → SeesActs (knows v s) rec key acts → SeesActs (knows w s) rec key (acts ++ act ∷ [])
