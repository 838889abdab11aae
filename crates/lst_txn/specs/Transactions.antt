-- What the calls on a session's transaction do to its seat's view.
use Rattle.std.specs.Prelude.{◌≡◌, ◌⊎◌, ℕ, ◌+◌, ◌*◌, ◌<◌, ◌≤◌, List, [], ◌∷◌, ◌++◌, Bool, true, false, length, slice_set}
use Rattle.lst_layout.specs.declared.limits.Limits.{Limits}
use Rattle.lst_layout.specs.declared.place.Place.TheVariants.{ClockWord, CommitWord, LogWord, BeginWord, StateWord}
use Rattle.lst_layout.specs.Addresses.{address}
use Rattle.lst_core_state.specs.Writes.{commit}
use Rattle.lst_core_state.specs.declared.known.Known.{Known}
use Rattle.lst_core_state.specs.declared.known.Stage.TheVariants.{Away}
use Rattle.lst_core_state.specs.State.{rank, mine}
use Rattle.lst_rule.specs.declared.view.View.{View}
use Rattle.lst_rule.specs.Rule.{knows}
use Rattle.lst_rule.specs.Learned.{Learns}
use Rattle.lst_rule.specs.Stores.{clocked, Clocked}

-- the session holds no turn and no latch
abbrev pub IsFree : Known → Type 0
IsFree k = (rank k.turn ≡ 0) × (k.hold.latch ≡ 0)

-- the session holds the turn, and hasn't logged
abbrev pub HoldsTurn : Known → Type 0
HoldsTurn k = (rank k.turn ≡ 1) ⊎ (rank k.turn ≡ 2)

-- the session s has loaded the clock, and seen all that was committed
pub record Sees (v w : View) (s clock : ℕ) : Type 0 where
  pub load : Clocked v w s clock
  -- its own commits were seen before
  pub own : mine s (knows w s) ≡ mine s (knows v s)

-- the session s has loaded the clock, between is the view then, and opened its next transaction, with the begin b
pub record Opens (v w : View) (s clock b : ℕ) (read_only : Bool) : Type 0 where
  pub between : View
  pub load : Clocked v between s clock
  pub early : b ≤ clock
  pub view : let k = knows v s in Learns v w s (record (clocked k load.all load.index) { number = k.number + 1; begin = b; read_only = read_only; is_open = true; own = [] })
  pub own : mine s (knows w s) ≡ mine s (knows v s)
  -- of the words its begin word is stored
  pub words : v.whole ≡ true → w.words ≡ slice_set v.words (address v.limits (BeginWord s ((knows v s).number + 1))) (b + 1)

-- the words once the session s has committed its transaction n at the time t: the log word, the state word and the clock are
-- stored, and then the commit word
abbrev pub committed_words : Limits → List ℕ → ℕ → ℕ → ℕ → List ℕ
committed_words l words s n t = slice_set (slice_set (slice_set (slice_set words (address l (LogWord t)) (16 * n + s)) (address l (StateWord s n)) (t + 1)) (address l ClockWord) t) (address l CommitWord) 0

-- the session s has loaded the clock, between is the view then, and committed its transaction at the time t, as the next commit of a
-- history that extends what it had seen
pub record Commits (v w : View) (s t : ℕ) : Type 0 where
  pub clock : ℕ
  pub between : View
  pub load : Clocked v between s clock
  pub time : clock + 1 ≡ t
  pub above : length (knows v s).seen < t
  pub view : let k = knows v s in Learns v w s (record (clocked k load.all load.index) { is_open = false; own = []; turn = Away; seen = load.all ++ commit s k.number k.begin k.own ∷ [] })
  pub own : let k = knows v s in mine s (knows w s) ≡ mine s k ++ commit s k.number k.begin k.own ∷ []
  pub words : v.whole ≡ true → w.words ≡ committed_words v.limits v.words s (knows v s).number t
