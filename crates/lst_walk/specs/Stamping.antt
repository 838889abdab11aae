-- What a read makes of how a version stands.
use Rattle.std.specs.Prelude.{ℕ, Bool, true, false, Option, None, Some, nat_le}
use Rattle.lst_rule.specs.declared.view.View.{View}
use Rattle.lst_rule.specs.declared.resolutions.Resolution.{Resolution}
use Rattle.lst_rule.specs.declared.resolutions.Resolution.TheVariants.{Empty, Stamped, Own, Closed, Committed, Unfinished}
use Rattle.lst_walk.specs.Readers.{Timed, Untimed, OwnFound}

-- the time that is to be stored in the start word
abbrev pub unstamped_of : Resolution → Option ℕ
unstamped_of Empty = None
unstamped_of (Stamped time) = None
unstamped_of Own = None
unstamped_of Closed = None
unstamped_of (Committed time) = Some time
unstamped_of (Unfinished j n) = None

-- the start word has the time then
abbrev pub is_timed_by : Resolution → Bool
is_timed_by Empty = false
is_timed_by (Stamped time) = true
is_timed_by Own = false
is_timed_by Closed = false
is_timed_by (Committed time) = true
is_timed_by (Unfinished j n) = false

-- a transaction with this begin sees the version
abbrev pub sees_by : ℕ → Resolution → Bool
sees_by begin Empty = false
sees_by begin (Stamped time) = nat_le time begin
sees_by begin Own = true
sees_by begin Closed = false
sees_by begin (Committed time) = nat_le time begin
sees_by begin (Unfinished j n) = false

-- what the session s found in the start word of the range's tail record n, or stored there
abbrev pub TimedAs : View → View → ℕ → ℕ → ℕ → Resolution → Type 0
TimedAs v w s range n Empty = Untimed v w s range n
TimedAs v w s range n (Stamped time) = Timed v w s range n
TimedAs v w s range n Own = OwnFound v w s range n
TimedAs v w s range n Closed = Untimed v w s range n
TimedAs v w s range n (Committed time) = Timed v w s range n
TimedAs v w s range n (Unfinished a b) = Untimed v w s range n
