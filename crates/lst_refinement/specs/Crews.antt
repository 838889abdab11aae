-- A store whose steps one crew has made, one after the other, between two of its calls.
use Rattle.std.specs.Prelude.{◌≡◌, ℕ, ◌<◌, ◌≤◌, ◌↔◌, true, None}
use Rattle.lst_core_state.specs.declared.known.Known.{Known}
use Rattle.lst_core_state.specs.Cells.{record_count}
use Rattle.lst_core_state.specs.Index.{is_placed}
use Rattle.lst_core_state.specs.State.{Core, no_hold, rank}
use Rattle.lst_core_state.specs.Sound.{Sound}
use Rattle.lst_pages.specs.Known.{PagesSound}

-- the session has no record, latch, tail or turn in hand
pub record IsIdle (k : Known) : Type 0 where
  pub rec : k.placing.hand ≡ 0
  pub hold : k.hold ≡ no_hold
  pub turn : rank k.turn ≡ 0

-- nobody has anything in hand, each record that was drawn is in the index, and no counter passed its limit
pub record IsCrew (c : Core) : Type 0 where
  pub sound : Sound c
  pub idle : (s : ℕ) → s < c.limits.sessions → IsIdle (c.known s)
  pub records : c.words.counter ≤ record_count c.limits
  pub placed : (r : ℕ) → r < c.words.counter → is_placed c.limits c.words.index r ≡ true
  pub tails : (range : ℕ) → range < c.limits.ranges → c.words.counts range ≤ c.limits.tails

-- the session has an epoch pinned exactly where it has a transaction open
abbrev pub IsPinnedWhereOpen : Known → Type 0
IsPinnedWhereOpen k = (0 < k.pages.session.pin) ↔ (k.is_open ≡ true)

-- the pages are sound, no frame waits to be retired, and each session is pinned where it has a transaction open
pub record IsPinnedCrew (c : Core) : Type 0 where
  pub crew : IsCrew c
  pub pages : PagesSound c
  pub retired : c.merger.pages.stock.waiting ≡ None
  pub pinned : (s : ℕ) → s < c.limits.sessions → IsPinnedWhereOpen (c.known s)
