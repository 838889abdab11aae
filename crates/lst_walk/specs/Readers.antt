-- A session that reads, and what its calls tell.
use Rattle.std.specs.Prelude.{◌≡◌, ◌⊎◌, ℕ, ◌+◌, ◌*◌, ◌/◌, ◌%◌, ◌<◌, true}
use Rattle.std.specs.List.{Contains}
use Rattle.lst_layout.specs.declared.place.Place.TheVariants.{CellWord}
use Rattle.lst_core_state.specs.declared.events.Event.TheVariants.{Stamp}
use Rattle.lst_core_state.specs.State.{name_of}
use Rattle.lst_rule.specs.declared.view.View.{View}
use Rattle.lst_rule.specs.Rule.{knows, hosts}
use Rattle.lst_rule.specs.Learned.{Made}
use Rattle.lst_rule.specs.declared.store.Store.{Store}
use Rattle.lst_rule.specs.Seats.{Sitting}
use Rattle.lst_rule.specs.Stores.{IsSeatOf, Looked}
use Rattle.lst_rule.specs.Copies.{Version, fact_of, IsVersionOf}
use Rattle.lst_rule.specs.Watching.{Watched}
use Rattle.lst_rule.specs.declared.status.Status.TheVariants.{Unfinished, Closed}
use Rattle.lst_rule.specs.Statuses.{Answers}

-- the session s has a transaction open, and this seat of the store hosts it
pub record IsReader (store : Store) (seat : Sitting) (s : ℕ) : Type 0 where
  pub seat_of : IsSeatOf store seat
  pub host : hosts seat.view s ≡ true
  pub own : s < seat.view.limits.sessions
  pub opened : (knows seat.view s).is_open ≡ true

-- c is a version that the session's facts have at the tail
pub record IsAt (v : View) (s tail : ℕ) (c : Version) : Type 0 where
  pub rec : ℕ
  pub is : IsVersionOf v.limits rec c
  pub known : Contains (knows v s).facts (fact_of c)
  pub at : c.tail ≡ tail

-- there is one
abbrev pub HasVersion : View → ℕ → ℕ → Type 0
HasVersion v s tail = (c : Version) × IsAt v s tail c

-- the session s asked for the status of the transaction, number n of the session j, and found it closed or unfinished
abbrev pub IsNotCommitted : View → View → ℕ → ℕ → ℕ → Type 0
IsNotCommitted v w s j n = Answers v w s j n Closed ⊎ Answers v w s j n (Unfinished j n)

-- between v and w the session s found the time in the start word of the range's tail record n, or stored it there
pub record Timed (v w : View) (s range n : ℕ) : Type 0 where
  pub before : View
  pub after : View
  pub first : Watched v before s
  pub time : ℕ
  pub some : 0 < time
  pub told : Looked before after s (CellWord (range * v.limits.tails + n) 0) (2 * time) ⊎ Made before after (Stamp s range n) (CellWord (range * v.limits.tails + n) 0) (2 * time)
  pub last : Watched after w s

-- between v and w it stored the time there
pub record Stamped (v w : View) (s range n time : ℕ) : Type 0 where
  pub before : View
  pub first : Watched v before s
  pub made : Made before w (Stamp s range n) (CellWord (range * v.limits.tails + n) 0) (2 * time)

-- between v and w it stored the commit time of the transaction there, or found the transaction closed or unfinished
abbrev pub Concludes : View → View → ℕ → ℕ → ℕ → ℕ → ℕ → Type 0
Concludes v w s range n session number = ((time : ℕ) × (0 < time) × Stamped v w s range n time) ⊎ IsNotCommitted v w s session number

-- between v and w it found the start word empty, or asked for the status of the transaction that it names, which is closed or unfinished
pub record Untimed (v w : View) (s range n : ℕ) : Type 0 where
  pub before : View
  pub after : View
  pub asked : View
  pub first : Watched v before s
  pub word : ℕ
  pub looked : Looked before after s (CellWord (range * v.limits.tails + n) 0) word
  pub why : ((word ≡ 0) × (asked ≡ after)) ⊎ ((word % 2 ≡ 1) × IsNotCommitted after asked s (word / 2 % 16) (word / 2 / 16))
  pub last : Watched asked w s

-- between v and w it found the start word to name its own transaction, the last one that it began
pub record OwnFound (v w : View) (s range n : ℕ) : Type 0 where
  pub before : View
  pub after : View
  pub first : Watched v before s
  pub looked : Looked before after s (CellWord (range * v.limits.tails + n) 0) (1 + 2 * name_of s (knows before s).number)
  pub last : Watched after w s

-- between v and w it resolved the version of the range's tail record n: its start word has the commit time, or nothing is to be stored there
abbrev pub Resolves : View → View → ℕ → ℕ → ℕ → Type 0
Resolves v w s range n = Timed v w s range n ⊎ (Untimed v w s range n ⊎ OwnFound v w s range n)

-- the version c of the range
abbrev pub IsResolved : View → View → ℕ → ℕ → Version → Type 0
IsResolved v w s range c = (n : ℕ) × (c.tail ≡ range * v.limits.tails + n) × Resolves v w s range n
