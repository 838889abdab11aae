-- The calls of a session step by step: which views lie between, and what leads from each to the next.
use Rattle.std.specs.Prelude.{◌≡◌, ◌≢◌, ◌⊎◌, ℕ, ◌+◌, ◌*◌, ◌<◌, ◌≤◌, List, [], true, false, length, slice_set, Bool, Option, None, Result, Ok, Err}
use Rattle.lst_layout.specs.Addresses.{address}
use Rattle.lst_layout.specs.declared.place.Place.TheVariants.{CommitWord, StateWord, HeadWord}
use Rattle.lst_model.specs.declared.acts.Act.{Act}
use Rattle.lst_model.specs.declared.acts.Act.TheVariants.{Put, Set, Del}
use Rattle.lst_model.specs.Cells.{Cell}
use Rattle.lst_model.specs.Histories.{row_from}
use Rattle.lst_model.specs.Soundness.{Fits}
use Rattle.lst_core_state.specs.declared.events.Event.TheVariants.{Latch, Install, Release}
use Rattle.lst_core_state.specs.Cells.{record_count, range_of}
use Rattle.lst_core_state.specs.State.{sight, no_hold, rank}
use Rattle.lst_core_state.specs.Step.{took, held_off}
use Rattle.lst_rule.specs.declared.view.View.{View}
use Rattle.lst_rule.specs.Rule.{knows, hosts}
use Rattle.lst_rule.specs.Learned.{Possible, Learns, Kept, Made}
use Rattle.lst_rule.specs.Watching.{Watched}
use Rattle.lst_index.specs.Searches.{IsPlaced, Ended, IsUnseen, Works, Keeps}
use Rattle.lst_index.specs.Placings.{Drew, DrawsAfterLook, FoundFull, Leaves, LeavesFull}
use Rattle.lst_txn.specs.Transactions.{Sees, Opens, Commits}
use Rattle.lst_retire.specs.Pins.{Pins, Unpins}
use Rattle.lst_write.specs.Holding.{Latches, FindsLatched}
use Rattle.lst_write.specs.Judgements.{HasJudged, FaultIs}
use Rattle.lst_write.specs.declared.judgement.JudgeFault.TheVariants as fault
use Rattle.lst_rule.specs.Posting.{Posts, AllPosted}
use Rattle.lst_write.specs.Appending.{Appends, HasWhole, FindsFull, InstallsHeld}
use Rattle.lst_walk.specs.Pages.{SavesRow}
use Rattle.lst_walk.specs.Walks.{IsRowOf}
use Rattle.lst_session.specs.declared.kinds.WriteRefusal.{WriteRefusal}
use Rattle.lst_session.specs.declared.kinds.WriteRefusal.TheVariants.{Idle, ReadOnly, Missing, Exists, TableFull, Latched, Newer, Unfinished, TailFull}
use Rattle.lst_session.specs.declared.kinds.Outcome.{Outcome}
use Rattle.lst_session.specs.declared.kinds.Outcome.TheVariants.{Committed, Ended as EndedAt}

-- ---- the record of a key

-- the key's run ended without it
pub record FindsNone (v w : View) (s key : ℕ) : Type 0 where
  pub works : Works v w s []
  pub kept : Kept v w
  pub keeps : Keeps (knows v s).placing (knows w s).placing
  pub ended : Ended w s key
  pub unseen : IsUnseen (knows w s) key

-- the key has the record
pub record FindsRecord (v w : View) (s rec key : ℕ) : Type 0 where
  pub works : Works v w s []
  pub kept : Kept v w
  pub keeps : Keeps (knows v s).placing (knows w s).placing
  pub low : rec < record_count v.limits
  pub placed : IsPlaced (knows w s) rec key

-- the key has the record, which may have been drawn for it
pub record PlacesRecord (v w : View) (s rec key : ℕ) : Type 0 where
  pub works : Works v w s []
  pub drew : Drew (knows v s).placing (knows w s).placing 1
  pub after_look : DrawsAfterLook v w s key
  pub free : (knows w s).placing.hand ≡ 0
  pub low : rec < record_count v.limits
  pub placed : IsPlaced (knows w s) rec key
  pub words : v.whole ≡ true → Leaves v.limits v.words w.words key rec

-- the key has no record, and each one was drawn
pub record FindsFullTable (v w : View) (s key : ℕ) : Type 0 where
  pub full : FoundFull v w s key
  pub free : (knows w s).placing.hand ≡ 0
  pub drew : Drew (knows v s).placing (knows w s).placing 0
  pub words : v.whole ≡ true → LeavesFull v.limits v.words w.words key

-- ---- reads

-- the row of the record, which was found between. A session with a pin took the pages of all columns in hand first
pub record ReadsRecord (v w : View) (s key : ℕ) (row : Option (List Cell)) : Type 0 where
  pub between : View
  pub rec : ℕ
  pub found : FindsRecord v between s rec key
  pub watched : Watched between w s
  pub is : IsRowOf between s rec row
  pub saves : 0 < (knows between s).pages.session.pin → SavesRow between w s rec

abbrev pub Reads : View → View → ℕ → ℕ → Option (List Cell) → Type 0
Reads v w s key row = ((row ≡ None) × FindsNone v w s key) ⊎ ReadsRecord v w s key row

-- ---- writes

-- the act puts a row
abbrev pub is_put : Act → Bool
is_put (Put row) = true
is_put (Set patch) = false
is_put Del = false

-- how an act is refused that doesn't fit
abbrev pub misfit_of : Act → WriteRefusal
misfit_of (Put row) = Exists
misfit_of (Set patch) = Missing
misfit_of Del = Missing

-- an act fits a row or doesn't
abbrev pub AgreesWith : Act → Option (List Cell) → Result (Unit {0}) WriteRefusal → Type 0
AgreesWith act row (Ok _) = Fits row act
AgreesWith act row (Err refusal) = ¬ Fits row act × (refusal ≡ misfit_of act)

-- the row of the key was read
pub record Agrees (v w : View) (s key : ℕ) (act : Act) (result : Result (Unit {0}) WriteRefusal) : Type 0 where
  pub watched : Watched v w s
  pub agrees : AgreesWith act (row_from None (sight (knows v s) key)) result

-- the chain was judged, and the act fits or doesn't
pub record Judges (v w : View) (s rec head key : ℕ) (act : Act) (result : Result (Unit {0}) WriteRefusal) : Type 0 where
  pub watched : Watched v w s
  pub judged : HasJudged w.limits (knows w s) s rec head
  pub agrees : AgreesWith act (row_from None (sight (knows w s) key)) result

-- a tail holds it, and is posted
pub record Prepared (v w : View) (s rec head key : ℕ) (act : Act) (n : ℕ) : Type 0 where
  pub between : View
  pub possible : Possible between
  pub judges : Judges v between s rec head key act (Ok tt)
  pub appended : View
  pub appends : Appends between appended s rec head n act
  pub posts : Posts appended w s
  pub whole : HasWhole w.limits (knows w s) s rec head n act
  pub posted : AllPosted w.limits (knows w s)

-- or no tail is left
pub record FoundTailsFull (v w : View) (s rec head key : ℕ) (act : Act) : Type 0 where
  pub between : View
  pub possible : Possible between
  pub judges : Judges v between s rec head key act (Ok tt)
  pub full : FindsFull between w s (range_of rec)

abbrev pub Prepares : View → View → ℕ → ℕ → ℕ → ℕ → Act → Result ℕ WriteRefusal → Type 0
Prepares v w s rec head key act (Ok n) = Prepared v w s rec head key act n
Prepares v w s rec head key act (Err (Newer time)) = Watched v w s × FaultIs v w s rec head (fault.Newer time)
Prepares v w s rec head key act (Err (Unfinished session number)) = Watched v w s × FaultIs v w s rec head (fault.Unfinished session number)
Prepares v w s rec head key act (Err TailFull) = FoundTailsFull v w s rec head key act
Prepares v w s rec head key act (Err refusal) = Judges v w s rec head key act (Err refusal)

-- the record was latched, and the act prepared
pub record Holding (v w : View) (s rec key : ℕ) (act : Act) (result : Result ℕ WriteRefusal) : Type 0 where
  pub head : ℕ
  pub between : View
  pub latches : Latches v between s rec head
  pub word : Made v between (Latch s rec) (HeadWord rec) (2 * head + 1)
  pub prepares : Prepares between w s rec head key act result

-- and then installed
pub record Installs (v w : View) (s rec key : ℕ) (act : Act) : Type 0 where
  pub number : ℕ
  pub between : View
  pub holding : Holding v between s rec key act (Ok number)
  pub installs : InstallsHeld between w s rec number
  pub word : Made between w (Install s) (HeadWord rec) (2 * number)

-- or the latch was given back
pub record Releases (v w : View) (s rec key : ℕ) (act : Act) (refusal : WriteRefusal) : Type 0 where
  pub between : View
  pub holding : Holding v between s rec key act (Err refusal)
  pub view : Learns between w s (record (knows between s) { hold = no_hold })
  pub word : Made between w (Release s) (HeadWord rec) (2 * holding.head)

-- or the record was found latched, never by a seat that hosts every session while none of them has this latch in hand
pub record IsLatched (v w : View) (s rec : ℕ) : Type 0 where
  pub finds : FindsLatched v w s rec
  pub kept : Kept v w
  pub other : ((t : ℕ) → t < v.limits.sessions → (hosts v t ≡ true) × ((knows v t).hold.latch ≢ rec + 1)) → ⊥

abbrev pub Tries : View → View → ℕ → ℕ → ℕ → Act → Result (Unit {0}) WriteRefusal → Type 0
Tries v w s rec key act (Ok _) = Installs v w s rec key act
Tries v w s rec key act (Err Latched) = IsLatched v w s rec
Tries v w s rec key act (Err refusal) = Releases v w s rec key act refusal

-- the record was placed, and the write tried
pub record TriesPlaced (v w : View) (s key : ℕ) (act : Act) (result : Result (Unit {0}) WriteRefusal) : Type 0 where
  pub between : View
  pub rec : ℕ
  pub places : PlacesRecord v between s rec key
  pub tries : Tries between w s rec key act result

-- the record was found, and the write tried
pub record TriesFound (v w : View) (s key : ℕ) (act : Act) (result : Result (Unit {0}) WriteRefusal) : Type 0 where
  pub between : View
  pub rec : ℕ
  pub finds : FindsRecord v between s rec key
  pub tries : Tries between w s rec key act result

-- a transaction is open that may write
abbrev pub MayWrite : View → ℕ → Type 0
MayWrite v s = ((knows v s).is_open ≡ true) × ((knows v s).read_only ≡ false)

abbrev pub IsRefusedAtOnce : View → View → ℕ → WriteRefusal → Type 0
IsRefusedAtOnce v w s Idle = (w ≡ v) × ((knows v s).is_open ≡ false)
IsRefusedAtOnce v w s ReadOnly = (w ≡ v) × ((knows v s).is_open ≡ true) × ((knows v s).read_only ≡ true)
IsRefusedAtOnce v w s refusal = ⊥

abbrev pub Inserts : View → View → ℕ → ℕ → Act → Result (Unit {0}) WriteRefusal → Type 0
Inserts v w s key act (Err Idle) = IsRefusedAtOnce v w s Idle
Inserts v w s key act (Err ReadOnly) = IsRefusedAtOnce v w s ReadOnly
Inserts v w s key act (Err TableFull) = MayWrite v s × FindsFullTable v w s key
Inserts v w s key act result = MayWrite v s × TriesPlaced v w s key act result

abbrev pub Changes : View → View → ℕ → ℕ → Act → Result (Unit {0}) WriteRefusal → Type 0
Changes v w s key act (Err Idle) = IsRefusedAtOnce v w s Idle
Changes v w s key act (Err ReadOnly) = IsRefusedAtOnce v w s ReadOnly
Changes v w s key act result = MayWrite v s × (((result ≡ Err Missing) × FindsNone v w s key) ⊎ TriesFound v w s key act result)

-- ---- begins

-- the session was pinned at an epoch that was loaded, and then its next transaction opened, with the begin b
pub record Begins (v w : View) (s clock b : ℕ) (read_only : Bool) : Type 0 where
  pub between : View
  pub pins : Pins v between s
  pub opens : Opens between w s clock b read_only

-- and before that the clock was loaded, and found not below the time
pub record BeginsAsOf (v w : View) (s clock time : ℕ) : Type 0 where
  pub before : ℕ
  pub between : View
  pub sees : Sees v between s before
  pub reached : time ≤ before
  pub begins : Begins between w s clock time true

-- ---- ends

-- the transaction, which is not committed, is closed, and then the pin taken away
pub record Closes (v w : View) (s : ℕ) : Type 0 where
  pub between : View
  pub view : Learns v between s (record (knows v s) { is_open = false; own = [] })
  pub words : between.words ≡ slice_set v.words (address v.limits (StateWord s (knows v s).number)) 1
  pub unpins : Unpins between w s

-- the turn is taken, and the transaction committed at the time, and then the pin taken away
pub record TakesAndCommits (v w : View) (s time : ℕ) : Type 0 where
  pub between : View
  pub takes : Learns v between s (took (knows v s))
  pub words : between.words ≡ slice_set v.words (address v.limits CommitWord) (s + 1)
  pub committed : View
  pub commits : Commits between committed s time
  pub unpins : Unpins committed w s

abbrev pub Ends : View → View → ℕ → Outcome → Type 0
Ends v w s (Committed time) = (0 < length (knows v s).own) × TakesAndCommits v w s time
Ends v w s (EndedAt time) = (length (knows v s).own ≡ 0) × (time ≡ (knows v s).begin) × Closes v w s

-- the commit word was found held
pub record Holds (v w : View) (s : ℕ) : Type 0 where
  pub writes : 0 < length (knows v s).own
  pub view : Learns v w s (held_off (knows v s))
  pub kept : Kept v w
  -- never by a seat that hosts every session while none of them has the turn
  pub other : ((t : ℕ) → t < v.limits.sessions → (hosts v t ≡ true) × (rank (knows v t).turn ≡ 0)) → ⊥
