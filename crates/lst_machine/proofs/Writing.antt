-- The machine's answer to a write, and the state after it, by what the write finds.
use Rattle.std.proofs.Common.{◌≡◌, ℕ, ◌*◌, Bool, true, false, cond, not, List, [], ◌∷◌, ◌++◌, length, refl, sym, ap, ◌∙◌}
use Rattle.std.specs.Prelude.{Option, Some, None, is_some, is_none, nat_le, ◌&&◌}
use Rattle.lst_layout.specs.declared.limits.Limits.{Limits}
use Rattle.lst_model.specs.declared.acts.Act.{Act}
use Rattle.lst_model.specs.declared.acts.Act.TheVariants.{Put, Set, Del}
use Rattle.lst_model.specs.declared.lines.Line.TheVariants as line
use Rattle.lst_model.specs.declared.lines.Call.TheVariants as call
use Rattle.lst_model.specs.declared.replies.Reply.{Reply}
use Rattle.lst_model.specs.declared.replies.Reply.TheVariants.{Done, Refused}
use Rattle.lst_model.specs.declared.replies.Cause.{Cause}
use Rattle.lst_model.specs.declared.replies.Cause.TheVariants.{Idle, ReadOnly, Missing, TableFull, TailFull}
use Rattle.lst_model.specs.Cells.{Cell}
use Rattle.lst_model.specs.Tables.{row_of}
use Rattle.lst_machine.specs.State.{Opened, Store, State}
use Rattle.lst_machine.specs.Writes.{place_of, is_placed, range_of, conflict_of, sight_of}
use Rattle.lst_machine.specs.Calls.{first_of, where_true, refused_or, in_open, is_range_full, with_placed, placed_unless, accepted_unless, early_insert_refusal, late_insert_refusal, insert_refusal, change_refusal, after_insert, after_change}
use Rattle.lst_machine.specs.Changes.{IsChange, misfit}
use Rattle.lst_machine.specs.Machines.{accepts, write_refusal}
use Rattle.lst_machine.proofs.Answering.{Answers}

single : (cause : Option Cause) → first_of (cause ∷ []) ≡ cause
single None = refl
single (Some cause) = refl

-- what isn't there, by a test
pub absent : {A : Type 0} (found : Option A) → is_some found ≡ false → None ≡ found
absent None is = refl
absent (Some x) is = absurd (cc)

-- what refuses a write to a key that has a record
module _ (limits : Limits) (store : Store) (s begin key : ℕ) (act : Act) where
  pub refused_by : (conflict : Option Cause) → conflict ≡ conflict_of store s begin key → (row : Option (List Cell)) → row ≡ row_of (sight_of limits store s begin) key → (full : Bool) → full ≡ is_range_full limits store key
      → first_of (conflict ∷ misfit row act ∷ where_true full TailFull ∷ []) ≡ write_refusal limits store s begin key act
  refused_by conflict in_way row seen full count = λ i. first_of (in_way i ∷ misfit (seen i) act ∷ where_true (count i) TailFull ∷ [])

  pub by_conflict : (cause : Cause) → Some cause ≡ conflict_of store s begin key → Some cause ≡ write_refusal limits store s begin key act
  by_conflict cause in_way = refused_by (Some cause) in_way (row_of (sight_of limits store s begin) key) refl (is_range_full limits store key) refl

  pub by_misfit : None ≡ conflict_of store s begin key → (cause : Cause) (row : Option (List Cell)) → row ≡ row_of (sight_of limits store s begin) key → Some cause ≡ misfit row act → Some cause ≡ write_refusal limits store s begin key act
  by_misfit free cause row seen fits =
      ap (λ (m : Option Cause). first_of (None ∷ m ∷ where_true (is_range_full limits store key) TailFull ∷ [])) fits
      ∙ refused_by None free row seen (is_range_full limits store key) refl

  pub by_room : None ≡ conflict_of store s begin key → (row : Option (List Cell)) → row ≡ row_of (sight_of limits store s begin) key → None ≡ misfit row act → (full : Bool) → full ≡ is_range_full limits store key
      → where_true full TailFull ≡ write_refusal limits store s begin key act
  by_room free row seen fits full count =
      sym (single (where_true full TailFull))
      ∙ ap (λ (m : Option Cause). first_of (None ∷ m ∷ where_true full TailFull ∷ [])) fits
      ∙ refused_by None free row seen full count

-- a write to a key that has a record: the answer, and the state after it
module _ (limits : Limits) (state : State) (s begin key : ℕ) (act : Act) where
  abbrev pub Writes : Reply → State → Type 0
  Writes answer after = (answer ≡ refused_or (write_refusal limits state.store s begin key act) Done) × (after ≡ record state { store = accepted_unless (write_refusal limits state.store s begin key act) state.store s key act })

  pub write_refused : (cause : Cause) → Some cause ≡ write_refusal limits state.store s begin key act → Writes (Refused cause) state
  write_refused cause is = (
    ap (λ (r : Option Cause). refused_or r Done) is,
    ap (λ (r : Option Cause). record state { store = accepted_unless r state.store s key act }) is,
  )

  pub write_done : None ≡ write_refusal limits state.store s begin key act → (range : ℕ) → range ≡ range_of state.store.placed key → (number : ℕ) → number ≡ state.store.begins s → (made : Act) → made ≡ act
      → (after : State) → after ≡ accepts state range (record { session = s; number = number; write = record { key = key; act = made } }) → Writes Done after
  write_done free range at number last made is after shown = (
    ap (λ (r : Option Cause). refused_or r Done) free,
    shown
        ∙ (λ i. accepts state (at i) (record { session = s; number = last i; write = record { key = key; act = is i } }))
        ∙ ap (λ (r : Option Cause). record state { store = accepted_unless r state.store s key act }) free,
  )

-- without an open transaction
pub insert_idle : (limits : Limits) (state : State) (s key : ℕ) (row : List Cell) → None ≡ state.store.opened s → Answers limits state (line.Call s (call.Insert key row)) (Refused Idle) state
insert_idle limits state s key row is = (
  ap (λ (o : Option Opened). in_open o (λ transaction. refused_or (insert_refusal limits state.store s transaction key) Done)) is,
  ap (λ (o : Option Opened). record state { store = after_insert limits state.store s o key (Put row) }) is,
)

pub change_idle : (limits : Limits) (state : State) (s key : ℕ) (act : Act) → None ≡ state.store.opened s
    → (Refused Idle ≡ in_open (state.store.opened s) (λ transaction. refused_or (change_refusal limits state.store s transaction key) Done)) × (state ≡ record state { store = after_change limits state.store s (state.store.opened s) key act })
change_idle limits state s key act is = (
  ap (λ (o : Option Opened). in_open o (λ transaction. refused_or (change_refusal limits state.store s transaction key) Done)) is,
  ap (λ (o : Option Opened). record state { store = after_change limits state.store s o key act }) is,
)

module _ (limits : Limits) (state : State) (s : ℕ) (transaction : Opened) (is_open : Some transaction ≡ state.store.opened s) (key : ℕ) where
  abbrev store : Store
  store = state.store

  -- ---- an insert

  inserts : (row : List Cell) (refusal : Option Cause) → refusal ≡ insert_refusal limits store s transaction key → (early : Option Cause) → early ≡ early_insert_refusal limits store transaction key
      → Answers limits state (line.Call s (call.Insert key row)) (refused_or refusal Done) (record state { store = accepted_unless refusal (placed_unless early store key) s key (Put row) })
  inserts row refusal is early at = (
    ap (λ (r : Option Cause). refused_or r Done) is ∙ ap (λ (o : Option Opened). in_open o (λ transaction. refused_or (insert_refusal limits store s transaction key) Done)) is_open,
    (λ i. record state { store = accepted_unless (is i) (placed_unless (at i) store key) s key (Put row) })
        ∙ ap (λ (o : Option Opened). record state { store = after_insert limits store s o key (Put row) }) is_open,
  )

  early_is : (read_only : Bool) → read_only ≡ transaction.read_only → (full : Bool) → full ≡ (not (is_placed store.placed key) && nat_le (256 * limits.ranges) (length store.placed))
      → first_of (where_true read_only ReadOnly ∷ where_true full TableFull ∷ []) ≡ early_insert_refusal limits store transaction key
  early_is read_only is full at = λ i. first_of (where_true (is i) ReadOnly ∷ where_true (at i) TableFull ∷ [])

  refused_early : (cause : Cause) → Some cause ≡ early_insert_refusal limits store transaction key → Some cause ≡ insert_refusal limits store s transaction key
  refused_early cause is = ap (λ (c : Option Cause). first_of (c ∷ late_insert_refusal limits (with_placed store key) s transaction key ∷ [])) is

  pub insert_read_only : (row : List Cell) → true ≡ transaction.read_only → Answers limits state (line.Call s (call.Insert key row)) (Refused ReadOnly) state
  insert_read_only row is =
      let early = early_is true is (not (is_placed store.placed key) && nat_le (256 * limits.ranges) (length store.placed)) refl in
      inserts row (Some ReadOnly) (refused_early ReadOnly early) (Some ReadOnly) early

  pub insert_full : (row : List Cell) → false ≡ transaction.read_only → None ≡ place_of store.placed key → true ≡ nat_le (256 * limits.ranges) (length store.placed) → Answers limits state (line.Call s (call.Insert key row)) (Refused TableFull) state
  insert_full row writes absent full =
      let early = early_is false writes true (λ i. not (is_some (absent i)) && full i) in
      inserts row (Some TableFull) (refused_early TableFull early) (Some TableFull) early

  late_is : (row : List Cell) → None ≡ early_insert_refusal limits store transaction key → (refusal : Option Cause) → refusal ≡ write_refusal limits (with_placed store key) s transaction.begin key (Put row)
      → refusal ≡ insert_refusal limits store s transaction key
  late_is row free refusal is =
      is
      ∙ sym (single (write_refusal limits (with_placed store key) s transaction.begin key (Put row)))
      ∙ ap (λ (c : Option Cause). first_of (c ∷ write_refusal limits (with_placed store key) s transaction.begin key (Put row) ∷ [])) free

  -- the key has no record yet, and there is room for one
  pub insert_first : (row : List Cell) → false ≡ transaction.read_only → None ≡ place_of store.placed key → false ≡ nat_le (256 * limits.ranges) (length store.placed)
      → Answers limits state (line.Call s (call.Insert key row)) (refused_or (write_refusal limits (with_placed store key) s transaction.begin key (Put row)) Done)
      (record state { store = accepted_unless (write_refusal limits (with_placed store key) s transaction.begin key (Put row)) (with_placed store key) s key (Put row) })
  insert_first row writes absent room =
      let early = early_is false writes false (λ i. not (is_some (absent i)) && room i) in
      inserts row (write_refusal limits (with_placed store key) s transaction.begin key (Put row)) (late_is row early (write_refusal limits (with_placed store key) s transaction.begin key (Put row)) refl) None early

  -- the key has a record
  pub insert_again : (row : List Cell) → false ≡ transaction.read_only → (place : ℕ) → Some place ≡ place_of store.placed key
      → Answers limits state (line.Call s (call.Insert key row)) (refused_or (write_refusal limits store s transaction.begin key (Put row)) Done)
      (record state { store = accepted_unless (write_refusal limits store s transaction.begin key (Put row)) store s key (Put row) })
  insert_again row writes place found =
      let early = early_is false writes false (ap (λ (o : Option ℕ). not (is_some o) && nat_le (256 * limits.ranges) (length store.placed)) found) in
      let same : store ≡ with_placed store key = ap (λ (o : Option ℕ). record store { placed = cond (is_some o) store.placed (store.placed ++ key ∷ []) }) found in
      let done = inserts row (write_refusal limits (with_placed store key) s transaction.begin key (Put row)) (late_is row early (write_refusal limits (with_placed store key) s transaction.begin key (Put row)) refl) None early in (
        ap (λ (st : Store). refused_or (write_refusal limits st s transaction.begin key (Put row)) Done) same ∙ done.0,
        ap (λ (st : Store). record state { store = accepted_unless (write_refusal limits st s transaction.begin key (Put row)) st s key (Put row) }) same ∙ done.1,
      )

  -- ---- an update or a delete

  abbrev pub Changes : Act → Reply → State → Type 0
  Changes act answer after = (answer ≡ in_open (store.opened s) (λ transaction. refused_or (change_refusal limits store s transaction key) Done)) × (after ≡ record state { store = after_change limits store s (store.opened s) key act })

  changes : (act : Act) (refusal : Option Cause) → refusal ≡ change_refusal limits store s transaction key → Changes act (refused_or refusal Done) (record state { store = accepted_unless refusal store s key act })
  changes act refusal is = (
    ap (λ (r : Option Cause). refused_or r Done) is ∙ ap (λ (o : Option Opened). in_open o (λ transaction. refused_or (change_refusal limits store s transaction key) Done)) is_open,
    ap (λ (r : Option Cause). record state { store = accepted_unless r store s key act }) is ∙ ap (λ (o : Option Opened). record state { store = after_change limits store s o key act }) is_open,
  )

  change_is : (read_only : Bool) → read_only ≡ transaction.read_only → (found : Option ℕ) → found ≡ place_of store.placed key
      → first_of (where_true read_only ReadOnly ∷ where_true (not (is_some found)) Missing ∷ conflict_of store s transaction.begin key ∷ where_true (is_none (row_of (sight_of limits store s transaction.begin) key)) Missing ∷ where_true (is_range_full limits store key) TailFull ∷ [])
      ≡ change_refusal limits store s transaction key
  change_is read_only is found at = λ i. first_of (where_true (is i) ReadOnly ∷ where_true (not (is_some (at i))) Missing ∷ conflict_of store s transaction.begin key
      ∷ where_true (is_none (row_of (sight_of limits store s transaction.begin) key)) Missing ∷ where_true (is_range_full limits store key) TailFull ∷ [])

  pub change_read_only : (act : Act) → true ≡ transaction.read_only → Changes act (Refused ReadOnly) state
  change_read_only act is = changes act (Some ReadOnly) (change_is true is (place_of store.placed key) refl)

  pub change_missing : (act : Act) → false ≡ transaction.read_only → None ≡ place_of store.placed key → Changes act (Refused Missing) state
  change_missing act writes absent = changes act (Some Missing) (change_is false writes None absent)

  asked : (act : Act) → IsChange act → write_refusal limits store s transaction.begin key act
      ≡ first_of (conflict_of store s transaction.begin key ∷ where_true (is_none (row_of (sight_of limits store s transaction.begin) key)) Missing ∷ where_true (is_range_full limits store key) TailFull ∷ [])
  asked (Put cells) is = absurd is
  asked (Set patch) is = refl
  asked Del is = refl

  pub change_again : (act : Act) → IsChange act → false ≡ transaction.read_only → (place : ℕ) → Some place ≡ place_of store.placed key
      → Changes act (refused_or (write_refusal limits store s transaction.begin key act) Done) (record state { store = accepted_unless (write_refusal limits store s transaction.begin key act) store s key act })
  change_again act is writes place found = changes act (write_refusal limits store s transaction.begin key act) (asked act is ∙ change_is false writes (Some place) found)

  -- ---- by what a write to the key's record answers

  pub inserted_again : (row : List Cell) (made : Act) → made ≡ Put row → false ≡ transaction.read_only → (found : Option ℕ) → found ≡ place_of store.placed key → is_some found ≡ true → (answer : Reply) (after : State)
      → Writes limits state s transaction.begin key made answer after → Answers limits state (line.Call s (call.Insert key row)) answer after
  inserted_again row made is writes None at some answer after written = absurd (cc)
  inserted_again row made is writes (Some place) at some answer after written =
      let done = insert_again row writes place at in (
        written.0 ∙ ap (λ (a : Act). refused_or (write_refusal limits store s transaction.begin key a) Done) is ∙ done.0,
        written.1 ∙ ap (λ (a : Act). record state { store = accepted_unless (write_refusal limits store s transaction.begin key a) store s key a }) is ∙ done.1,
      )

  pub inserted_first : (row : List Cell) (made : Act) → made ≡ Put row → false ≡ transaction.read_only → None ≡ place_of store.placed key → false ≡ nat_le (256 * limits.ranges) (length store.placed) → (answer : Reply) (after : State)
      → (answer ≡ refused_or (write_refusal limits (with_placed store key) s transaction.begin key made) Done)
      × (after ≡ record state { store = accepted_unless (write_refusal limits (with_placed store key) s transaction.begin key made) (with_placed store key) s key made })
      → Answers limits state (line.Call s (call.Insert key row)) answer after
  inserted_first row made is writes absent room answer after written =
      let done = insert_first row writes absent room in (
        written.0 ∙ ap (λ (a : Act). refused_or (write_refusal limits (with_placed store key) s transaction.begin key a) Done) is ∙ done.0,
        written.1 ∙ ap (λ (a : Act). record state { store = accepted_unless (write_refusal limits (with_placed store key) s transaction.begin key a) (with_placed store key) s key a }) is ∙ done.1,
      )

  pub changed_again : (act : Act) → IsChange act → false ≡ transaction.read_only → (found : Option ℕ) → found ≡ place_of store.placed key → is_some found ≡ true → (answer : Reply) (after : State)
      → Writes limits state s transaction.begin key act answer after → Changes act answer after
  changed_again act is writes None at some answer after written = absurd (cc)
  changed_again act is writes (Some place) at some answer after written =
      let done = change_again act is writes place at in (written.0 ∙ done.0, written.1 ∙ done.1)
