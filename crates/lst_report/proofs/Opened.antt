-- What the state of a session, and what its open transaction sees, is bounded by.
use Rattle.std.proofs.Common.{◌≡◌, ℕ, ◌+◌, ◌<◌, ◌≤◌, ◌^◌, Bool, true, false, cond, nat_lt, List, [], ◌∷◌, ◌++◌, length, take, Option, Some, None, refl, sym, subst, ◌∙◌, arith}
use Rattle.std.specs.Prelude.{IfSome, ◌==◌}
use Rattle.std.specs.List.{AllByRecursion, list_any}
use Rattle.std.proofs.lemmas.Bool.{eqb-true}
use Rattle.std.proofs.ByRecursion.{All-append, All-take}
use Rattle.lst_model.specs.declared.acts.Act.{Act}
use Rattle.lst_model.specs.declared.acts.Act.TheVariants.{Put, Set, Del}
use Rattle.lst_model.specs.declared.acts.Write.{Write}
use Rattle.lst_model.specs.declared.commits.Commit.{Commit}
use Rattle.lst_model.specs.declared.lines.Line.{Line}
use Rattle.lst_model.specs.declared.lines.Line.TheVariants.{Phase, Merge, Call}
use Rattle.lst_model.specs.declared.lines.Call.{Call as CallKind}
use Rattle.lst_model.specs.declared.replies.Reply.{Reply}
use Rattle.lst_model.specs.declared.replies.Reply.TheVariants.{Begun, Done, Committed, Ended, Aborted}
use Rattle.lst_model.specs.Cells.{Cell, overlaid}
use Rattle.lst_model.specs.Tables.{row_of}
use Rattle.lst_model.specs.Histories.{row_after, row_from, acts_on, all_acts_on, joined}
use Rattle.lst_model.proofs.Folds.{get_snapshot}
use Rattle.lst_model.proofs.Overlays.{length-overlaid}
use Rattle.lst_replies.specs.declared.states.Transaction.{Transaction}
use Rattle.lst_replies.specs.declared.states.SessionState.{SessionState}
use Rattle.lst_replies.specs.ReportTexts.{CellFits}
use Rattle.lst_replies.specs.Runs.{Answered, answered, is_by, write_of}
use Rattle.lst_replies.specs.States.{unbegun, with_write, after_call, after_line, state_from, state_of, sight_of}
use Rattle.lst_report.proofs.Numbers.{ChangeFits, ActFits}

-- a key is in a list
abbrev pub is_among : List ℕ → ℕ → Bool
is_among keys key = list_any (λ other. key == other) keys

-- a row as wide as the table, with numbers of 64 bits
abbrev pub RowHolds : ℕ → List Cell → Type 0
RowHolds columns row = (length row ≡ columns) × AllByRecursion CellFits row

-- ---- rows and acts

overlaid_fits : (row : List Cell) (patch : List (Option Cell)) → AllByRecursion CellFits row → AllByRecursion ChangeFits patch → AllByRecursion CellFits (overlaid row patch)
overlaid_fits [] patch row changes = tt
overlaid_fits (cell ∷ row) [] cells changes = cells
overlaid_fits (cell ∷ row) (None ∷ patch) cells changes = (cells.0, overlaid_fits row patch cells.1 changes.1)
overlaid_fits (cell ∷ row) (Some other ∷ patch) cells changes = (changes.0, overlaid_fits row patch cells.1 changes.1)

module _ (columns : ℕ) (keys : List ℕ) where
  -- a key below 2^64, on which a line asks for a write
  abbrev pub KeyHolds : ℕ → Type 0
  KeyHolds key = (key < 2 ^ 64) × (is_among keys key ≡ true)

  abbrev pub WriteHolds : Write → Type 0
  WriteHolds write = KeyHolds write.key × ActFits columns write.act

  -- a row that stands at a key
  abbrev pub StandsAt : ℕ → List Cell → Type 0
  StandsAt key row = KeyHolds key × RowHolds columns row

  abbrev ActHolds : ℕ → Act → Type 0
  ActHolds key act = KeyHolds key × ActFits columns act

  one_act : (key : ℕ) (row : Option (List Cell)) (act : Act) → IfSome row (StandsAt key) → ActHolds key act → IfSome (row_after row act) (StandsAt key)
  one_act key row (Put cells) stands holds = holds
  one_act key None (Set patch) stands holds = tt
  one_act key (Some row) (Set patch) stands holds = (stands.0, (length-overlaid row patch ∙ stands.1.0, overlaid_fits row patch stands.1.1 holds.1))
  one_act key row Del stands holds = tt

  all_acts : (key : ℕ) (row : Option (List Cell)) (acts : List Act) → IfSome row (StandsAt key) → AllByRecursion (ActHolds key) acts → IfSome (row_from row acts) (StandsAt key)
  all_acts key row [] stands holds = stands
  all_acts key row (act ∷ acts) stands holds = all_acts key (row_after row act) acts (one_act key row act stands holds.0) holds.1

  acts_hold : (key : ℕ) (writes : List Write) → AllByRecursion WriteHolds writes → AllByRecursion (ActHolds key) (acts_on key writes)
  acts_hold key [] hold = tt
  acts_hold key (write ∷ writes) hold = by (write.key == key) refl (acts_hold key writes hold.1)
    where
      by : (same : Bool) → (write.key == key) ≡ same → AllByRecursion (ActHolds key) (acts_on key writes) → AllByRecursion (ActHolds key) (cond same (write.act ∷ acts_on key writes) (acts_on key writes))
      by true same later = ((subst KeyHolds (eqb-true write.key key same) hold.0.0, hold.0.1), later)
      by false other later = later

  commits_hold : (key : ℕ) (commits : List Commit) → AllByRecursion (λ (commit : Commit). AllByRecursion WriteHolds commit.writes) commits → AllByRecursion (ActHolds key) (all_acts_on key commits)
  commits_hold key [] hold = tt
  commits_hold key (commit ∷ commits) hold = All-append (ActHolds key) (acts_on key commit.writes) (all_acts_on key commits) (acts_hold key commit.writes hold.0) (commits_hold key commits hold.1)

  -- each row that is seen stands at its key
  pub row_stands : (history : List Commit) (transaction : Transaction) → AllByRecursion (λ (commit : Commit). AllByRecursion WriteHolds commit.writes) history → AllByRecursion WriteHolds transaction.writes
      → (key : ℕ) → IfSome (row_of (sight_of history transaction) key) (StandsAt key)
  row_stands history transaction commits own key =
      let earlier = all_acts_on key (take transaction.begin history) in
      let later = acts_on key transaction.writes in
      subst (λ (row : Option (List Cell)). IfSome row (StandsAt key)) (sym (get_snapshot history transaction.begin transaction.writes key))
      (all_acts key None (earlier ++ later) tt
      (All-append (ActHolds key) earlier later
      (commits_hold key (take transaction.begin history) (All-take (λ (commit : Commit). AllByRecursion WriteHolds commit.writes) transaction.begin history commits))
      (acts_hold key transaction.writes own)))

  -- ---- the state of a session

  module _ (top : ℕ) where
    -- a transaction of one of so many begins, begun by the top, with writes of the script
    pub record TransactionHolds (count : ℕ) (transaction : Transaction) : Type 0 where
      pub number : transaction.number ≤ count
      pub begin : transaction.begin ≤ top
      pub writes : AllByRecursion WriteHolds transaction.writes

    pub record StateHolds (count : ℕ) (state : SessionState) : Type 0 where
      pub begun : state.begun ≤ count
      pub current : IfSome state.current (TransactionHolds count)

    -- a line with its reply: what a call asks to write is of the script, and a begin is no later than the top
    abbrev pub BeginHolds : Reply → Type 0
    BeginHolds (Begun time) = time ≤ top
    BeginHolds reply = Unit {0}

    abbrev pub CallIsHeld : CallKind → Reply → Type 0
    CallIsHeld call reply = ((write : Write) → write_of call ≡ Some write → WriteHolds write) × BeginHolds reply

    abbrev pub OneIsHeld : Line → Reply → Type 0
    OneIsHeld Phase reply = Unit {0}
    OneIsHeld (Merge range column) reply = Unit {0}
    OneIsHeld (Call session call) reply = CallIsHeld call reply

    joined_hold : (writes : List Write) (new : Write) → AllByRecursion WriteHolds writes → WriteHolds new → AllByRecursion WriteHolds (joined writes new)
    joined_hold [] new hold one = (one, tt)
    joined_hold (write ∷ writes) new hold one = by (nat_lt new.key write.key) (joined_hold writes new hold.1 one)
      where
        by : (low : Bool) → AllByRecursion WriteHolds (joined writes new) → AllByRecursion WriteHolds (cond low (new ∷ write ∷ writes) (write ∷ joined writes new))
        by true behind = (one, hold)
        by false behind = (hold.0, behind)

    -- more may have begun
    later : (count : ℕ) (state : SessionState) → StateHolds count state → StateHolds (count + 1) state
    later count state holds = record { begun = omega (arith, holds.begun); current = by state.current holds.current }
      where
        by : (current : Option Transaction) → IfSome current (TransactionHolds count) → IfSome current (TransactionHolds (count + 1))
        by None holds = tt
        by (Some transaction) holds = record { number = omega (arith, holds.number); begin = holds.begin; writes = holds.writes }

    written : (count : ℕ) (write : Option Write) (current : Option Transaction) → ((one : Write) → write ≡ Some one → WriteHolds one) → IfSome current (TransactionHolds count) → IfSome (with_write write current) (TransactionHolds count)
    written count None current fits holds = holds
    written count (Some write) None fits holds = tt
    written count (Some write) (Some transaction) fits holds = record {
      number = holds.number;
      begin = holds.begin;
      writes = joined_hold transaction.writes write holds.writes (fits write refl);
    }

    call_holds : (count : ℕ) (call : CallKind) (reply : Reply) (state : SessionState) → CallIsHeld call reply → StateHolds count state → StateHolds (count + 1) (after_call call reply state)
    call_holds count call (Begun time) state held holds = record {
      begun = omega (arith, holds.begun);
      current = record { number = omega (arith, holds.begun); begin = held.1; writes = tt };
    }
    call_holds count call Done state held holds =
        let next = later count state holds in
        record { begun = next.begun; current = written (count + 1) (write_of call) state.current held.0 next.current }
    call_holds count call (Committed time) state held holds = record { begun = (later count state holds).begun; current = tt }
    call_holds count call (Ended time) state held holds = record { begun = (later count state holds).begun; current = tt }
    call_holds count call Aborted state held holds = record { begun = (later count state holds).begun; current = tt }
    call_holds count call reply state held holds = later count state holds

    line_holds : (session count : ℕ) (line : Line) (reply : Reply) (state : SessionState) → OneIsHeld line reply → StateHolds count state → StateHolds (count + 1) (after_line session (answered line reply) state)
    line_holds session count Phase reply state held holds = later count state holds
    line_holds session count (Merge range column) reply state held holds = later count state holds
    line_holds session count (Call speaker call) reply state held holds = by (is_by session (answered (Call speaker call) reply))
      where
        by : (own : Bool) → StateHolds (count + 1) (cond own (after_call call reply state) state)
        by true = call_holds count call reply state held holds
        by false = later count state holds

    all_hold : (session count : ℕ) (run : List Answered) (state : SessionState) → AllByRecursion (λ one. OneIsHeld one.line one.reply) run → StateHolds count state → StateHolds (count + length run) (state_from state session run)
    all_hold session count [] state held holds = subst (λ n. StateHolds n state) (omega arith) holds
    all_hold session count (one ∷ run) state held holds =
        subst (λ n. StateHolds n (state_from (after_line session one state) session run)) (omega arith)
        (all_hold session (count + 1) run (after_line session one state) held.1 (line_holds session count one.line one.reply state held.0 holds))

    pub state_holds : (session : ℕ) (run : List Answered) → AllByRecursion (λ one. OneIsHeld one.line one.reply) run → StateHolds (length run) (state_of session run)
    state_holds session run held = subst (λ n. StateHolds n (state_of session run)) (omega arith) (all_hold session 0 run unbegun held (record { begun = omega arith; current = tt }))
