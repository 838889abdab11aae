-- The state of a session behind a line, and its outline.
use Rattle.std.proofs.Common.{◌≡◌, ℕ, ◌+◌, ◌<◌, ◌≤◌, Bool, true, false, cond, ◌||◌, List, [], ◌∷◌, ◌++◌, length, get_or, set, Option, Some, None, option_map, is_some, eqb, nat_lt, refl, sym, ap, ◌∙◌, subst, arith}
use Rattle.std.proofs.lemmas.Bool.{eqb-true, eqb-false}
use Rattle.std.proofs.lemmas.List.{get_or-set_same, get_or-set_other, length-set}
use Rattle.lst_model.specs.declared.acts.Write.{Write}
use Rattle.lst_model.specs.declared.lines.Line.{Line}
use Rattle.lst_model.specs.declared.lines.Line.TheVariants.{Phase, Merge, Call}
use Rattle.lst_model.specs.declared.lines.Call.{Call as CallKind}
use Rattle.lst_model.specs.declared.replies.Reply.{Reply}
use Rattle.lst_model.specs.declared.replies.Reply.TheVariants.{Begun, Done, Row, Absent, Committed, Ended, Aborted, Sum, Count, Rows, Keys, Refused, Merged, NothingNew, NoFrame, Silent}
use Rattle.lst_model.specs.Histories.{joined}
use Rattle.lst_replies.specs.declared.states.Transaction.{Transaction}
use Rattle.lst_replies.specs.declared.states.SessionState.{SessionState}
use Rattle.lst_replies.specs.Runs.{Answered, answered, write_of}
use Rattle.lst_replies.specs.States.{after_call, after_line, with_write, state_from, state_of, unbegun}
use Rattle.lst_legal_runs.specs.declared.outlines.StateOutline.{StateOutline}
use Rattle.lst_legal_runs.specs.Outlines.{has_items, outline_of_open, outline_of, outline_after}
use Rattle.lst_legal_runs.specs.Places.{AreOutlines}

-- ---- one more line

state_from-push : (state : SessionState) (session : ℕ) (front : List Answered) (one : Answered) → state_from state session (front ++ one ∷ []) ≡ after_line session one (state_from state session front)
state_from-push state session [] one = refl
state_from-push state session (first ∷ front) one = state_from-push (after_line session first state) session front one

pub state_of-push : (session : ℕ) (front : List Answered) (one : Answered) → state_of session (front ++ one ∷ []) ≡ after_line session one (state_of session front)
state_of-push session front one = state_from-push unbegun session front one

-- ---- how many were begun

begun_after : (call : CallKind) (reply : Reply) (state : SessionState) → (after_call call reply state).begun ≤ state.begun + 1
begun_after call (Begun time) state = omega arith
begun_after call Done state = omega arith
begun_after call (Row row) state = omega arith
begun_after call Absent state = omega arith
begun_after call (Committed time) state = omega arith
begun_after call (Ended time) state = omega arith
begun_after call Aborted state = omega arith
begun_after call (Sum total) state = omega arith
begun_after call (Count rows) state = omega arith
begun_after call (Rows list) state = omega arith
begun_after call (Keys list) state = omega arith
begun_after call (Refused cause) state = omega arith
begun_after call (Merged tps) state = omega arith
begun_after call (NothingNew tps) state = omega arith
begun_after call (NoFrame session) state = omega arith
begun_after call Silent state = omega arith

begun_line : (session : ℕ) (one : Answered) (state : SessionState) → (after_line session one state).begun ≤ state.begun + 1
begun_line session one state = by_line one.line refl
  where
    if_spoken : (b : Bool) (call : CallKind) → (cond b (after_call call one.reply state) state).begun ≤ state.begun + 1
    if_spoken true call = begun_after call one.reply state
    if_spoken false call = omega arith

    by_line : (line : Line) → one.line ≡ line → (after_line session (answered line one.reply) state).begun ≤ state.begun + 1
    by_line Phase is = omega arith
    by_line (Merge range column) is = omega arith
    by_line (Call speaker call) is = if_spoken (eqb speaker session) call

begun_from : (session : ℕ) (front : List Answered) (state : SessionState) → (state_from state session front).begun ≤ state.begun + length front
begun_from session [] state = omega arith
begun_from session (one ∷ front) state = let h = begun_from session front (after_line session one state) in let g = begun_line session one state in omega arith

pub begun-le : (session : ℕ) (front : List Answered) → (state_of session front).begun ≤ length front
begun-le session front = let h = begun_from session front unbegun in omega arith

-- ---- outlines

items_joined : (writes : List Write) (write : Write) → has_items (joined writes write) ≡ true
items_joined [] write = refl
items_joined (first ∷ writes) write = by_test (nat_lt write.key first.key)
  where
    by_test : (b : Bool) → has_items (cond b (write ∷ first ∷ writes) (first ∷ joined writes write)) ≡ true
    by_test true = refl
    by_test false = refl

or_false : (b : Bool) → (b || false) ≡ b
or_false true = refl
or_false false = refl

or_true : (b : Bool) → (b || true) ≡ true
or_true true = refl
or_true false = refl

outline_written : (write : Option Write) (current : Option Transaction) → option_map outline_of_open (with_write write current) ≡ option_map (λ current. record { number = current.number; begin = current.begin; read_only = current.read_only; has_writes = current.has_writes || is_some write }) (option_map outline_of_open current)
outline_written None None = refl
outline_written None (Some transaction) = ap (λ b. Some (record { number = transaction.number; begin = transaction.begin; read_only = transaction.read_only; has_writes = b })) (sym (or_false (has_items transaction.writes)))
outline_written (Some write) None = refl
outline_written (Some write) (Some transaction) = ap (λ b. Some (record { number = transaction.number; begin = transaction.begin; read_only = transaction.read_only; has_writes = b })) (items_joined transaction.writes write ∙ sym (or_true (has_items transaction.writes)))

pub outline_of-after : (call : CallKind) (reply : Reply) (state : SessionState) → outline_of (after_call call reply state) ≡ outline_after call reply (outline_of state)
outline_of-after call (Begun time) state = refl
outline_of-after call Done state = ap (λ current. record { begun = state.begun; current = current }) (outline_written (write_of call) state.current)
outline_of-after call (Row row) state = refl
outline_of-after call Absent state = refl
outline_of-after call (Committed time) state = refl
outline_of-after call (Ended time) state = refl
outline_of-after call Aborted state = refl
outline_of-after call (Sum total) state = refl
outline_of-after call (Count rows) state = refl
outline_of-after call (Rows list) state = refl
outline_of-after call (Keys list) state = refl
outline_of-after call (Refused cause) state = refl
outline_of-after call (Merged tps) state = refl
outline_of-after call (NothingNew tps) state = refl
outline_of-after call (NoFrame session) state = refl
outline_of-after call Silent state = refl

-- ---- the outlines of all sessions, one line on

module _ (outlines : List StateOutline) (front : List Answered) (reply : Reply) where
  pub outlines_phase : AreOutlines outlines front → AreOutlines outlines (front ++ answered Phase reply ∷ [])
  outlines_phase are session none below = are session none below ∙ ap outline_of (sym (state_of-push session front (answered Phase reply)))

  pub outlines_merge : (range column : ℕ) → AreOutlines outlines front → AreOutlines outlines (front ++ answered (Merge range column) reply ∷ [])
  outlines_merge range column are session none below = are session none below ∙ ap outline_of (sym (state_of-push session front (answered (Merge range column) reply)))

  pub outlines_call : (speaker : ℕ) (call : CallKind) (outline : StateOutline) → speaker < length outlines → outline ≡ outline_after call reply (outline_of (state_of speaker front)) → AreOutlines outlines front → AreOutlines (set outlines speaker outline) (front ++ answered (Call speaker call) reply ∷ [])
  outlines_call speaker call outline within is are session none below =
      by_test (eqb speaker session) refl ∙ ap outline_of (sym (state_of-push session front (answered (Call speaker call) reply)))
    where
      by_test : (b : Bool) → eqb speaker session ≡ b → get_or (set outlines speaker outline) session none ≡ outline_of (cond b (after_call call reply (state_of session front)) (state_of session front))
      by_test true same =
          subst (λ (s : ℕ). get_or (set outlines speaker outline) s none ≡ outline_of (after_call call reply (state_of s front))) (eqb-true speaker session same)
          (get_or-set_same outlines speaker outline none within ∙ is ∙ sym (outline_of-after call reply (state_of speaker front)))
      by_test false other =
          get_or-set_other outlines speaker session outline none (λ e. eqb-false speaker session other (sym e))
          ∙ are session none (subst (λ (n : ℕ). session < n) (length-set outlines speaker outline) below)

pub outlines_few : (outlines : List StateOutline) (front : List Answered) (session limit : ℕ) (none : StateOutline) → AreOutlines outlines front → session < length outlines → length front < limit → (get_or outlines session none).begun < limit
outlines_few outlines front session limit none are below short =
    let same : (get_or outlines session none).begun ≡ (state_of session front).begun = ap (λ (o : StateOutline). o.begun) (are session none below) in
    let few = begun-le session front in
    omega arith
