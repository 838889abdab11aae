-- The machine's answer to a call, and the state after it, by what the call finds.
use Rattle.std.proofs.Common.{◌≡◌, ℕ, Bool, true, false, cond, List, [], ◌∷◌, ◌+◌, length, refl, sym, ap, ◌∙◌}
use Rattle.std.proofs.lemmas.Bool.{eq-eqb, ne_eqb}
use Rattle.std.specs.Prelude.{Option, Some, None, nat_lt, ◌==◌}
use Rattle.lst_layout.specs.declared.limits.Limits.{Limits}
use Rattle.lst_model.specs.declared.acts.Write.{Write}
use Rattle.lst_model.specs.declared.lines.Line.{Line}
use Rattle.lst_model.specs.declared.lines.Line.TheVariants as line
use Rattle.lst_model.specs.declared.lines.Call.{Call}
use Rattle.lst_model.specs.declared.lines.Call.TheVariants as call
use Rattle.lst_model.specs.declared.replies.Reply.{Reply}
use Rattle.lst_model.specs.declared.replies.Reply.TheVariants.{Begun, Committed, Ended, Aborted, Refused, Merged, NothingNew, NoFrame}
use Rattle.lst_model.specs.declared.replies.Cause.{Cause}
use Rattle.lst_model.specs.declared.replies.Cause.TheVariants.{Idle, Future, NotIndexed}
use Rattle.lst_model.specs.Cells.{Cell}
use Rattle.lst_model.specs.Tables.{row_of}
use Rattle.lst_machine.specs.State.{Opened, Store, State}
use Rattle.lst_machine.specs.Writes.{own_writes, sight_of}
use Rattle.lst_machine.specs.Calls.{first_of, where_true, refused_or, in_open, begin_refusal, as_of_refusal, opened_unless, row_reply, call_reply, end_reply, with_commit, after_commit, after_abort}
use Rattle.lst_machine.specs.Merges.{settled_count, holds_frame, lowest_where, merge_reply, merge_reply_at, swapped_where, begun_unless, ended_where}
use Rattle.lst_machine.specs.Machine.{reply, next}
use Rattle.lst_machine.specs.Scans.{IsScan, scan_answer, lacks_index}
use Rattle.lst_machine.proofs.Scanning.{scan_reply}
use Rattle.lst_machine.specs.Machines.{opens, forgets, closes, commits, swaps}

-- the answer to a line, and the state after it
abbrev pub Answers : Limits → State → Line → Reply → State → Type 0
Answers limits state l answer after = (answer ≡ reply limits state l) × (after ≡ next limits state l)

module _ (limits : Limits) (state : State) (s : ℕ) where
  -- ---- begin and as-of

  begins : (refusal : Option Cause) → refusal ≡ begin_refusal limits state.store s
      → Answers limits state (line.Call s call.Begin) (refused_or refusal (Begun (length state.store.history)))
      (record { store = opened_unless refusal state.store s (length state.store.history) false; pages = begun_unless refusal state.pages s })
  begins refusal is = (
    ap (λ (r : Option Cause). refused_or r (Begun (length state.store.history))) is,
    ap (λ (r : Option Cause). record { store = opened_unless r state.store s (length state.store.history) false; pages = begun_unless r state.pages s }) is,
  )

  pub begin_refused : (cause : Cause) → Some cause ≡ begin_refusal limits state.store s → Answers limits state (line.Call s call.Begin) (Refused cause) state
  begin_refused cause is = begins (Some cause) is

  pub begin_done : None ≡ begin_refusal limits state.store s → Answers limits state (line.Call s call.Begin) (Begun (length state.store.history)) (opens state s (length state.store.history) false)
  begin_done is = begins None is

  as_ofs : (time : ℕ) (refusal : Option Cause) → refusal ≡ as_of_refusal limits state.store s time
      → Answers limits state (line.Call s (call.AsOf time)) (refused_or refusal (Begun time)) (record { store = opened_unless refusal state.store s time true; pages = begun_unless refusal state.pages s })
  as_ofs time refusal is = (
    ap (λ (r : Option Cause). refused_or r (Begun time)) is,
    ap (λ (r : Option Cause). record { store = opened_unless r state.store s time true; pages = begun_unless r state.pages s }) is,
  )

  as_of_is : (time : ℕ) (first : Option Cause) → first ≡ begin_refusal limits state.store s → (late : Bool) → late ≡ nat_lt (length state.store.history) time
      → first_of (first ∷ where_true late (Future (length state.store.history)) ∷ []) ≡ as_of_refusal limits state.store s time
  as_of_is time first is late at = λ i. first_of (is i ∷ where_true (at i) (Future (length state.store.history)) ∷ [])

  pub as_of_refused : (time : ℕ) (cause : Cause) → Some cause ≡ begin_refusal limits state.store s → Answers limits state (line.Call s (call.AsOf time)) (Refused cause) state
  as_of_refused time cause is = as_ofs time (Some cause) (as_of_is time (Some cause) is (nat_lt (length state.store.history) time) refl)

  pub as_of_future : (time : ℕ) → None ≡ begin_refusal limits state.store s → true ≡ nat_lt (length state.store.history) time → Answers limits state (line.Call s (call.AsOf time)) (Refused (Future (length state.store.history))) state
  as_of_future time is late = as_ofs time (Some (Future (length state.store.history))) (as_of_is time None is true late)

  pub as_of_done : (time : ℕ) → None ≡ begin_refusal limits state.store s → false ≡ nat_lt (length state.store.history) time → Answers limits state (line.Call s (call.AsOf time)) (Begun time) (opens state s time true)
  as_of_done time is late = as_ofs time None (as_of_is time None is false late)

  -- ---- the end of a transaction

  pub commit_idle : None ≡ state.store.opened s → Answers limits state (line.Call s call.Commit) (Refused Idle) state
  commit_idle is = (
    ap (λ (o : Option Opened). in_open o (λ transaction. end_reply state.store transaction (own_writes limits state.store s))) is,
    ap (λ (o : Option Opened). record { store = after_commit limits state.store s o; pages = ended_where o state.pages s }) is,
  )

  ends : (transaction : Opened) → Some transaction ≡ state.store.opened s → (own : List Write) → own ≡ own_writes limits state.store s
      → Answers limits state (line.Call s call.Commit) (end_reply state.store transaction own) (record { store = with_commit state.store s transaction own; pages = forgets state.pages s })
  ends transaction is own writes = (
    ap (end_reply state.store transaction) writes ∙ ap (λ (o : Option Opened). in_open o (λ transaction. end_reply state.store transaction (own_writes limits state.store s))) is,
    ap (λ (ws : List Write). record { store = with_commit state.store s transaction ws; pages = forgets state.pages s }) writes
        ∙ ap (λ (o : Option Opened). record { store = after_commit limits state.store s o; pages = ended_where o state.pages s }) is,
  )

  pub commit_ended : (transaction : Opened) → Some transaction ≡ state.store.opened s → [] ≡ own_writes limits state.store s → Answers limits state (line.Call s call.Commit) (Ended transaction.begin) (closes state s)
  commit_ended transaction is none = ends transaction is [] none

  pub commit_done : (transaction : Opened) → Some transaction ≡ state.store.opened s → (write : Write) (writes : List Write) → write ∷ writes ≡ own_writes limits state.store s
      → Answers limits state (line.Call s call.Commit) (Committed (length state.store.history + 1)) (commits state s (record { session = s; number = state.store.begins s; begin = transaction.begin; writes = write ∷ writes }))
  commit_done transaction is write writes own = ends transaction is (write ∷ writes) own

  pub commit_written : (transaction : Opened) → Some transaction ≡ state.store.opened s → (writes : List Write) → writes ≡ own_writes limits state.store s → (length writes == 0) ≡ false
      → Answers limits state (line.Call s call.Commit) (Committed (length state.store.history + 1)) (commits state s (record { session = s; number = state.store.begins s; begin = transaction.begin; writes = writes }))
  commit_written transaction is [] own some = absurd (cc)
  commit_written transaction is (write ∷ writes) own some = commit_done transaction is write writes own

  pub abort_idle : None ≡ state.store.opened s → Answers limits state (line.Call s call.Abort) (Refused Idle) state
  abort_idle is = (
    ap (λ (o : Option Opened). in_open o (λ transaction. Aborted)) is,
    ap (λ (o : Option Opened). record { store = after_abort state.store s o; pages = ended_where o state.pages s }) is,
  )

  pub abort_done : (transaction : Opened) → Some transaction ≡ state.store.opened s → Answers limits state (line.Call s call.Abort) Aborted (closes state s)
  abort_done transaction is = (
    ap (λ (o : Option Opened). in_open o (λ transaction. Aborted)) is,
    ap (λ (o : Option Opened). record { store = after_abort state.store s o; pages = ended_where o state.pages s }) is,
  )

-- ---- merges

nothing_at : (tps settled : ℕ) (holder : Option ℕ) → (settled == tps) ≡ true → merge_reply_at tps settled holder ≡ NothingNew settled
nothing_at tps settled None is = ap (λ b. cond b (NothingNew settled) (Merged settled)) is
nothing_at tps settled (Some session) is = ap (λ b. cond b (NothingNew settled) (NoFrame session)) is

module _ (limits : Limits) (state : State) (range column : ℕ) where
  abbrev tps : ℕ
  tps = settled_count state.store range

  abbrev old : ℕ
  old = state.pages.tps range column

  merges : (answer : Reply) → answer ≡ merge_reply limits state.store state.pages range column → Answers limits state (line.Merge range column) answer (record state { pages = swapped_where answer state.pages range column })
  merges answer told = (told, ap (λ (r : Reply). record state { pages = swapped_where r state.pages range column }) told)

  pub merge_nothing : tps ≡ old → Answers limits state (line.Merge range column) (NothingNew tps) state
  merge_nothing same = merges (NothingNew tps) (sym (nothing_at old tps (lowest_where (holds_frame limits state.store state.pages) limits.sessions) (eq-eqb tps old same)))

  by_holder : (tps ≡ old → ⊥) → (holder : Option ℕ) → holder ≡ lowest_where (holds_frame limits state.store state.pages) limits.sessions → merge_reply_at old tps holder ≡ merge_reply limits state.store state.pages range column
  by_holder other holder is = ap (merge_reply_at old tps) is

  pub merge_no_frame : (tps ≡ old → ⊥) → (holder : ℕ) → Some holder ≡ lowest_where (holds_frame limits state.store state.pages) limits.sessions → Answers limits state (line.Merge range column) (NoFrame holder) state
  merge_no_frame other holder is = merges (NoFrame holder) (ap (λ b. cond b (NothingNew tps) (NoFrame holder)) (sym (ne_eqb tps old other)) ∙ by_holder other (Some holder) is)

  pub merge_done : (tps ≡ old → ⊥) → None ≡ lowest_where (holds_frame limits state.store state.pages) limits.sessions → Answers limits state (line.Merge range column) (Merged tps) (swaps state range column tps)
  merge_done other is = merges (Merged tps) (ap (λ b. cond b (NothingNew tps) (Merged tps)) (sym (ne_eqb tps old other)) ∙ by_holder other None is)

-- ---- reads

module _ (limits : Limits) (store : Store) (s : ℕ) where
  pub get_idle : (key : ℕ) → None ≡ store.opened s → Refused Idle ≡ call_reply limits store s (call.Get key)
  get_idle key is = ap (λ (o : Option Opened). in_open o (λ transaction. row_reply (row_of (sight_of limits store s transaction.begin) key))) is

  pub get_done : (key : ℕ) (transaction : Opened) → Some transaction ≡ store.opened s → (row : Option (List Cell)) → row ≡ row_of (sight_of limits store s transaction.begin) key → row_reply row ≡ call_reply limits store s (call.Get key)
  get_done key transaction is row seen = ap row_reply seen ∙ ap (λ (o : Option Opened). in_open o (λ transaction. row_reply (row_of (sight_of limits store s transaction.begin) key))) is

  pub scan_idle : (c : Call) → IsScan c → None ≡ store.opened s → Refused Idle ≡ call_reply limits store s c
  scan_idle c scans is =
      ap (λ (o : Option Opened). in_open o (λ transaction. refused_or (where_true (lacks_index limits c) NotIndexed) (scan_answer (sight_of limits store s transaction.begin) c))) is
      ∙ sym (scan_reply limits store s c scans)

  pub scan_done : (c : Call) → IsScan c → (transaction : Opened) → Some transaction ≡ store.opened s → (lacks : Bool) → lacks ≡ lacks_index limits c
      → refused_or (where_true lacks NotIndexed) (scan_answer (sight_of limits store s transaction.begin) c) ≡ call_reply limits store s c
  scan_done c scans transaction is lacks at =
      ap (λ b. refused_or (where_true b NotIndexed) (scan_answer (sight_of limits store s transaction.begin) c)) at
      ∙ ap (λ (o : Option Opened). in_open o (λ transaction. refused_or (where_true (lacks_index limits c) NotIndexed) (scan_answer (sight_of limits store s transaction.begin) c))) is
      ∙ sym (scan_reply limits store s c scans)

-- a call that keeps the store part keeps the state
pub kept : (limits : Limits) (state : State) (s : ℕ) (c : Call) → IsScan c → state ≡ next limits state (line.Call s c)
kept limits state s (call.Sum column) is = refl
kept limits state s call.Count is = refl
kept limits state s call.Scan is = refl
kept limits state s (call.Find column number) is = refl
kept limits state s call.Begin is = absurd is
kept limits state s (call.AsOf time) is = absurd is
kept limits state s (call.Get key) is = absurd is
kept limits state s (call.Insert key row) is = absurd is
kept limits state s (call.Update key patch) is = absurd is
kept limits state s (call.Delete key) is = absurd is
kept limits state s call.Commit is = absurd is
kept limits state s call.Abort is = absurd is
