-- What a legal report of a script in which each session writes keys of its own says of its history and its refusals.
use Rattle.std.proofs.Common.{◌≡◌, ⊎_elim, ℕ, zero, suc, ◌+◌, ◌-◌, ◌%◌, ◌<◌, ◌≤◌, Bool, true, false, not, ◌&&◌, cond, eqb, List, [], ◌∷◌, ◌++◌, length, Option, Some, None, IfSome, refl, sym, ap, subst, ◌∙◌, arith}
use Rattle.std.specs.Prelude.{IsSomeAnd, slice_get, slice_index_or}
use Rattle.std.specs.List.{AllByRecursion, Contains, cons_option, list_any}
use Rattle.std.proofs.lemmas.Bool.{ne_eqb, eq-eqb, eqb-true, or_cases, and_parts}
use Rattle.lst_model.specs.declared.acts.Write.{Write}
use Rattle.lst_model.specs.declared.commits.Commit.{Commit}
use Rattle.lst_model.specs.declared.lines.Line.{Line}
use Rattle.lst_model.specs.declared.lines.Line.TheVariants.{Phase, Merge, Call}
use Rattle.lst_model.specs.declared.lines.Call.{Call as CallKind}
use Rattle.lst_model.specs.declared.lines.Call.TheVariants.{Begin, AsOf, Get, Insert, Update, Delete, Sum, Count, Scan, Find, Commit as CommitCall, Abort}
use Rattle.lst_model.specs.declared.replies.Reply.{Reply}
use Rattle.lst_model.specs.declared.replies.Reply.TheVariants.{Begun, Done, Row, Absent, Committed, Ended, Aborted, Sum as SumReply, Count as CountReply, Rows, Keys, Refused, Merged, NothingNew, NoFrame, Silent}
use Rattle.lst_model.specs.Histories.{joined}
use Rattle.lst_replies.specs.declared.states.Transaction.{Transaction}
use Rattle.lst_replies.specs.declared.states.SessionState.{SessionState}
use Rattle.lst_replies.specs.Runs.{Answered, answered, AtEachCall, commit_time, commit_times, names, key_of, write_of, is_by, may_take_latch, run_of}
use Rattle.lst_replies.specs.States.{unbegun, after_call, after_line, state_from, state_of, with_write, commit_of}
use Rattle.lst_replies.specs.Explained.{commit_at, HasAccepted, IsInTheWay}
use Rattle.lst_replies.specs.ReplyKinds.{HaveReplyShape}
use Rattle.lst_replies.specs.Legal.{IsEntered}
use Rattle.lst_serial_laws.proofs.Numbers.{IsPlace, place_of}
use Rattle.lst_work_laws.proofs.Mergers.{all_at}
use Rattle.lst_script.specs.Counted.{WritesOwn, LineWritesOwn}
use Rattle.lst_work.proofs.Lists.{Has, WriteOwn, CommitsOwn}
use Rattle.lst_work.proofs.LoadWalking.{lines_in}

-- ---- the lines of a run

pub lines_of_run : (lines : List Line) (replies : List (Option ℕ × Reply)) → HaveReplyShape lines replies → lines_in (run_of lines replies) ≡ lines
lines_of_run [] replies shape = refl
lines_of_run (Phase ∷ lines) replies shape = ap (λ ls. Phase ∷ ls) (lines_of_run lines replies shape)
lines_of_run (Merge range column ∷ lines) [] shape = absurd shape
lines_of_run (Merge range column ∷ lines) (reply ∷ replies) shape = ap (λ ls. Merge range column ∷ ls) (lines_of_run lines replies shape.1)
lines_of_run (Call session call ∷ lines) [] shape = absurd shape
lines_of_run (Call session call ∷ lines) (reply ∷ replies) shape = ap (λ ls. Call session call ∷ ls) (lines_of_run lines replies shape.1)

abbrev pub LinesOwn : ℕ → List Answered → Type 0
LinesOwn n run = AllByRecursion (λ (one : Answered). LineWritesOwn n one.line) run

pub own_lines : (n : ℕ) (run : List Answered) → AllByRecursion (LineWritesOwn n) (lines_in run) → LinesOwn n run
own_lines n [] all = tt
own_lines n (one ∷ run) all = (all.0, own_lines n run all.1)

pub write_owned : (n t : ℕ) (call : CallKind) → WritesOwn n t call → IfSome (write_of call) (λ (w : Write). Has n t w.key)
write_owned n t (Insert key row) own = own
write_owned n t (Update key patch) own = own
write_owned n t (Delete key) own = own
write_owned n t Begin own = tt
write_owned n t (AsOf time) own = tt
write_owned n t (Get key) own = tt
write_owned n t (Sum column) own = tt
write_owned n t Count own = tt
write_owned n t Scan own = tt
write_owned n t (Find column value) own = tt
write_owned n t CommitCall own = tt
write_owned n t Abort own = tt

key_owned : (n t key : ℕ) (o : Option Write) → IfSome o (λ (w : Write). Has n t w.key) → names key (key_of o) ≡ true → Has n t key
key_owned n t key None own is = cc
key_owned n t key (Some w) own is = own ∙ ap (λ k. (k - 1) % n) (eqb-true w.key key is)

-- ---- the writes of a transaction

module _ (n s : ℕ) where
  abbrev OwnNow : Option Transaction → Type 0
  OwnNow current = IfSome current (λ (t : Transaction). WriteOwn n s t.writes)

  joined_own : (ws : List Write) (w : Write) → WriteOwn n s ws → Has n s w.key → WriteOwn n s (joined ws w)
  joined_own [] w all has = (has, tt)
  joined_own (x ∷ xs) w all has = by_order _ (joined_own xs w all.1 has)
    where
      by_order : (b : Bool) → WriteOwn n s (joined xs w) → WriteOwn n s (cond b (w ∷ x ∷ xs) (x ∷ joined xs w))
      by_order true rest = (has, (all.0, all.1))
      by_order false rest = (all.0, rest)

  with_own : (o : Option Write) (current : Option Transaction) → IfSome o (λ (w : Write). Has n s w.key) → OwnNow current → OwnNow (with_write o current)
  with_own None current has own = own
  with_own (Some w) None has own = tt
  with_own (Some w) (Some t) has own = joined_own t.writes w own has

  call_own : (call : CallKind) (reply : Reply) (state : SessionState) → WritesOwn n s call → OwnNow state.current → OwnNow (after_call call reply state).current
  call_own call (Begun time) state own now = tt
  call_own call Done state own now = with_own (write_of call) state.current (write_owned n s call own) now
  call_own call (Committed time) state own now = tt
  call_own call (Ended time) state own now = tt
  call_own call Aborted state own now = tt
  call_own call (Row row) state own now = now
  call_own call Absent state own now = now
  call_own call (SumReply total) state own now = now
  call_own call (CountReply rows) state own now = now
  call_own call (Rows list) state own now = now
  call_own call (Keys list) state own now = now
  call_own call (Refused cause) state own now = now
  call_own call (Merged tps) state own now = now
  call_own call (NothingNew tps) state own now = now
  call_own call (NoFrame session) state own now = now
  call_own call Silent state own now = now

  line_own : (line : Line) (reply : Reply) (state : SessionState) → LineWritesOwn n line → OwnNow state.current → OwnNow (after_line s (answered line reply) state).current
  line_own Phase reply state own now = now
  line_own (Merge range column) reply state own now = now
  line_own (Call t call) reply state own now = by_speaker (eqb t s) refl
    where
      by_speaker : (b : Bool) → eqb t s ≡ b → OwnNow (cond b (after_call call reply state) state).current
      by_speaker true e = call_own call reply state (subst (λ (m : ℕ). WritesOwn n m call) (eqb-true t s e) own) now
      by_speaker false e = now

  state_own : (run : List Answered) (state : SessionState) → LinesOwn n run → OwnNow state.current → OwnNow (state_from state s run).current
  state_own [] state all now = now
  state_own (one ∷ run) state all now = state_own run (after_line s one state) all.1 (line_own one.line one.reply state all.0 now)

front_all : (P : Answered → Type 0) (before after : List Answered) → AllByRecursion P (before ++ after) → AllByRecursion P before
front_all P [] after all = tt
front_all P (one ∷ before) after all = (all.0, front_all P before after all.1)

-- ---- the commits of the history

all_by_place : (P : Commit → Type 0) (cs : List Commit) → ((i : ℕ) (c : Commit) → i < length cs → slice_get cs i ≡ Some c → P c) → AllByRecursion P cs
all_by_place P [] h = tt
all_by_place P (c ∷ cs) h = (h 0 c (omega arith) refl, all_by_place P cs (λ i d low is. h (suc i) d (omega arith) is))

module _ (n : ℕ) (run : List Answered) (history : List Commit) (own : LinesOwn n run)
    (lines : (before : List Answered) (line : Line) (time : ℕ) (after : List Answered) → run ≡ before ++ answered line (Committed time) ∷ after → (s : ℕ) × (call : CallKind) × (line ≡ Call s call))
    (entered : AtEachCall (IsEntered history) run) (told : (time : ℕ) → 0 < time → time ≤ length history → Contains (commit_times run) time) where
  commit_own : (i : ℕ) (c : Commit) → i < length history → slice_get history i ≡ Some c → WriteOwn n c.session c.writes
  commit_own i c low is =
      let has = told (i + 1) (omega arith) (omega arith) in
      let p = place_of run (i + 1) has.0 has.1 has.2 in
      let l = lines p.before p.line (i + 1) p.after p.place in
      let place : run ≡ p.before ++ answered (Call l.0 l.1) (Committed (i + 1)) ∷ p.after = p.place ∙ ap (λ (line : Line). p.before ++ answered line (Committed (i + 1)) ∷ p.after) l.2 in
      let now = state_own n l.0 p.before unbegun (front_all (λ (one : Answered). LineWritesOwn n one.line) p.before (answered (Call l.0 l.1) (Committed (i + 1)) ∷ p.after) (subst (LinesOwn n) place own)) tt in
      by_current (state_of l.0 p.before).current l.0 now (entered p.before l.0 l.1 (Committed (i + 1)) p.after place)
    where
      here : commit_at history (i + 1) ≡ Some c
      here = ap (λ (b : Bool). cond b None (slice_get history (i + 1 - 1))) (ne_eqb (i + 1) 0 (λ (z : i + 1 ≡ 0). absurd (omega arith))) ∙ (ap (slice_get history) (omega arith) ∙ is)

      by_current : (current : Option Transaction) (s : ℕ) → IfSome current (λ (t : Transaction). WriteOwn n s t.writes) → IsSomeAnd current (λ t. commit_at history (i + 1) ≡ Some (commit_of s t)) → WriteOwn n c.session c.writes
      by_current None s now at = absurd at
      by_current (Some t) s now at = subst (λ (o : Option Commit). IfSome o (λ (d : Commit). WriteOwn n d.session d.writes)) (sym at ∙ here) now

  -- each commit writes keys of its session
  pub history_own : CommitsOwn n history
  history_own = all_by_place (λ (c : Commit). WriteOwn n c.session c.writes) history commit_own

-- ---- refusals for another session's line

module _ (n s key : ℕ) (has : Has n s key) where
  line_latch : (line : Line) (reply : Reply) → LineWritesOwn n line → (not (is_by s (answered line reply)) && may_take_latch key (answered line reply)) ≡ true → ⊥
  line_latch Phase reply own is = cc
  line_latch (Merge range column) reply own is = cc
  line_latch (Call t call) reply own is =
      let parts = and_parts (not (eqb t s)) (may_take_latch key (answered (Call t call) reply)) is in
      let named = and_parts (names key (key_of (write_of call))) _ parts.1 in
      let same : t ≡ s = key_owned n t key (write_of call) (write_owned n t call own) named.0 ∙ sym has in
      none (eqb t s) (eq-eqb t s same) parts.0
    where
      none : (b : Bool) → b ≡ true → not b ≡ true → ⊥
      none true e f = cc
      none false e f = cc

  pub no_latch : (run : List Answered) → LinesOwn n run → list_any (λ (one : Answered). not (is_by s one) && may_take_latch key one) run ≡ true → ⊥
  no_latch [] own is = cc
  no_latch (one ∷ run) own is = ⊎_elim
      (λ (here : (not (is_by s one) && may_take_latch key one) ≡ true). line_latch one.line one.reply own.0 here)
      (λ (there : list_any (λ (one : Answered). not (is_by s one) && may_take_latch key one) run ≡ true). no_latch run own.1 there)
      (or_cases (not (is_by s one) && may_take_latch key one) (list_any (λ (one : Answered). not (is_by s one) && may_take_latch key one) run) is)

  pub not_in_the_way : (run : List Answered) (history : List Commit) (begin other number : ℕ) → LinesOwn n run → IsInTheWay history run s key begin other number → ⊥
  not_in_the_way run history begin other number own x =
      let a : HasAccepted run other number key = x.accepted in
      let here : WritesOwn n other a.call = all_at (λ (one : Answered). LineWritesOwn n one.line) a.before (answered (Call other a.call) Done) a.after (subst (LinesOwn n) a.place own) in
      x.another (key_owned n other key (write_of a.call) (write_owned n other a.call here) a.on_key ∙ sym has)
