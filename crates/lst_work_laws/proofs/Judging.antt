-- The rules on conflicts and on full counters, at each write of a run.
use Rattle.std.proofs.Common.{◌≡◌, ⊎_elim, ℕ, ◌*◌, ◌<◌, ◌≤◌, List, ◌∷◌, ◌++◌, true, false, not, ◌&&◌, Option, Some, None, IfSome, refl, sym, subst, ap, ◌∙◌}
use Rattle.std.specs.Prelude.{IsTrue}
use Rattle.std.specs.List.{count_by, list_any}
use Rattle.std.proofs.lemmas.Bool.{cases_Bool}
use Rattle.lst_layout.specs.declared.limits.Limits.{Limits}
use Rattle.lst_model.specs.declared.acts.Write.{Write}
use Rattle.lst_model.specs.declared.commits.Commit.{Commit}
use Rattle.lst_model.specs.declared.lines.Line.TheVariants.{Call}
use Rattle.lst_model.specs.declared.lines.Call.{Call as CallKind}
use Rattle.lst_model.specs.declared.replies.Reply.{Reply}
use Rattle.lst_model.specs.declared.replies.Reply.TheVariants.{Begun, Done, Row, Absent, Committed, Ended, Aborted, Sum as SumReply, Count as CountReply, Rows, Keys, Refused, Merged, NothingNew, NoFrame, Silent}
use Rattle.lst_model.specs.declared.replies.Cause.TheVariants.{Idle, Active, ReadOnly, Spent, Future, Missing, Exists, TableFull, Latched, Newer, Unfinished, TailFull, NotIndexed, Stale}
use Rattle.lst_core_state.specs.declared.known.Known.{Known}
use Rattle.lst_core_state.specs.State.{Core, history_of}
use Rattle.lst_replies.specs.declared.states.Transaction.{Transaction}
use Rattle.lst_replies.specs.declared.states.SessionState.{SessionState}
use Rattle.lst_replies.specs.Runs.{Answered, answered, write_of, key_of, is_by, is_accepted, may_take_record, may_take_latch}
use Rattle.lst_replies.specs.States.{state_from, state_of}
use Rattle.lst_replies.specs.Legal.{AtEachWrite}
use Rattle.lst_replies.specs.Explained.{ConflictIsExplained, FullnessIsExplained, IsInTheWay, IsNewKey}
use Rattle.lst_work_laws.specs.Lines.{session_told, transaction_told}
use Rattle.lst_work_laws.proofs.Telling.{opened_told, closed_told}
use Rattle.lst_work_laws.specs.Lives.{FindsHeld, FindsOpen, FindsNoRecord, FindsNoTail, Finds, Lives}
use Rattle.lst_work_laws.specs.Explained.{HaveEnded}
use Rattle.lst_work_laws.proofs.Living.{Grows, lives_grow, key_kept, lives_state, Here, lives_at}
use Rattle.lst_work_laws.proofs.Explaining.{held_latch, open_write, all_drawn, new_key, full_range}

-- ---- by the reply

module _ (history : List Commit) (run : List Answered) (s : ℕ) (transaction : Transaction) (write : Write) where
  conflict_of : (reply : Reply) → (reply ≡ Refused Latched → IsTrue (list_any (λ one. not (is_by s one) && may_take_latch write.key one) run))
      → ((j n : ℕ) → reply ≡ Refused (Unfinished j n) → IsInTheWay history run s write.key transaction.begin j n) → ConflictIsExplained history run s transaction write reply
  conflict_of (Begun time) held open_by = tt
  conflict_of Done held open_by = tt
  conflict_of (Row row) held open_by = tt
  conflict_of Absent held open_by = tt
  conflict_of (Committed time) held open_by = tt
  conflict_of (Ended time) held open_by = tt
  conflict_of Aborted held open_by = tt
  conflict_of (SumReply total) held open_by = tt
  conflict_of (CountReply rows) held open_by = tt
  conflict_of (Rows list) held open_by = tt
  conflict_of (Keys list) held open_by = tt
  conflict_of (Merged tps) held open_by = tt
  conflict_of (NothingNew tps) held open_by = tt
  conflict_of (NoFrame session) held open_by = tt
  conflict_of Silent held open_by = tt
  conflict_of (Refused Idle) held open_by = tt
  conflict_of (Refused Active) held open_by = tt
  conflict_of (Refused ReadOnly) held open_by = tt
  conflict_of (Refused Spent) held open_by = tt
  conflict_of (Refused (Future clock)) held open_by = tt
  conflict_of (Refused Missing) held open_by = tt
  conflict_of (Refused Exists) held open_by = tt
  conflict_of (Refused TableFull) held open_by = tt
  conflict_of (Refused Latched) held open_by = held refl
  conflict_of (Refused (Newer time)) held open_by = tt
  conflict_of (Refused (Unfinished j n)) held open_by = open_by j n refl
  conflict_of (Refused TailFull) held open_by = tt
  conflict_of (Refused NotIndexed) held open_by = tt
  conflict_of (Refused (Stale time)) held open_by = tt

module _ (limits : Limits) (history : List Commit) (run before : List Answered) (s : ℕ) (transaction : Transaction) (write : Write) where
  fullness_of : (reply : Reply) → (reply ≡ Refused TableFull → IsNewKey history before s transaction.begin write.key × (256 * limits.ranges ≤ count_by may_take_record run))
      → (reply ≡ Refused TailFull → limits.tails ≤ count_by is_accepted run) → FullnessIsExplained limits history run before s transaction write reply
  fullness_of (Begun time) table tails = tt
  fullness_of Done table tails = tt
  fullness_of (Row row) table tails = tt
  fullness_of Absent table tails = tt
  fullness_of (Committed time) table tails = tt
  fullness_of (Ended time) table tails = tt
  fullness_of Aborted table tails = tt
  fullness_of (SumReply total) table tails = tt
  fullness_of (CountReply rows) table tails = tt
  fullness_of (Rows list) table tails = tt
  fullness_of (Keys list) table tails = tt
  fullness_of (Merged tps) table tails = tt
  fullness_of (NothingNew tps) table tails = tt
  fullness_of (NoFrame session) table tails = tt
  fullness_of Silent table tails = tt
  fullness_of (Refused Idle) table tails = tt
  fullness_of (Refused Active) table tails = tt
  fullness_of (Refused ReadOnly) table tails = tt
  fullness_of (Refused Spent) table tails = tt
  fullness_of (Refused (Future clock)) table tails = tt
  fullness_of (Refused Missing) table tails = tt
  fullness_of (Refused Exists) table tails = tt
  fullness_of (Refused TableFull) table tails = table refl
  fullness_of (Refused Latched) table tails = tt
  fullness_of (Refused (Newer time)) table tails = tt
  fullness_of (Refused (Unfinished j n)) table tails = tt
  fullness_of (Refused TailFull) table tails = tails refl
  fullness_of (Refused NotIndexed) table tails = tt
  fullness_of (Refused (Stale time)) table tails = tt

-- ---- by the state and the call

at_open : (u : Known) (P : Transaction → Type 0) → (u.is_open ≡ true → P (transaction_told u)) → IfSome (session_told u).current P
at_open u P h = ⊎_elim (λ (e : u.is_open ≡ true). subst (λ (st : SessionState). IfSome st.current P) (sym (opened_told u e)) (h e))
    (λ (e : u.is_open ≡ false). subst (λ (st : SessionState). IfSome st.current P) (sym (closed_told u e)) tt) (cases_Bool u.is_open)

at_write : (o : Option Write) (F : ℕ → Type 0) (P : Write → Type 0) → IfSome (key_of o) F → ((write : Write) → F write.key → P write) → IfSome o P
at_write None F P f h = tt
at_write (Some write) F P f h = h write f

-- ---- what was found stays found

held_still : (k m : Known) (key : ℕ) → Grows k m → FindsHeld k key → FindsHeld m key
held_still k m key g f = record { rec = f.rec; placed = key_kept k m f.rec key g f.placed; found = g.finds _ f.found }

open_still : (s : ℕ) (u k m : Known) (key j n : ℕ) → Grows k m → FindsOpen s u k key j n → FindsOpen s u m key j n
open_still s u k m key j n g f = record { other = f.other; rec = f.rec; tail = f.tail; placed = key_kept k m f.rec key g f.placed; found = g.finds _ f.found }

tails_still : (k m : Known) (key : ℕ) → Grows k m → FindsNoTail k key → FindsNoTail m key
tails_still k m key g f = record { rec = f.rec; placed = key_kept k m f.rec key g f.placed; found = g.finds _ f.found }

-- ---- at each write

module _ (c : Core) (run : List Answered) (h : HaveEnded c run) (before : List Answered) (s : ℕ) (call : CallKind) (reply : Reply) (after : List Answered) (place : run ≡ before ++ answered (Call s call) reply ∷ after) where
  low : s < c.limits.sessions
  low = h.callers before s call reply after place

  here : Here c.limits s before call reply after (h.first s) (c.known s)
  here = lives_at c.limits s before call reply after (h.first s) (c.known s) (subst (λ (r : List Answered). Lives c.limits s r (h.first s) (c.known s)) place (h.lives s low))

  told : session_told here.then ≡ state_of s before
  told = lives_state c.limits s before (h.first s) here.then here.earlier ∙ ap (λ (st : SessionState). state_from st s before) (h.fresh s low).state

  grows : Grows here.next (c.known s)
  grows = lives_grow c.limits s after here.next (c.known s) here.later

  at_each : (P : Transaction → Write → Type 0) → (here.then.is_open ≡ true → (write : Write) → Finds s here.then here.next write.key reply → P (transaction_told here.then) write)
      → IfSome (state_of s before).current (λ transaction. IfSome (write_of call) (P transaction))
  at_each P f = subst (λ (st : SessionState). IfSome st.current (λ transaction. IfSome (write_of call) (P transaction))) told
      (at_open here.then (λ transaction. IfSome (write_of call) (P transaction))
      (λ is_on. at_write (write_of call) (λ key. Finds s here.then here.next key reply) (P (transaction_told here.then)) here.answers.found (f is_on)))

  finds_as : (key : ℕ) (r : Reply) → reply ≡ r → Finds s here.then here.next key reply → Finds s here.then here.next key r
  finds_as key r e f = subst (λ (q : Reply). Finds s here.then here.next key q) e f

  pub conflict : IfSome (state_of s before).current (λ transaction. IfSome (write_of call) (λ write. ConflictIsExplained (history_of c.limits c.words) run s transaction write reply))
  conflict = at_each (λ transaction write. ConflictIsExplained (history_of c.limits c.words) run s transaction write reply) (λ is_on write f.
      conflict_of (history_of c.limits c.words) run s (transaction_told here.then) write reply
      (λ e. held_latch c run h s write.key low (held_still here.next (c.known s) write.key grows (finds_as write.key (Refused Latched) e f)))
      (λ j n e. open_write c run h s here.then write.key j n low (open_still s here.then here.next (c.known s) write.key j n grows (finds_as write.key (Refused (Unfinished j n)) e f))))

  pub fullness : IfSome (state_of s before).current (λ transaction. IfSome (write_of call) (λ write. FullnessIsExplained c.limits (history_of c.limits c.words) run before s transaction write reply))
  fullness = at_each (λ transaction write. FullnessIsExplained c.limits (history_of c.limits c.words) run before s transaction write reply) (λ is_on write f.
      fullness_of c.limits (history_of c.limits c.words) run before s (transaction_told here.then) write reply
      (λ e. let full : FindsNoRecord here.then here.next write.key = finds_as write.key (Refused TableFull) e f in
      (new_key c run h s before here.then here.next write.key low here.earlier grows full is_on, all_drawn c run h s low (grows.finds _ full.found)))
      (λ e. full_range c run h s write.key low (tails_still here.next (c.known s) write.key grows (finds_as write.key (Refused TailFull) e f))))

-- the conflicts that a run tells are explained, under the history of the state in the end
abbrev ConflictsAreExplained : Type 0
ConflictsAreExplained = (c : Core) (run : List Answered) → HaveEnded c run
    → AtEachWrite (λ before session transaction write reply. ConflictIsExplained (history_of c.limits c.words) run session transaction write reply) run

-- and so are the full table and the full ranges
abbrev FullnessesAreExplained : Type 0
FullnessesAreExplained = (c : Core) (run : List Answered) → HaveEnded c run
    → AtEachWrite (λ before session transaction write reply. FullnessIsExplained c.limits (history_of c.limits c.words) run before session transaction write reply) run

pub conflicts_are_explained : ConflictsAreExplained
conflicts_are_explained c run h before s call reply after place = conflict c run h before s call reply after place

pub fullnesses_are_explained : FullnessesAreExplained
fullnesses_are_explained c run h before s call reply after place = fullness c run h before s call reply after place
