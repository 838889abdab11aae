-- What the machine's history is after a line, and that its limits had room.
use Rattle.std.proofs.Common.{◌≡◌, ℕ, ◌+◌, ◌<◌, Bool, List, [], ◌∷◌, ◌++◌, length, Option, Some, None, refl, sym, ap, ◌∙◌, arith}
use Rattle.lst_layout.specs.declared.limits.Limits.{Limits}
use Rattle.lst_model.specs.declared.acts.Act.{Act}
use Rattle.lst_model.specs.declared.acts.Act.TheVariants.{Put, Set, Del}
use Rattle.lst_model.specs.declared.acts.Write.{Write}
use Rattle.lst_model.specs.declared.commits.Commit.{Commit}
use Rattle.lst_model.specs.declared.lines.Call.{Call as CallValue}
use Rattle.lst_model.specs.declared.lines.Call.TheVariants as call
use Rattle.lst_model.specs.declared.lines.Line.{Line}
use Rattle.lst_model.specs.declared.lines.Line.TheVariants.{Phase, Merge, Call}
use Rattle.lst_model.specs.declared.replies.Reply.{Reply}
use Rattle.lst_model.specs.declared.replies.Reply.TheVariants.{Committed, Ended, Refused}
use Rattle.lst_model.specs.declared.replies.Reply.TheVariants as reply
use Rattle.lst_model.specs.declared.replies.Cause.{Cause}
use Rattle.lst_model.specs.declared.replies.Cause.TheVariants as cause
use Rattle.lst_model.specs.Lines.{LineFits}
use Rattle.lst_machine.specs.State.{Opened, Store, State}
use Rattle.lst_machine.specs.Writes.{own_writes}
use Rattle.lst_machine.specs.Calls.{begin_refusal, as_of_refusal, insert_refusal, early_insert_refusal, change_refusal, opened_unless, accepted_unless, placed_unless, after_insert, after_change, after_commit, after_abort, with_commit, end_reply, in_open, call_reply, store_after}
use Rattle.lst_machine.specs.Machine as machine
use Rattle.lst_replay_laws.specs.Counts.{IsCounted}
use Rattle.lst_replay_laws.proofs.Counted.{calls_are_counted}
use Rattle.lst_rule.specs.declared.view.View.{View}
use Rattle.lst_rule.specs.Rule.{knows}
use Rattle.lst_scan.specs.Lines.{EachLineLeaves}
use Rattle.lst_redo.specs.declared.journal.Kept.TheVariants.{Reply as Replied}
use Rattle.lst_redo.specs.Answers.{CommitsWrites, commits_after}

-- ---- only a commit makes the history longer

opened_history : (o : Option Cause) (store : Store) (s begin : ℕ) (read_only : Bool) → (opened_unless o store s begin read_only).history ≡ store.history
opened_history None store s begin read_only = refl
opened_history (Some why) store s begin read_only = refl

accepted_history : (o : Option Cause) (store : Store) (s key : ℕ) (act : Act) → (accepted_unless o store s key act).history ≡ store.history
accepted_history None store s key act = refl
accepted_history (Some why) store s key act = refl

placed_history : (o : Option Cause) (store : Store) (key : ℕ) → (placed_unless o store key).history ≡ store.history
placed_history None store key = refl
placed_history (Some why) store key = refl

module _ (limits : Limits) (store : Store) (s : ℕ) where
  insert_history : (o : Option Opened) (key : ℕ) (act : Act) → (after_insert limits store s o key act).history ≡ store.history
  insert_history None key act = refl
  insert_history (Some t) key act = accepted_history (insert_refusal limits store s t key) (placed_unless (early_insert_refusal limits store t key) store key) s key act ∙ placed_history (early_insert_refusal limits store t key) store key

  change_history : (o : Option Opened) (key : ℕ) (act : Act) → (after_change limits store s o key act).history ≡ store.history
  change_history None key act = refl
  change_history (Some t) key act = accepted_history (change_refusal limits store s t key) store s key act

  closed_history : (t : Opened) (writes : List Write) → ((time : ℕ) → ¬ (end_reply store t writes ≡ Committed time)) → (with_commit store s t writes).history ≡ store.history
  closed_history t [] never = refl
  closed_history t (w ∷ ws) never = absurd (never (length store.history + 1) refl)

  commit_history : (o : Option Opened) → ((time : ℕ) → ¬ (in_open o (λ t. end_reply store t (own_writes limits store s)) ≡ Committed time)) → (after_commit limits store s o).history ≡ store.history
  commit_history None never = refl
  commit_history (Some t) never = closed_history t (own_writes limits store s) never

  abort_history : (o : Option Opened) → (after_abort store s o).history ≡ store.history
  abort_history None = refl
  abort_history (Some t) = refl

  call_history : (c : CallValue) → ((time : ℕ) → ¬ (call_reply limits store s c ≡ Committed time)) → (store_after limits store s c).history ≡ store.history
  call_history call.Begin never = opened_history (begin_refusal limits store s) store s _ _
  call_history (call.AsOf time) never = opened_history (as_of_refusal limits store s time) store s _ _
  call_history (call.Get key) never = refl
  call_history (call.Insert key row) never = insert_history (store.opened s) key (Put row)
  call_history (call.Update key patch) never = change_history (store.opened s) key (Set patch)
  call_history (call.Delete key) never = change_history (store.opened s) key Del
  call_history (call.Sum column) never = refl
  call_history call.Count never = refl
  call_history call.Scan never = refl
  call_history (call.Find column number) never = refl
  call_history call.Commit never = commit_history (store.opened s) never
  call_history call.Abort never = abort_history (store.opened s)

  -- and a commit of writes by that commit
  pub committed_history : (t : Opened) (writes : List Write) → store.opened s ≡ Some t → own_writes limits store s ≡ writes → 0 < length writes
      → (store_after limits store s call.Commit).history ≡ store.history ++ record { session = s; number = store.begins s; begin = t.begin; writes = writes } ∷ []
  committed_history t writes opened own some = ap (λ (o : Option Opened). (after_commit limits store s o).history) opened ∙ ap (λ (ws : List Write). (with_commit store s t ws).history) own ∙ at writes some
    where
      at : (ws : List Write) → 0 < length ws → (with_commit store s t ws).history ≡ store.history ++ record { session = s; number = store.begins s; begin = t.begin; writes = ws } ∷ []
      at [] none = absurd (omega arith)
      at (w ∷ ws) more = refl

pub line_history : (limits : Limits) (state : State) (line : Line) → ((time : ℕ) → ¬ (machine.reply limits state line ≡ Committed time)) → (machine.next limits state line).store.history ≡ state.store.history
line_history limits state Phase never = refl
line_history limits state (Merge range column) never = refl
line_history limits state (Call s c) never = call_history limits state.store s c never

pub line_counted : (limits : Limits) (state : State) (line : Line) → LineFits limits.sessions limits.ranges limits.columns line → IsCounted limits state.store → IsCounted limits (machine.next limits state line).store
line_counted limits state Phase fits is = is
line_counted limits state (Merge range column) fits is = is
line_counted limits state (Call s c) fits is = calls_are_counted limits state.store s c fits.0 is

-- ---- which lines are answered that they committed

-- ended otherwise
other_commits : (v w : View) (s : ℕ) (r : Reply) (commits : List Commit) → ¬ CommitsWrites v (Call s call.Commit) → EachLineLeaves v w (Call s call.Commit) r → commits_after v commits (Call s call.Commit) (Replied r) ≡ commits
other_commits v w s (Committed time) commits none x = absurd (none (x.0, x.1.wrote))
other_commits v w s r commits none x = refl

pub none_committed : (v w : View) (line : Line) (r : Reply) (commits : List Commit) → ¬ CommitsWrites v line → EachLineLeaves v w line r → commits_after v commits line (Replied r) ≡ commits
none_committed v w (Call s call.Commit) r commits none x = other_commits v w s r commits none x
none_committed v w (Call s c) r commits none x = refl
none_committed v w line r commits none x = refl

silent_not : (time : ℕ) → reply.Silent ≡ Committed time → ⊥
silent_not time e = cc

pub not_committed : (v w : View) (line : Line) (time : ℕ) → ¬ CommitsWrites v line → EachLineLeaves v w line (Committed time) → ⊥
not_committed v w Phase time none x = silent_not time (sym x.0)
not_committed v w (Merge range column) time none x = absurd x
not_committed v w (Call s call.Begin) time none x = absurd x
not_committed v w (Call s (call.AsOf at)) time none x = absurd x
not_committed v w (Call s (call.Get key)) time none x = absurd x.0
not_committed v w (Call s (call.Insert key row)) time none x = absurd x
not_committed v w (Call s (call.Update key patch)) time none x = absurd x
not_committed v w (Call s (call.Delete key)) time none x = absurd x
not_committed v w (Call s (call.Sum column)) time none x = absurd x.0
not_committed v w (Call s call.Count) time none x = absurd x.0
not_committed v w (Call s call.Scan) time none x = absurd x
not_committed v w (Call s (call.Find column number)) time none x = absurd x
not_committed v w (Call s call.Commit) time none x = none (x.0, x.1.wrote)
not_committed v w (Call s call.Abort) time none x = absurd x
