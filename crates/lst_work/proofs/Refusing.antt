-- Replies to lines that leave the session's transactions, commits and lists as they were.
use Rattle.std.proofs.Common.{◌≡◌, ℕ, ◌≤◌, List, [], ◌∷◌, Bool, true, false, length, Option, Some, None, IfSome, refl, sym, subst, ◌∙◌, arith, inl, append-nil, le-leb}
use Rattle.lst_layout.specs.declared.limits.Limits.{Limits}
use Rattle.lst_model.specs.declared.acts.Write.{Write}
use Rattle.lst_model.specs.declared.commits.Commit.{Commit}
use Rattle.lst_model.specs.declared.lines.Call.{Call}
use Rattle.lst_model.specs.declared.lines.Call.TheVariants.{Begin, AsOf, Get, Insert, Update, Delete, Sum, Count, Scan, Find, Commit as CommitCall, Abort}
use Rattle.lst_model.specs.declared.replies.Reply.{Reply}
use Rattle.lst_model.specs.declared.replies.Reply.TheVariants.{Refused}
use Rattle.lst_model.specs.declared.replies.Cause.{Cause}
use Rattle.lst_model.specs.declared.replies.Cause.TheVariants.{Idle, Active, Spent}
use Rattle.lst_model.specs.Histories.{Extends}
use Rattle.lst_core_state.specs.declared.known.Known.{Known}
use Rattle.lst_machine.specs.Calls.{first_of, where_true}
use Rattle.lst_rule.specs.declared.view.View.{View}
use Rattle.lst_rule.specs.Rule.{knows}
use Rattle.lst_rule.proofs.Learning.{learns_same}
use Rattle.lst_session.specs.Calls.{Called, SameWork, SameLists}
use Rattle.lst_session.proofs.Growing.{learns_itself, same_extends, same_finds}
use Rattle.lst_replies.specs.declared.states.SessionState.{SessionState}
use Rattle.lst_replies.specs.Runs.{write_of, key_of}
use Rattle.lst_replies.specs.States.{time_told}
use Rattle.lst_replies.specs.Explained.{begin_cause}
use Rattle.lst_replies.specs.ReplyKinds.{begins, can_answer}
use Rattle.lst_work_laws.specs.Lines.{transaction_told, session_told, Tells, LeavesWrites, LeavesDrawn, IsFound, AfterLine}
use Rattle.lst_work_laws.proofs.Telling.{opened_told, closed_told, same_told}

-- ---- small things

pub not_true : (b : Bool) → ¬ (b ≡ true) → b ≡ false
not_true true ne = absurd (ne refl)
not_true false ne = refl

pub not_false : (b : Bool) → ¬ (b ≡ false) → b ≡ true
not_false true ne = refl
not_false false ne = absurd (ne refl)

pub if_some : {X : Type 0} (o : Option X) (P : X → Type 0) → ((x : X) → P x) → IfSome o P
if_some None P all = tt
if_some (Some x) P all = all x

-- ---- nothing came of the call

pub called_still : (v : View) (s : ℕ) → Called v v s
called_still v s = record { learns = learns_itself v v s (knows v s) (learns_same v s); seen = same_extends (knows v s).seen; facts = λ f h. h; finds = same_finds (knows v s).finds }

pub same_work : (s : ℕ) (k : Known) → SameWork s k k
same_work s k = record { transaction = record { number = refl; begin = refl; read_only = refl; is_open = refl }; own = refl; mine = refl }

pub same_lists : (k : Known) → SameLists k k
same_lists k = record { drawn = refl; latched = refl; done = refl }

-- no record was drawn
pub kept_drawn : (v w : View) (s : ℕ) → SameLists (knows v s) (knows w s) → (call : Call) (reply : Reply) → LeavesDrawn v w s call reply
kept_drawn v w s lists call reply = record {
  drew = record { drew = []; drawn = lists.drawn ∙ sym (append-nil (knows v s).placing.drawn); few = omega arith };
  after_look = if_some (key_of (write_of call)) _ (λ key. inl lists.drawn);
}

module _ (v w : View) (s : ℕ) (called : Called v w s) (same : SameWork s (knows v s) (knows w s)) (lists : SameLists (knows v s) (knows w s)) (pins : (knows w s).pages.pins ≡ (knows v s).pages.pins) where
  pub kept_writes : (write : Option Write) (cause : Cause) → LeavesWrites v w s write (Refused cause)
  kept_writes None cause = lists.done
  kept_writes (Some write) cause = lists.done

  pub refused : (call : Call) (cause : Cause) → can_answer call (Refused cause) ≡ true
      → ((floor : ℕ) (history : List Commit) → floor ≤ length (knows v s).seen → Extends history (knows w s).seen → Tells v.limits history floor (session_told (knows v s)) call (Refused cause))
      → IfSome (time_told (Refused cause)) (λ time. time ≤ length (knows w s).seen)
      → ((key : ℕ) → IsFound v w s key (Refused cause))
      → AfterLine s call (Refused cause) v w
  refused call cause kind tells told found = record {
    called = called;
    kind = kind;
    tells = tells;
    told = told;
    state = same_told s (knows v s) (knows w s) same;
    commits = same.mine;
    writes = kept_writes (write_of call) cause;
    drawn = kept_drawn v w s lists call (Refused cause);
    latched = inl lists.latched;
    pins = pins;
    found = if_some (key_of (write_of call)) _ found;
  }

-- ---- refusals by the session's state

abbrev unopened : ℕ → SessionState
unopened n = record { begun = n; current = None }

idle_tells : (l : Limits) (history : List Commit) (floor n : ℕ) (call : Call) → begins call ≡ false → Tells l history floor (unopened n) call (Refused Idle)
idle_tells l history floor n Begin e = cc
idle_tells l history floor n (AsOf time) e = cc
idle_tells l history floor n (Get key) e = record { times = tt; reads = record { sight = tt; index = refl }; refusals = record { refusal = refl; end = tt }; writes = tt }
idle_tells l history floor n (Insert key row) e = record { times = tt; reads = record { sight = tt; index = refl }; refusals = record { refusal = refl; end = tt }; writes = tt }
idle_tells l history floor n (Update key patch) e = record { times = tt; reads = record { sight = tt; index = refl }; refusals = record { refusal = refl; end = tt }; writes = tt }
idle_tells l history floor n (Delete key) e = record { times = tt; reads = record { sight = tt; index = refl }; refusals = record { refusal = refl; end = tt }; writes = tt }
idle_tells l history floor n (Sum column) e = record { times = tt; reads = record { sight = tt; index = refl }; refusals = record { refusal = refl; end = tt }; writes = tt }
idle_tells l history floor n Count e = record { times = tt; reads = record { sight = tt; index = refl }; refusals = record { refusal = refl; end = tt }; writes = tt }
idle_tells l history floor n Scan e = record { times = tt; reads = record { sight = tt; index = refl }; refusals = record { refusal = refl; end = tt }; writes = tt }
idle_tells l history floor n (Find column value) e = record { times = tt; reads = record { sight = tt; index = refl }; refusals = record { refusal = refl; end = tt }; writes = tt }
idle_tells l history floor n CommitCall e = record { times = tt; reads = record { sight = tt; index = refl }; refusals = record { refusal = refl; end = tt }; writes = tt }
idle_tells l history floor n Abort e = record { times = tt; reads = record { sight = tt; index = refl }; refusals = record { refusal = refl; end = tt }; writes = tt }

idle_kind : (call : Call) → begins call ≡ false → can_answer call (Refused Idle) ≡ true
idle_kind Begin e = cc
idle_kind (AsOf time) e = cc
idle_kind (Get key) e = refl
idle_kind (Insert key row) e = refl
idle_kind (Update key patch) e = refl
idle_kind (Delete key) e = refl
idle_kind (Sum column) e = refl
idle_kind Count e = refl
idle_kind Scan e = refl
idle_kind (Find column value) e = refl
idle_kind CommitCall e = refl
idle_kind Abort e = refl

module _ (v w : View) (s : ℕ) (still : w ≡ v) where
  -- by the state alone, with the view as it was
  pub at_once : (call : Call) (cause : Cause) → can_answer call (Refused cause) ≡ true → IfSome (time_told (Refused cause)) (λ time. time ≤ length (knows v s).seen)
      → ((floor : ℕ) (history : List Commit) → Tells v.limits history floor (session_told (knows v s)) call (Refused cause))
      → ((key : ℕ) → IsFound v v s key (Refused cause)) → AfterLine s call (Refused cause) v w
  at_once call cause kind told tells found = subst (AfterLine s call (Refused cause) v) (sym still)
      (refused v v s (called_still v s) (same_work s (knows v s)) (same_lists (knows v s)) refl call cause kind (λ floor history low e. tells floor history) told found)

  pub idle_line : (call : Call) → begins call ≡ false → (knows v s).is_open ≡ false → AfterLine s call (Refused Idle) v w
  idle_line call other closed = at_once call Idle (idle_kind call other) tt
      (λ floor history. subst (λ (st : SessionState). Tells v.limits history floor st call (Refused Idle)) (sym (closed_told (knows v s) closed)) (idle_tells v.limits history floor (knows v s).number call other)) (λ key. tt)

  abbrev opened : SessionState
  opened = record { begun = (knows v s).number; current = Some (transaction_told (knows v s)) }

  pub active_line : (knows v s).is_open ≡ true → (AfterLine s Begin (Refused Active) v w) × ((time : ℕ) → AfterLine s (AsOf time) (Refused Active) v w)
  active_line on = (
    at_once Begin Active refl tt (λ floor history. subst (λ (st : SessionState). Tells v.limits history floor st Begin (Refused Active)) (sym (opened_told (knows v s) on)) record { times = tt; reads = record { sight = tt; index = refl }; refusals = record { refusal = refl; end = tt }; writes = tt }) (λ key. tt),
    (λ time. at_once (AsOf time) Active refl tt (λ floor history. subst (λ (st : SessionState). Tells v.limits history floor st (AsOf time) (Refused Active)) (sym (opened_told (knows v s) on)) record { times = tt; reads = record { sight = tt; index = refl }; refusals = record { refusal = refl; end = tt }; writes = tt }) (λ key. tt)),
  )

  spent : (knows v s).number ≡ v.limits.txns → Some Spent ≡ begin_cause v.limits (unopened (knows v s).number)
  spent many = sym (λ i. first_of (None ∷ where_true (le-leb v.limits.txns (knows v s).number (omega arith) i) Spent ∷ []))

  pub spent_line : (knows v s).is_open ≡ false → (knows v s).number ≡ v.limits.txns → (AfterLine s Begin (Refused Spent) v w) × ((time : ℕ) → AfterLine s (AsOf time) (Refused Spent) v w)
  spent_line closed many = (
    at_once Begin Spent refl tt (λ floor history. subst (λ (st : SessionState). Tells v.limits history floor st Begin (Refused Spent)) (sym (closed_told (knows v s) closed)) record { times = tt; reads = record { sight = tt; index = refl }; refusals = record { refusal = spent many; end = tt }; writes = tt }) (λ key. tt),
    (λ time. at_once (AsOf time) Spent refl tt (λ floor history. subst (λ (st : SessionState). Tells v.limits history floor st (AsOf time) (Refused Spent)) (sym (closed_told (knows v s) closed)) record { times = tt; reads = record { sight = tt; index = refl }; refusals = record { refusal = spent many; end = tt }; writes = tt }) (λ key. tt)),
  )
