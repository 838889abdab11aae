-- A session's lines together: by induction over them.
use Rattle.std.proofs.Common.{◌≡◌, ℕ, ◌-◌, ◌≤◌, max, List, [], ◌∷◌, ◌++◌, Bool, true, false, cond, eqb, length, Option, Some, None, IfSome, refl, sym, subst, ap, ◌∙◌, arith}
use Rattle.std.specs.Prelude.{get_or, slice_get, unwrap_or, IsSomeAnd}
use Rattle.std.proofs.lemmas.List.{get_or_append_left}
use Rattle.std.proofs.lemmas.Option.{slice_get_read, slice_get_within, unwrap_or-slice_get}
use Rattle.std.specs.List.{cons_option, filter, filter_map}
use Rattle.std.proofs.lemmas.Bool.{eq-eqb}
use Rattle.lst_layout.specs.declared.limits.Limits.{Limits}
use Rattle.lst_model.specs.declared.commits.Commit.{Commit}
use Rattle.lst_model.specs.declared.lines.Line.{Line}
use Rattle.lst_model.specs.declared.lines.Line.TheVariants.{Phase, Merge, Call}
use Rattle.lst_model.specs.declared.lines.Call.{Call as CallKind}
use Rattle.lst_model.specs.declared.replies.Reply.{Reply}
use Rattle.lst_model.specs.declared.replies.Reply.TheVariants.{Committed}
use Rattle.lst_model.specs.Histories.{Extends}
use Rattle.lst_rule.specs.declared.view.View.{View}
use Rattle.lst_rule.specs.Rule.{knows}
use Rattle.lst_replies.specs.declared.states.SessionState.{SessionState}
use Rattle.lst_replies.specs.Runs.{Answered, answered, is_by, commit_time, AtEachCall}
use Rattle.lst_replies.specs.States.{after_call, after_line, state_from, greatest, times_told, time_told, commit_of}
use Rattle.lst_replies.specs.Explained.{commit_at}
use Rattle.lst_session.proofs.Growing.{same_extends}
use Rattle.lst_work_laws.specs.Lines.{transaction_told, session_told, LeavesCommits}
use Rattle.lst_work_laws.specs.Runs.{Runs}
use Rattle.lst_work_laws.specs.Laws.{answered_all, TellsLine}
use Rattle.lst_work_laws.proofs.Telling.{opened_told, extends_on, later_length}

pub runs_seen : (s : ℕ) (lines : List Line) (replies : List Reply) (v w : View) → Runs s lines replies v w → Extends (knows w s).seen (knows v s).seen
runs_seen s [] [] v w x = subst (λ (u : View). Extends (knows u s).seen (knows v s).seen) (sym x) (same_extends (knows v s).seen)
runs_seen s [] (reply ∷ replies) v w x = absurd x
runs_seen s (Phase ∷ lines) replies v w x = absurd x
runs_seen s (Merge range column ∷ lines) replies v w x = absurd x
runs_seen s (Call t call ∷ lines) [] v w x = absurd x
runs_seen s (Call t call ∷ lines) (reply ∷ replies) v w x = extends_on (knows v s).seen (knows x.1.0 s).seen (knows w s).seen x.1.1.called.seen (runs_seen s lines replies x.1.0 w x.1.2)

-- the state behind a line of the session's own
pub own_after : (s t : ℕ) (call : CallKind) (reply : Reply) (state : SessionState) → t ≡ s → after_line s (answered (Call t call) reply) state ≡ after_call call reply state
own_after s t call reply state is = ap (λ (b : Bool). cond b (after_call call reply state) state) (eq-eqb t s is)

-- the times that were told to it, one line more
pub own_times : (s t : ℕ) (call : CallKind) (reply : Reply) (before : List Answered) → t ≡ s → times_told s (answered (Call t call) reply ∷ before) ≡ cons_option (time_told reply) (times_told s before)
own_times s t call reply before is = ap (λ (b : Bool). filter_map (λ (one : Answered). time_told one.reply) (cond b (answered (Call t call) reply ∷ filter (is_by s) before) (filter (is_by s) before))) (eq-eqb t s is)

-- ---- the floor

abbrev floor_after : ℕ → Option ℕ → ℕ
floor_after floor None = floor
floor_after floor (Some time) = max floor time

floors : (floor : ℕ) (told : Option ℕ) (times : List ℕ) → max (floor_after floor told) (greatest times) ≡ max floor (greatest (cons_option told times))
floors floor None times = refl
floors floor (Some time) times = omega arith

floor_low : (floor a b : ℕ) (told : Option ℕ) → floor ≤ a → a ≤ b → IfSome told (λ time. time ≤ b) → floor_after floor told ≤ b
floor_low floor a b None low seen told = omega arith
floor_low floor a b (Some time) low seen told = omega arith

-- ---- what the replies tell

pub tells_as : (l k : Limits) (history : List Commit) (f g s : ℕ) (st tu : SessionState) (call : CallKind) (reply : Reply) → l ≡ k → f ≡ g → st ≡ tu → TellsLine l history f s st call reply → TellsLine k history g s tu call reply
tells_as l k history f g s st tu call reply x y z t = subst (λ (a : Limits). TellsLine a history g s tu call reply) x (subst (λ (a : ℕ). TellsLine l history a s tu call reply) y (subst (λ (a : SessionState). TellsLine l history f s a call reply) z t))

-- a commit that was seen stands at its time in each history that goes on
commit_later : (history seen : List Commit) (time : ℕ) (one : Commit) → Extends history seen → commit_at seen time ≡ Some one → commit_at history time ≡ Some one
commit_later history seen time one e at = by_test (eqb time 0) at
  where
    by_test : (b : Bool) → cond b None (slice_get seen (time - 1)) ≡ Some one → cond b None (slice_get history (time - 1)) ≡ Some one
    by_test true at = absurd (cc)
    by_test false at =
        let low = slice_get_within seen (time - 1) one at in
        let here : get_or seen (time - 1) one ≡ one = sym (unwrap_or-slice_get seen (time - 1) one) ∙ ap (λ (o : Option Commit). unwrap_or o one) at in
        let long = later_length history seen e in
        slice_get_read history (length history) (time - 1) one refl (omega arith)
        (sym (ap (λ (h : List Commit). get_or h (time - 1) one) e.1 ∙ (get_or_append_left seen e.0 one (time - 1) low ∙ here)))

line_entered : (v u : View) (s : ℕ) (reply : Reply) (history : List Commit) → Extends history (knows u s).seen → LeavesCommits v u s reply
    → IfSome (commit_time reply) (λ time. IsSomeAnd (session_told (knows v s)).current (λ transaction. commit_at history time ≡ Some (commit_of s transaction)))
line_entered v u s (Committed time) history e h =
    subst (λ (st : SessionState). IsSomeAnd st.current (λ transaction. commit_at history time ≡ Some (commit_of s transaction))) (sym (opened_told (knows v s) h.was))
    (commit_later history (knows u s).seen time (commit_of s (transaction_told (knows v s))) e h.at)
line_entered v u s reply history e h = tt

-- Each reply tells what is so, by the rules of a legal report: under each history that goes on from what the session has seen in the end,
-- with the state and the floor that the lines before it leave
abbrev RunsAreTold : Type 0
RunsAreTold = (s floor : ℕ) (lines : List Line) (replies : List Reply) (v w : View) (history : List Commit)
    → Runs s lines replies v w → floor ≤ length (knows v s).seen → Extends history (knows w s).seen
    → AtEachCall (λ before session call reply. TellsLine v.limits history (max floor (greatest (times_told s before))) s (state_from (session_told (knows v s)) s before) call reply) (answered_all lines replies)

pub runs_are_told : RunsAreTold
runs_are_told s floor [] [] v w history x low e [] session call reply after place = cc
runs_are_told s floor [] [] v w history x low e (one ∷ before) session call reply after place = cc
runs_are_told s floor [] (r ∷ replies) v w history x low e before session call reply after place = absurd x
runs_are_told s floor (Phase ∷ lines) replies v w history x low e before session call reply after place = absurd x
runs_are_told s floor (Merge range column ∷ lines) replies v w history x low e before session call reply after place = absurd x
runs_are_told s floor (Call t c ∷ lines) [] v w history x low e before session call reply after place = absurd x
runs_are_told s floor (Call t c ∷ lines) (r ∷ replies) v w history x low e [] session call reply after place =
    let later = extends_on (knows x.1.0 s).seen (knows w s).seen history (runs_seen s lines replies x.1.0 w x.1.2) e in
    let same : answered (Call t c) r ≡ answered (Call session call) reply = cc in let line : Call t c ≡ Call session call = ap (λ (o : Answered). o.line) same in
    let same_call : c ≡ call = cc line in let same_reply : r ≡ reply = ap (λ (o : Answered). o.reply) same in
    subst (λ (d : CallKind). TellsLine v.limits history (max floor 0) s (session_told (knows v s)) d reply) same_call
    (subst (λ (q : Reply). TellsLine v.limits history (max floor 0) s (session_told (knows v s)) c q) same_reply record {
      rules = x.1.1.tells (max floor 0) history (omega arith) later;
      entered = line_entered v x.1.0 s r history later x.1.1.commits;
    })
runs_are_told s floor (Call t c ∷ lines) (r ∷ replies) v w history x low e (one ∷ before) session call reply after place =
    let u = x.1.0 in let a = x.1.1 in let one_is : answered (Call t c) r ≡ one = cc in let rest : answered_all lines replies ≡ before ++ answered (Call session call) reply ∷ after = cc in
    let seen = later_length (knows u s).seen (knows v s).seen a.called.seen in
    tells_as u.limits v.limits history _ _ s _ _ call reply a.called.learns.limits
    (floors floor (time_told r) (times_told s before) ∙ (ap (λ (ts : List ℕ). max floor (greatest ts)) (sym (own_times s t c r before x.0)) ∙ ap (λ (o : Answered). max floor (greatest (times_told s (o ∷ before)))) one_is))
    (ap (λ (st : SessionState). state_from st s before) (a.state ∙ sym (own_after s t c r (session_told (knows v s)) x.0)) ∙ ap (λ (o : Answered). state_from (session_told (knows v s)) s (o ∷ before)) one_is)
    (runs_are_told s (floor_after floor (time_told r)) lines replies u w history x.1.2 (floor_low floor (length (knows v s).seen) (length (knows u s).seen) (time_told r) low seen a.told) e before session call reply after rest)
