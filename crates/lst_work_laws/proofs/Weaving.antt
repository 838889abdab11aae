-- A session's lines among those of others.
use Rattle.std.proofs.Common.{◌≡◌, ℕ, ◌<◌, ◌≤◌, max, length, List, [], ◌∷◌, ◌++◌, Bool, true, false, cond, eqb, map, Option, Some, None, refl, sym, subst, ap, ◌∙◌, arith}
use Rattle.std.specs.List.{filter, filter_map, cons_option}
use Rattle.std.proofs.lemmas.Bool.{eq-eqb, ne_eqb}
use Rattle.std.proofs.lemmas.List.Elements.{filter-append}
use Rattle.lst_model.specs.declared.commits.Commit.{Commit}
use Rattle.lst_model.specs.declared.lines.Line.{Line}
use Rattle.lst_model.specs.declared.lines.Line.TheVariants.{Phase, Merge, Call}
use Rattle.lst_model.specs.declared.lines.Call.{Call as CallKind}
use Rattle.lst_model.specs.declared.replies.Reply.{Reply}
use Rattle.lst_model.specs.Histories.{Extends}
use Rattle.lst_rule.specs.declared.view.View.{View}
use Rattle.lst_rule.specs.Rule.{knows}
use Rattle.lst_replies.specs.declared.states.SessionState.{SessionState}
use Rattle.lst_replies.specs.Runs.{Answered, answered, is_by, names, speaker_of}
use Rattle.lst_replies.specs.States.{after_call, after_line, state_from, greatest, times_told, time_told}
use Rattle.lst_work_laws.specs.Lines.{session_told}
use Rattle.lst_work_laws.specs.Runs.{lines_of, Runs}
use Rattle.lst_work_laws.specs.Orders.{queue_of, replies_from}
use Rattle.lst_work_laws.specs.Laws.{TellsLine, answered_all, phase_run}
use Rattle.lst_work_laws.proofs.Closing.{runs_are_told}

-- ---- the session's part of a run

filter_again : {X : Type 0} (p : X → Bool) (xs : List X) → filter p (filter p xs) ≡ filter p xs
filter_again p [] = refl
filter_again p (x ∷ xs) = by_test (p x) refl (filter_again p xs)
  where
    by_test : (b : Bool) → p x ≡ b → filter p (filter p xs) ≡ filter p xs → filter p (cond b (x ∷ filter p xs) (filter p xs)) ≡ cond b (x ∷ filter p xs) (filter p xs)
    by_test true e rest = ap (λ (t : Bool). cond t (x ∷ filter p (filter p xs)) (filter p (filter p xs))) e ∙ ap (λ (ys : _). x ∷ ys) rest
    by_test false e rest = rest

pub own_times : (s : ℕ) (before : List Answered) → times_told s (filter (is_by s) before) ≡ times_told s before
own_times s before = ap (filter_map (λ (one : Answered). time_told one.reply)) (filter_again (is_by s) before)

-- the line of another changes nothing
skipped : (s : ℕ) (line : Line) (reply : Reply) (state : SessionState) → names s (speaker_of line) ≡ false → after_line s (answered line reply) state ≡ state
skipped s Phase reply state e = refl
skipped s (Merge range column) reply state e = refl
skipped s (Call t call) reply state e = ap (λ (b : Bool). cond b (after_call call reply state) state) e

pub own_state : (s : ℕ) (before : List Answered) (state : SessionState) → state_from state s (filter (is_by s) before) ≡ state_from state s before
own_state s [] state = refl
own_state s (one ∷ before) state = by_test (is_by s one) refl (own_state s before)
  where
    by_test : (b : Bool) → is_by s one ≡ b → ((st : SessionState) → state_from st s (filter (is_by s) before) ≡ state_from st s before)
        → state_from state s (cond b (one ∷ filter (is_by s) before) (filter (is_by s) before)) ≡ state_from (after_line s one state) s before
    by_test true e rest = rest (after_line s one state)
    by_test false e rest = rest state ∙ ap (λ (st : SessionState). state_from st s before) (sym (skipped s one.line one.reply state e))

-- ---- the replies in order

pub queue_is : (sessions s : ℕ) (speaker : Option ℕ) → s < sessions → names s speaker ≡ eqb (queue_of sessions speaker) s
queue_is sessions s None low = sym (ne_eqb sessions s (λ e. absurd (omega arith)))
queue_is sessions s (Some t) low = refl

pub own_part : (sessions s : ℕ) (lines : List Line) (replies : List (Option ℕ × Reply)) → s < sessions → map (λ reply. reply.0) replies ≡ map speaker_of lines
    → filter (is_by s) (phase_run lines replies) ≡ answered_all (lines_of s lines) (replies_from sessions s replies)
own_part sessions s [] replies low e = refl
own_part sessions s (line ∷ lines) [] low e = cc
own_part sessions s (line ∷ lines) (reply ∷ replies) low e =
    let head : reply.0 ≡ speaker_of line = cc in let tail : map (λ r. r.0) replies ≡ map speaker_of lines = cc in
    by_test (names s (speaker_of line)) (own_part sessions s lines replies low tail)
    ∙ ap (λ (b : Bool). answered_all (cond (names s (speaker_of line)) (line ∷ lines_of s lines) (lines_of s lines)) (cons_option (cond b (Some reply.1) None) (replies_from sessions s replies)))
    (sym (ap (λ (o : Option ℕ). eqb (queue_of sessions o) s) head ∙ sym (queue_is sessions s (speaker_of line) low)))
  where
    by_test : (b : Bool) → filter (is_by s) (phase_run lines replies) ≡ answered_all (lines_of s lines) (replies_from sessions s replies)
        → cond b (answered line reply.1 ∷ filter (is_by s) (phase_run lines replies)) (filter (is_by s) (phase_run lines replies))
        ≡ answered_all (cond b (line ∷ lines_of s lines) (lines_of s lines)) (cons_option (cond b (Some reply.1) None) (replies_from sessions s replies))
    by_test true rest = ap (λ (ones : List Answered). answered line reply.1 ∷ ones) rest
    by_test false rest = rest

-- a session's lines of a phase, with those of others between them
pub woven_is_told : (sessions s floor : ℕ) (lines : List Line) (v w : View) (replies : List (Option ℕ × Reply)) (history : List Commit) → s < sessions → map (λ reply. reply.0) replies ≡ map speaker_of lines
    → Runs s (lines_of s lines) (replies_from sessions s replies) v w → floor ≤ length (knows v s).seen → Extends history (knows w s).seen
    → (before : List Answered) (call : CallKind) (reply : Reply) (after : List Answered) → phase_run lines replies ≡ before ++ answered (Call s call) reply ∷ after
    → TellsLine v.limits history (max floor (greatest (times_told s before))) s (state_from (session_told (knows v s)) s before) call reply
woven_is_told sessions s floor lines v w replies history low speakers runs seen later before call reply after place =
    let parted : filter (is_by s) (phase_run lines replies) ≡ filter (is_by s) before ++ answered (Call s call) reply ∷ filter (is_by s) after =
    ap (filter (is_by s)) place ∙ (filter-append (is_by s) before (answered (Call s call) reply ∷ after)
    ∙ ap (λ (b : Bool). filter (is_by s) before ++ cond b (answered (Call s call) reply ∷ filter (is_by s) after) (filter (is_by s) after)) (eq-eqb s s refl)) in
    let told = runs_are_told s floor (lines_of s lines) (replies_from sessions s replies) v w history runs seen later
    (filter (is_by s) before) s call reply (filter (is_by s) after) (sym (own_part sessions s lines replies low speakers) ∙ parted) in
    subst (λ (st : SessionState). TellsLine v.limits history (max floor (greatest (times_told s before))) s st call reply) (own_state s before (session_told (knows v s)))
    (subst (λ (ts : List ℕ). TellsLine v.limits history (max floor (greatest ts)) s (state_from (session_told (knows v s)) s (filter (is_by s) before)) call reply) (own_times s before) told)
