-- What was told in a phase, and who has seen it.
use Rattle.std.proofs.Common.{◌≡◌, ℕ, ◌<◌, ◌≤◌, List, [], ◌∷◌, length, Option, Some, None, IfSome, get_or, sym, subst, ◌∙◌, arith}
use Rattle.std.specs.List.{cons_option}
use Rattle.lst_model.specs.declared.lines.Line.{Line}
use Rattle.lst_model.specs.declared.lines.Line.TheVariants.{Phase, Merge, Call}
use Rattle.lst_model.specs.declared.replies.Reply.{Reply}
use Rattle.lst_model.specs.declared.replies.Reply.TheVariants.{Begun, Done, Row, Absent, Committed, Ended, Aborted, Sum, Count, Rows, Keys, Refused, Merged, NothingNew, NoFrame, Silent}
use Rattle.lst_rule.specs.declared.view.View.{View}
use Rattle.lst_rule.specs.Rule.{knows}
use Rattle.lst_replies.specs.Runs.{commit_time, commit_times}
use Rattle.lst_replies.specs.States.{greatest, times_told, time_told}
use Rattle.lst_work_laws.specs.Runs.{lines_of, Runs}
use Rattle.lst_work_laws.specs.Orders.{replies_from}
use Rattle.lst_session.specs.Parting.{known_by}
use Rattle.lst_rule.specs.declared.store.Store.{Store}
use Rattle.lst_session.specs.declared.session.Session.{Session}
use Rattle.lst_work_laws.specs.Whole.{AreAll, IsPhase}
use Rattle.lst_work_laws.specs.Phases.{HaveHeard}
use Rattle.lst_work_laws.specs.Laws.{answered_all, own_run}
use Rattle.lst_work_laws.proofs.Telling.{later_length}
use Rattle.lst_work_laws.proofs.Closing.{runs_seen, own_times}

-- a list of times with one more, or not
pub more_low : (told : Option ℕ) (times : List ℕ) (b : ℕ) → IfSome told (λ time. time ≤ b) → greatest times ≤ b → greatest (cons_option told times) ≤ b
more_low None times b one rest = rest
more_low (Some time) times b one rest = omega arith

raised : (told : Option ℕ) (a b : ℕ) → a ≤ b → IfSome told (λ time. time ≤ a) → IfSome told (λ time. time ≤ b)
raised None a b up h = tt
raised (Some time) a b up h = omega arith

committed_low : (reply : Reply) (b : ℕ) → IfSome (time_told reply) (λ time. time ≤ b) → IfSome (commit_time reply) (λ time. time ≤ b)
committed_low (Committed time) b h = h
committed_low (Begun time) b h = tt
committed_low Done b h = tt
committed_low (Row row) b h = tt
committed_low Absent b h = tt
committed_low (Ended time) b h = tt
committed_low Aborted b h = tt
committed_low (Sum total) b h = tt
committed_low (Count rows) b h = tt
committed_low (Rows list) b h = tt
committed_low (Keys list) b h = tt
committed_low (Refused cause) b h = tt
committed_low (Merged tps) b h = tt
committed_low (NothingNew tps) b h = tt
committed_low (NoFrame session) b h = tt
committed_low Silent b h = tt

-- the times that its lines were told, and those of its commits, it has seen in the end
pub runs_times : (s : ℕ) (lines : List Line) (replies : List Reply) (v w : View) → Runs s lines replies v w
    → (greatest (times_told s (answered_all lines replies)) ≤ length (knows w s).seen) × (greatest (commit_times (answered_all lines replies)) ≤ length (knows w s).seen)
runs_times s [] [] v w x = (omega arith, omega arith)
runs_times s [] (reply ∷ replies) v w x = absurd x
runs_times s (Phase ∷ lines) replies v w x = absurd x
runs_times s (Merge range column ∷ lines) replies v w x = absurd x
runs_times s (Call t call ∷ lines) [] v w x = absurd x
runs_times s (Call t call ∷ lines) (reply ∷ replies) v w x =
    let u = x.1.0 in let rest = runs_times s lines replies u w x.1.2 in
    let up : length (knows u s).seen ≤ length (knows w s).seen = later_length (knows w s).seen (knows u s).seen (runs_seen s lines replies u w x.1.2) in
    let told = raised (time_told reply) (length (knows u s).seen) (length (knows w s).seen) up x.1.1.told in (
      subst (λ (ts : List ℕ). greatest ts ≤ length (knows w s).seen) (sym (own_times s t call reply (answered_all lines replies) x.0)) (more_low (time_told reply) (times_told s (answered_all lines replies)) (length (knows w s).seen) told rest.0),
      more_low (commit_time reply) (commit_times (answered_all lines replies)) (length (knows w s).seen) (committed_low reply (length (knows w s).seen) told) rest.1,
    )

-- Once the sessions of a phase have heard of each other, each has seen every time that was told to it in the phase, and the commits of any of them
abbrev FloorsAreHeard : Type 0
FloorsAreHeard = (store : Store) (lines : List Line) (old ran heard : List Session) (m n : View) (replies : List (Option ℕ × Reply)) (i j : ℕ) (d e : Session)
    → AreAll store old → AreAll store ran → IsPhase lines old ran m n replies → HaveHeard ran heard → i < length old → j < length old
    → (greatest (times_told i (own_run (length old) i lines replies)) ≤ length (known_by (get_or heard i d)).seen)
    × (greatest (commit_times (own_run (length old) j lines replies)) ≤ length (known_by (get_or heard i d)).seen)

pub floors_are_heard : FloorsAreHeard
floors_are_heard store lines old ran heard m n replies i j d e before after phase hears low lower =
    let many : length ran ≡ length old = after.count ∙ sym before.count in
    let inside : i < length ran = subst (λ (n : ℕ). i < n) (sym many) low in let within : j < length ran = subst (λ (n : ℕ). j < n) (sym many) lower in
    let its = runs_times i (lines_of i lines) (replies_from (length old) i replies) (get_or old i d).seat.view (get_or ran i d).seat.view (phase.runs i d low) in
    let other = runs_times j (lines_of j lines) (replies_from (length old) j replies) (get_or old j e).seat.view (get_or ran j e).seat.view (phase.runs j e lower) in
    let own_up : length (known_by (get_or ran i d)).seen ≤ length (known_by (get_or heard i d)).seen = later_length _ _ (hears.hears i d inside).seen in
    let up : length (known_by (get_or ran j e)).seen ≤ length (known_by (get_or heard i d)).seen = later_length _ _ (hears.all i j d e inside within) in
    let mine : greatest (times_told i (own_run (length old) i lines replies)) ≤ length (known_by (get_or ran i d)).seen =
    subst (λ (n : ℕ). greatest (times_told i (own_run (length old) i lines replies)) ≤ length (knows (get_or ran i d).seat.view n).seen) (sym (after.number i d inside)) its.0 in
    let theirs : greatest (commit_times (own_run (length old) j lines replies)) ≤ length (known_by (get_or ran j e)).seen =
    subst (λ (n : ℕ). greatest (commit_times (own_run (length old) j lines replies)) ≤ length (knows (get_or ran j e).seat.view n).seen) (sym (after.number j e within)) other.1 in
    (omega arith, omega arith)
