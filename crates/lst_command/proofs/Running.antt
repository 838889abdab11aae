-- A script that is run line by line.
use Rattle.std.proofs.Math.Seq.{drop-cons}
use Rattle.std.proofs.Common.{◌+◌, ◌<◌, suc, length, drop, slice_index_or, add-one, ◌≡◌, ℕ, List, [], ◌∷◌, ◌++◌, sym, ap, ◌∙◌, append_assoc, append-nil}
use Rattle.lst_layout.specs.declared.limits.Limits.{Limits}
use Rattle.lst_model.specs.declared.lines.Line.{Line}
use Rattle.lst_model.specs.declared.replies.Reply.{Reply}
use Rattle.lst_machine.specs.State.{State, opening}
use Rattle.lst_machine.specs.Machine.{reply, next, replies, state_after}
use Rattle.lst_replies.specs.Texts.{line_text, script_text}
use Rattle.lst_rule.specs.declared.view.View.{View}
use Rattle.lst_rule.specs.declared.store.Store.{Store}
use Rattle.lst_session.specs.declared.crew.Crew.{Crew}
use Rattle.lst_session.specs.Crews.{IsCrewOf, TellsState, AnswersLine, state_told}
use Rattle.lst_command.specs.Owed.{run_text}
use Rattle.lst_command.specs.Runs.{HasRun, LeftBy}

pub nothing_run : (limits : Limits) (v : View) (text : List ℕ) (script : List Line) → state_told v ≡ opening → text ≡ [] → HasRun limits v text script (run_text limits script) (state_after limits opening script)
nothing_run limits v text script told empty = record {
  written = ap (λ (t : List ℕ). t ++ script_text script (replies limits (state_told v) script)) empty ∙ ap (λ (s : State). script_text script (replies limits s script)) told;
  ends = ap (λ (s : State). state_after limits s script) told;
}

pub one_line_run : (limits : Limits) (v w : View) (text : List ℕ) (line : Line) (rest : List Line) (whole : List ℕ) (last : State) (answer : Reply) → v.limits ≡ limits → HasRun limits v text (line ∷ rest) whole last → AnswersLine v w line answer
    → HasRun limits w (text ++ line_text line answer) rest whole last
one_line_run limits v w text line rest whole last answer same so_far answers = record {
  written = append_assoc text (line_text line answer) (script_text rest (replies limits (state_told w) rest))
      ∙ (ap (λ (r : Reply). text ++ (line_text line r ++ script_text rest (replies limits (state_told w) rest))) (answers.is ∙ ap (λ (l : Limits). reply l (state_told v) line) same)
      ∙ (ap (λ (s : State). text ++ (line_text line (reply limits (state_told v) line) ++ script_text rest (replies limits s rest))) after ∙ so_far.written));
  ends = ap (λ (s : State). state_after limits s rest) after ∙ so_far.ends;
}
  where
    after : state_told w ≡ next limits (state_told v) line
    after = answers.then ∙ ap (λ (l : Limits). next l (state_told v) line) same

-- the rest of a script begins with the line at hand
pub drop-line : (script : List Line) (index : ℕ) (line : Line) → index < length script → line ≡ slice_index_or script index line → drop index script ≡ line ∷ drop (index + 1) script
drop-line script index line within same =
    rw add-one (drop-cons script index line within ∙ ap (λ (first : Line). first ∷ drop (suc index) script) (sym same))

pub all_run : (limits : Limits) (v : View) (text whole : List ℕ) (last : State) → HasRun limits v text [] whole last → text ≡ whole
all_run limits v text whole last so_far = sym (append-nil text) ∙ so_far.written

pub all_left : (limits : Limits) (store : Store) (crew : Crew) (text : List ℕ) (script : List Line) → crew.seat.view.limits ≡ limits → IsCrewOf store crew → TellsState crew.seat.view → HasRun limits crew.seat.view text [] (run_text limits script) (state_after limits opening script)
    → LeftBy limits script (store, crew)
all_left limits store crew text script opened of tells so_far = record { opened = opened; crew_of = of; tells = tells; last = so_far.ends }
