-- The state that a crew tells behind the lines of commits that are run again.
use Rattle.std.proofs.Common.{◌≡◌, ℕ, List, [], ◌∷◌, ◌++◌, refl, sym, ap, ◌∙◌, append_assoc, append-nil}
use Rattle.lst_layout.specs.declared.limits.Limits.{Limits}
use Rattle.lst_model.specs.declared.acts.Write.{Write}
use Rattle.lst_model.specs.declared.commits.Commit.{Commit}
use Rattle.lst_model.specs.declared.lines.Call.{Call}
use Rattle.lst_model.specs.declared.lines.Call.TheVariants.{Begin, Commit as CommitCall}
use Rattle.lst_model.specs.declared.lines.Line.{Line}
use Rattle.lst_model.specs.declared.lines.Line.TheVariants.{Call as CallLine}
use Rattle.lst_model.specs.declared.replies.Reply.{Reply}
use Rattle.lst_machine.specs.State.{State}
use Rattle.lst_machine.specs.Machine.{next, state_after}
use Rattle.lst_replay_laws.specs.Again.{call_of}
use Rattle.lst_redo.specs.Scripts.{lines_of_writes, lines_of, lines_again}
use Rattle.lst_rule.specs.declared.view.View.{View}
use Rattle.lst_session.specs.Crews.{Answers, state_told}

-- behind one part of a script and then another
parts_after : (limits : Limits) (state : State) (one other : List Line) → state_after limits state (one ++ other) ≡ state_after limits (state_after limits state one) other
parts_after limits state [] other = refl
parts_after limits state (line ∷ lines) other = parts_after limits (next limits state line) lines other

-- one write more, and one commit more
writes_more : (s : ℕ) (ws : List Write) (w : Write) → lines_of_writes s (ws ++ w ∷ []) ≡ lines_of_writes s ws ++ CallLine s (call_of w) ∷ []
writes_more s [] w = refl
writes_more s (x ∷ ws) w = ap (λ (ls : List Line). CallLine s (call_of x) ∷ ls) (writes_more s ws w)

commits_more : (front : List Commit) (c : Commit) → lines_again (front ++ c ∷ []) ≡ lines_again front ++ lines_of c
commits_more [] c = append-nil (lines_of c)
commits_more (d ∷ front) c = ap (λ (ls : List Line). lines_of d ++ ls) (commits_more front c) ∙ sym (append_assoc (lines_of d) (lines_again front) (lines_of c))

-- a call's line more
line_more : (u v w : View) (lines : List Line) (s : ℕ) (call : Call) (answer : Reply) → v.limits ≡ u.limits → state_told v ≡ state_after u.limits (state_told u) lines → Answers v w s call answer
    → state_told w ≡ state_after u.limits (state_told u) (lines ++ CallLine s call ∷ [])
line_more u v w lines s call answer same told answers =
    answers.next ∙ (λ i. next (same i) (told i) (CallLine s call)) ∙ sym (parts_after u.limits (state_told u) lines (CallLine s call ∷ []))

pub write_told : (u v w : View) (s : ℕ) (ws : List Write) (x : Write) (answer : Reply) → v.limits ≡ u.limits → state_told v ≡ state_after u.limits (state_told u) (lines_of_writes s ws) → Answers v w s (call_of x) answer
    → state_told w ≡ state_after u.limits (state_told u) (lines_of_writes s (ws ++ x ∷ []))
write_told u v w s ws x answer same told answers =
    line_more u v w (lines_of_writes s ws) s (call_of x) answer same told answers ∙ ap (state_after u.limits (state_told u)) (sym (writes_more s ws x))

pub commit_told : (u v w x : View) (c : Commit) (begin end : Reply) → Answers u v c.session Begin begin → w.limits ≡ v.limits → state_told w ≡ state_after v.limits (state_told v) (lines_of_writes c.session c.writes)
    → Answers w x c.session CommitCall end → state_told x ≡ state_after u.limits (state_told u) (lines_of c)
commit_told u v w x c begin end began same made ended =
    line_more u w x (CallLine c.session Begin ∷ lines_of_writes c.session c.writes) c.session CommitCall end (same ∙ began.limits)
    (made ∙ (λ i. state_after (began.limits i) (began.next i) (lines_of_writes c.session c.writes))) ended

pub again_told : (v w : View) (limits : Limits) (state : State) (front : List Commit) (c : Commit) → v.limits ≡ limits → state_told v ≡ state_after limits state (lines_again front)
    → state_told w ≡ state_after v.limits (state_told v) (lines_of c) → state_told w ≡ state_after limits state (lines_again (front ++ c ∷ []))
again_told v w limits state front c same told again =
    again ∙ (λ i. state_after (same i) (told i) (lines_of c)) ∙ sym (parts_after limits state (lines_again front) (lines_of c)) ∙ ap (state_after limits state) (sym (commits_more front c))
