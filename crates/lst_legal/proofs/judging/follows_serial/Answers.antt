use Rattle.std.proofs.Common.{◌↔◌, IsTrue, List, subst}
use Rattle.std.proofs.lemmas.Result.{IfOk-weaker}
use Rattle.lst_model.specs.declared.commits.Commit.{Commit}
use Rattle.lst_replies.specs.Runs.{AtEachCall}
use Rattle.lst_replies.specs.States.{state_of}
use Rattle.lst_legal_runs.specs.Places.{run_at}
use Rattle.lst_legal_runs.proofs.Deciding.{is_false, passes, refuses}
use Rattle.lst_serial_laws.specs.Legal.{StaleIsExplained}
use Rattle.lst_legal.proofs.judging.follows_serial.Goals as goal

pub returns-then-not-branch : goal.returns-then-not-branch
returns-then-not-branch c =
    let decides = subst (λ (history : List Commit). IsTrue c.in_ok-are_stales_explained.field-0 ↔ AtEachCall (λ before session call reply. StaleIsExplained history before session (state_of session before).current reply) (run_at c.args.places.now)) c.snapshots.ensures c.in_ok-are_stales_explained.ensures in
    is_false (λ both. refuses c.in_ok-are_stales_explained.field-0 c.if-not-branch.true decides both.stales)

pub returns : goal.returns
returns c =
    let decides = subst (λ (history : List Commit). IsTrue c.in_ok-are_stales_explained.field-0 ↔ AtEachCall (λ before session call reply. StaleIsExplained history before session (state_of session before).current reply) (run_at c.args.places.now)) c.snapshots.ensures c.in_ok-are_stales_explained.ensures in
    IfOk-weaker c.are_commits_in_place.result _ _
    (λ b placed. (
      (λ sure. record { places = placed.0 sure; stales = passes c.in_ok-are_stales_explained.field-0 c.if-not-branch.false decides }),
      (λ both. placed.1 both.places),
    ))
    c.are_commits_in_place.ensures
