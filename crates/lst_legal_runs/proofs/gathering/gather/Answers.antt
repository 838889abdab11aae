use Rattle.std.proofs.Common.{◌∙◌, List, Some, IfSome, option_map, sym, ap, subst}
use Rattle.lst_model.specs.declared.commits.Commit.{Commit}
use Rattle.lst_model.specs.Histories.{AreByKey}
use Rattle.lst_legal_runs.specs.Places.{run_at}
use Rattle.lst_legal_runs.specs.Gathering.{IsTold, AreFilled, AreGathered}
use Rattle.lst_legal_runs.proofs.Gathered.{gathered_told, gathered_ordered, told_is, same_commits}
use Rattle.lst_legal_runs.proofs.gathering.gather.Goals as goal

pub returns-in_default-2-clause-only : goal.returns-in_default-2-clause-only
returns-in_default-2-clause-only c = λ history told.
    let slots = c.in-Some.slots.items in
    let run = run_at c.args.places.now in
    let gathered = subst (λ o. IfSome o (λ slots. AreGathered run c.args.stamps.now slots.items run)) c.in-Some.is c.in_ok-slots.ensures.some in
    let missing = subst (λ o. AreFilled slots (option_map (λ commits. commits.items) o)) c.in_default-2.is c.in_ok-commits.ensures in
    absurd (missing history (told_is run c.args.stamps.now slots gathered history told))

pub returns-clause-told : goal.returns-clause-told
returns-clause-told c =
    let slots = c.in-Some.slots.items in
    let run = run_at c.args.places.now in
    let gathered = subst (λ o. IfSome o (λ slots. AreGathered run c.args.stamps.now slots.items run)) c.in-Some.is c.in_ok-slots.ensures.some in
    let all = subst (λ o. AreFilled slots (option_map (λ commits. commits.items) o)) c.in-Some-2.is c.in_ok-commits.ensures in
    subst (IsTold run c.args.stamps.now) (sym c.from_items.ensures) (gathered_told run c.args.stamps.now slots c.in-Some-2.commits.items gathered all)

pub returns-clause-ordered : goal.returns-clause-ordered
returns-clause-ordered c =
    let slots = c.in-Some.slots.items in
    let run = run_at c.args.places.now in
    let gathered = subst (λ o. IfSome o (λ slots. AreGathered run c.args.stamps.now slots.items run)) c.in-Some.is c.in_ok-slots.ensures.some in
    let all = subst (λ o. AreFilled slots (option_map (λ commits. commits.items) o)) c.in-Some-2.is c.in_ok-commits.ensures in
    subst AreByKey (sym c.from_items.ensures) (gathered_ordered run c.args.stamps.now slots c.in-Some-2.commits.items gathered all)

pub returns-clause-only : goal.returns-clause-only
returns-clause-only c = λ history told.
    let slots = c.in-Some.slots.items in
    let run = run_at c.args.places.now in
    let gathered = subst (λ o. IfSome o (λ slots. AreGathered run c.args.stamps.now slots.items run)) c.in-Some.is c.in_ok-slots.ensures.some in
    let all = subst (λ o. AreFilled slots (option_map (λ commits. commits.items) o)) c.in-Some-2.is c.in_ok-commits.ensures in
    ap (λ (h : List Commit). Some h) (c.from_items.ensures ∙ same_commits run c.args.stamps.now c.in-Some-2.commits.items history (all ∙ sym (told_is run c.args.stamps.now slots gathered history told)))
