use Rattle.std.proofs.Common.{◌∙◌, ℕ, Some, None, cond, refl, ap, subst}
use Rattle.lst_legal_runs.specs.Marks.{are_same, number_at}
use Rattle.lst_legal_runs.specs.Places.{seen_at}
use Rattle.lst_legal_runs.specs.Conflicts.{IsAcceptedAt}
use Rattle.lst_legal_runs.proofs.Accepting.{accepted_push}
use Rattle.lst_legal_runs.proofs.conflicts.note_accepted.Goals as goal

pub returns-in_ok-set : goal.returns-in_ok-set
returns-in_ok-set c = λ front outline are.
    let at = c.accepted_write.ensures front outline in
    accepted_push c.args.marks.now c.set.new.self front (seen_at c.args.place.now) (Some (c.in-Some.session, c.in-Some.number, c.in-Some.key))
    (subst (IsAcceptedAt front (seen_at c.args.place.now)) c.in-Some.is at) are
    (λ session number key. c.in_ok-set.ensures session number key ∙ ap (λ (s : ℕ). cond (are_same s c.in-Some.number c.in-Some.key session number key) 1 (number_at c.args.marks.now session number key)) c.from.ensures)

pub returns-in_default : goal.returns-in_default
returns-in_default c = λ front outline are.
    let at = c.accepted_write.ensures front outline in
    accepted_push c.args.marks.now c.args.marks.now front (seen_at c.args.place.now) None
    (subst (IsAcceptedAt front (seen_at c.args.place.now)) c.in_default.is at) are (λ session number key. refl)
