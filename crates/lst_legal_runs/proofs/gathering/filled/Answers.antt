use Rattle.std.proofs.Common.{◌≡◌, ◌++◌, ◌∷◌, [], List, Option, Some, None, map, ap, ◌∙◌, sym}
use Rattle.lst_model.specs.declared.commits.Commit.{Commit}
use Rattle.lst_legal_runs.proofs.gathering.filled.Goals as goal

missing : (commits : List Commit) (front rest : List (Option Commit)) → map (λ commit. Some commit) commits ≡ front ++ None ∷ rest → ⊥
missing [] [] rest e = absurd (cc)
missing [] (x ∷ front) rest e = absurd (cc)
missing (c ∷ commits) [] rest e = absurd (cc)
missing (c ∷ commits) (x ∷ front) rest e = let others : map (λ (commit : Commit). Some commit) commits ≡ front ++ None ∷ rest = cc in missing commits front rest others

pub returns-in-None-slot : goal.returns-in-None-slot
returns-in-None-slot c = λ commits e.
    missing commits (map (λ commit. Some commit) c.loop-slot.commits.items) c.next.new.self.rest.items
    (e ∙ sym c.loop-slot.invariant ∙ ap (λ rest. map (λ commit. Some commit) c.loop-slot.commits.items ++ rest) (c.in-Some.ensures.steps.0 ∙ ap (λ x. x ∷ c.next.new.self.rest.items) c.in-None-slot.is))
