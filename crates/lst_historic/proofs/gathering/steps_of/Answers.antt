use Rattle.std.proofs.Common.{◌≡◌, ℕ, ◌+◌, ◌<◌, List, ◌∷◌, ◌++◌, length, get_or, drop, sym, ap, ◌∙◌, append_assoc, add-one, drop-cons}
use Rattle.lst_model.specs.declared.acts.Write.{Write}
use Rattle.lst_model.specs.declared.commits.Commit.{Commit}
use Rattle.lst_historic.specs.Moves.{Move, moves, moves_at, moves_from}
use Rattle.lst_historic.proofs.gathering.steps_of.Goals as goal

-- one more commit's moves behind those so far
more : (cs : List Commit) (i : ℕ) (commit : Commit) (old new : List Move) → i < length cs → commit ≡ get_or cs i commit → new ≡ old ++ moves_at (i + 1) commit.writes → old ++ moves_from i (drop i cs) ≡ moves_from 0 cs
    → new ++ moves_from (i + 1) (drop (i + 1) cs) ≡ moves_from 0 cs
more cs i commit old new low is e so =
    let rest : drop i cs ≡ commit ∷ drop (i + 1) cs = drop-cons cs i commit low ∙ (ap (λ (k : ℕ). get_or cs i commit ∷ drop k cs) (sym (add-one i)) ∙ ap (λ (x : Commit). x ∷ drop (i + 1) cs) (sym is)) in
    let behind : old ++ moves_from i (commit ∷ drop (i + 1) cs) ≡ moves_from 0 cs = ap (λ (xs : List Commit). old ++ moves_from i xs) (sym rest) ∙ so in
    ap (λ (ms : List Move). ms ++ moves_from (i + 1) (drop (i + 1) cs)) e ∙ (rw append_assoc behind)

pub loop-commit-preserved : goal.loop-commit-preserved
loop-commit-preserved c = let i = c.loop-commit.commit-index in record {
  time = ap (λ (n : ℕ). n + 1) c.loop-commit.invariant.time;
  moves = more c.args.commits.now i c.commit-item.result (moves c.loop-commit.steps.items) (moves c.push_steps.new.steps.items) c.loop-commit-test.true c.commit-item.is
      (c.in_ok-push_steps.ensures ∙ (ap (λ (ws : List Write). moves c.loop-commit.steps.items ++ moves_at (c.loop-commit.time + 1) ws) c.items.ensures ∙ ap (λ (n : ℕ). moves c.loop-commit.steps.items ++ moves_at (n + 1) c.commit-item.result.writes) c.loop-commit.invariant.time))
      c.loop-commit.invariant.moves;
}
