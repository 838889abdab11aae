use Rattle.std.proofs.Common.{◌≡◌, [], ◌∷◌, sym, subst, rules}
use Rattle.lst_model.specs.declared.lines.Line.{Line}
use Rattle.lst_model.specs.declared.lines.Line.TheVariants.{Call}
use Rattle.lst_work.specs.Workers.{Ran}
use Rattle.lst_work.proofs.Running.{ran_nothing, not_own}
use Rattle.lst_work.proofs.workers.run_line.Goals as goal

pub returns-then-session-worker-clause-ran : goal.returns-then-session-worker-clause-ran
returns-then-session-worker-clause-ran g c = let w = c.args.worker.now in
    let other : ¬ (c.in-Call.session ≡ w.session.number) = search rules in
    let is : c.args.line.now ≡ Call c.in-Call.session c.in-Call.call = search rules in
    subst (λ (line : Line). Ran (line ∷ []) w w) (sym is) (ran_nothing (Call c.in-Call.session c.in-Call.call ∷ []) w (not_own w.session.number c.in-Call.session c.in-Call.call other))
