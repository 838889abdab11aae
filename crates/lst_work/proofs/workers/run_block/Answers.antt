use Rattle.std.proofs.Common.{[], ◌∷◌, map, refl, ap, ◌∙◌}
use Rattle.std.proofs.lemmas.List.{map-append}
use Rattle.lst_work.proofs.Running.{ran_block}
use Rattle.lst_work.proofs.workers.run_block.Goals as goal

pub returns-clause-ran : goal.returns-clause-ran
returns-clause-ran g c = ran_block c.args.block.now c.args.worker.now record c.args.worker.now { replies = c.new.result } c.run_lines.new.worker _ c.replace-replies.result
    c.in_ok-run_lines.ensures.ran refl refl c.new.ensures refl c.replace-replies.ensures.value
    c.in_ok-push.ensures.items refl refl refl refl
