use Rattle.std.proofs.Common.{◌-◌, ap, ◌∙◌, arith}
use Rattle.lst_history.specs.Commits.{with_write}
use Rattle.lst_model.specs.declared.commits.Commit.{Commit}
use Rattle.lst_history.proofs.Joining.{on_ok, enters}
use Rattle.lst_history.proofs.joins.enter.Goals as goal

pub returns : goal.returns
returns c = record { ok = on_ok c.add.result (λ is. enters c.args.commits.now.items (c.args.time - 1) c.args.write c.index_mut.result.now c.add.new.commit (let h = c.requires.time in let a = h.0 in let b = h.1 in omega arith) (is ∙ ap (λ (d : Commit). with_write d c.args.write) c.index_mut.ensures.value)) c.add.ensures.ok }
