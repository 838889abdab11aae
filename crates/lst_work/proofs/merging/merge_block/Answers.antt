use Rattle.std.proofs.Common.{[], ◌∷◌, map, refl, ap, ◌∙◌}
use Rattle.std.proofs.lemmas.List.{map-append}
use Rattle.lst_work.proofs.Merges.{merged_block}
use Rattle.lst_work.proofs.merging.merge_block.Goals as goal

pub returns-clause-merged : goal.returns-clause-merged
returns-clause-merged g c = merged_block c.args.block.now c.args.merger.now c.merge_lines.new.merger c.args.queue.now record c.args.queue.now { replies = c.new.result } c.merge_lines.new.queue _ c.replace-replies.result
    c.in_ok-merge_lines.ensures.merged refl c.new.ensures c.replace-replies.ensures.value
    c.in_ok-push.ensures.items
