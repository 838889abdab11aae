use Rattle.std.proofs.Common.{◌<◌, refl, sym, subst}
use Rattle.lst_layout.specs.declared.limits.Limits.{Limits}
use Rattle.lst_work.proofs.Merges.{merged_page}
use Rattle.lst_work.proofs.merging.merge_page.Goals as goal

pub merge-answer-requires-clause-page : goal.merge-answer-requires-clause-page
merge-answer-requires-clause-page c = subst (λ (l : Limits). (c.args.range < l.ranges) × (c.args.column < l.columns)) (sym c.requires.merger.seat_of.limits) c.requires.can.fits

pub returns-clause-merged : goal.returns-clause-merged
returns-clause-merged c = merged_page c.args.range c.args.column c.merge-answer.result c.merge_reply.result c.args.merger.now c.merge-answer.new.self c.args.queue.now _ c.merge-answer.ensures.merges c.merge_reply.ensures c.in_ok-push.ensures.ok refl
