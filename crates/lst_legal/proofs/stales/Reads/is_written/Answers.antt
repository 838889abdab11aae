use Rattle.std.proofs.Common.{List, ◌-◌, get_or, ap, ◌∙◌}
use Rattle.std.specs.List.{list_any}
use Rattle.lst_model.specs.declared.acts.Write.{Write}
use Rattle.lst_model.specs.declared.commits.Commit.{Commit}
use Rattle.lst_replies.specs.Explained.{commit_at}
use Rattle.lst_legal.specs.Serials.{has_number, has_written}
use Rattle.lst_legal.proofs.Rereading.{written_named}
use Rattle.lst_legal.proofs.stales.Reads.is_written.Goals as goal

pub returns-then-is_shorter : goal.returns-then-is_shorter
returns-then-is_shorter c = λ named.
    written_named c.args.snapshots.now c.args.time c.index-commits-time.result c.args.self.now c.names_any.result c.requires.some c.requires.past
    (c.index-commits-time.is ∙ ap (λ (history : List Commit). get_or history (c.args.time - 1) c.index-commits-time.result) c.commits.ensures)
    (c.names_any.ensures ∙ ap (list_any (λ (write : Write). has_number c.args.self.now.named.keys write.key)) c.items-then-is_shorter.ensures) named

pub returns-else-is_shorter : goal.returns-else-is_shorter
returns-else-is_shorter c = λ named. c.has_written_any.ensures ∙ ap (list_any (has_written (commit_at c.args.snapshots.now c.args.time))) c.deref.ensures.value
