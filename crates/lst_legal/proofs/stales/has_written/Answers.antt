use Rattle.lst_replies.specs.Explained.{commit_at}
use Rattle.lst_legal.proofs.Rereading.{has_written_is}
use Rattle.lst_legal.proofs.stales.has_written.Goals as goal

pub returns : goal.returns
returns c = has_written_is c.wrote.result c.args.key (commit_at c.args.snapshots.now c.args.time) c.wrote.ensures
