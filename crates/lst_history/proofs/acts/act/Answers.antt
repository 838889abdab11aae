use Rattle.std.proofs.Common.{rules}
use Rattle.lst_history.proofs.Looks.{reads_same}
use Rattle.lst_history.proofs.acts.act.Goals as goal

pub returns-in-Del-clause-reads : goal.returns-in-Del-clause-reads
returns-in-Del-clause-reads c = reads_same c.args.store.now c.args.seat.now c.args.s c.requires.reader

pub returns-in-Set-clause-act : goal.returns-in-Set-clause-act
returns-in-Set-clause-act c = search rules
