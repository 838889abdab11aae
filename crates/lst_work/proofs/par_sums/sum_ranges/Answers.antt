use Rattle.lst_scan.proofs.Leaving.{readers_only_look}
use Rattle.lst_work.proofs.par_sums.sum_ranges.Goals as goal

pub returns-clause-looks : goal.returns-clause-looks
returns-clause-looks c = (readers_only_look c.args.session.now.seat.view c.sum_part.new.reader.seat.now.view c.args.session.now.number c.requires.ready.own c.sum_part.ensures.watched).0
