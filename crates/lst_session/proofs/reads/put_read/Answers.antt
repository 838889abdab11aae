use Rattle.std.proofs.Common.{refl, inl}
use Rattle.lst_session.proofs.reads.put_read.Goals as goal

pub returns-in-None-clause-reads : goal.returns-in-None-clause-reads
returns-in-None-clause-reads c = let e = c.in-None.ensures in inl (refl, record { works = e.works; kept = e.kept; keeps = e.keeps; ended = e.none; unseen = e.unseen })
