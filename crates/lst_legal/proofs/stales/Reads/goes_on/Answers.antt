use Rattle.lst_legal.proofs.stales.Reads.goes_on.Goals as goal

pub returns-clause-passed : goal.returns-clause-passed
returns-clause-passed c = λ session front are. c.in_ok-pass.ensures c.args.snapshots.now session front (c.in_ok-is_explained.ensures.stay front are)
