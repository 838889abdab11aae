use Rattle.std.proofs.Common.{◌<◌, subst, arith}
use Rattle.lst_layout.specs.declared.limits.Limits.{Limits}
use Rattle.lst_txn.proofs.Refusing.{few_begun}
use Rattle.lst_txn.proofs.Transacting.{opens}
use Rattle.lst_txn.proofs.begins.open.Goals as goal

pub step_begin-requires-clause-enabled : goal.step_begin-requires-clause-enabled
step_begin-requires-clause-enabled c = (c.requires.closed, (let few = few_begun c.args.seat.now.view c.args.s c.consider.ensures c.requires.host c.requires.own in omega (arith, c.requires.more)), c.requires.early)

pub returns-clause-hosted : goal.returns-clause-hosted
returns-clause-hosted c = c.step_begin.ensures.view.hosted

pub returns-clause-opens : goal.returns-clause-opens
returns-clause-opens c = λ v clock load early. opens v c.args.seat.now.view c.step_begin.new.seat.view c.args.s clock c.args.begin c.args.read_only load (subst (λ (l : Limits). c.args.s < l.sessions) load.view.limits c.requires.own) early c.step_begin.ensures.view c.step_begin.ensures.made
