use Rattle.lst_core.proofs.Opened.{opens, open_core}
use Rattle.lst_core.proofs.cores.Core.new.Goals as goal

pub invariant_of-result : goal.invariant_of-result
invariant_of-result c = open_core c.args.layout.now.limits c.args.layout.now.valid c.in_ok-words.words.items c.in_ok-numbers.numbers.items c.in_ok-words.ensures c.in_ok-numbers.ensures

pub returns-clause-opens : goal.returns-clause-opens
returns-clause-opens c = opens c.args.layout.now.limits c.args.layout.now.valid c.in_ok-words.words.items c.in_ok-numbers.numbers.items c.in_ok-words.ensures c.in_ok-numbers.ensures
