use Rattle.std.proofs.Common.{rules}
use Rattle.lst_work.proofs.Heard.{they_have_heard}
use Rattle.lst_work.proofs.hearing.heard.Goals as goal

pub returns-clause-heard : goal.returns-clause-heard
returns-clause-heard c = search (rules, they_have_heard)
