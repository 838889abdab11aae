use Rattle.std.proofs.Common.{rules}
use Rattle.lst_work.proofs.reporting.stamps_of.Goals as goal

pub loop-commit-init : goal.loop-commit-init
loop-commit-init c = search rules
