use Rattle.std.proofs.Common.{◌+◌, ◌*◌, length}
use Rattle.lst_work.proofs.phases.+workers.Given as goal

abbrev pub decreases-run_workers : goal.decreases-run_workers
decreases-run_workers g l = 4 * length l.workers.now

abbrev pub decreases-run_beside : goal.decreases-run_beside
decreases-run_beside g l = 4 * length l.others.now + 2

abbrev pub decreases-run_beside-rest : goal.decreases-run_beside-rest
decreases-run_beside-rest g l = 4 * length l.others.now + 1
