use Rattle.std.specs.Prelude.{IsErr}
use Rattle.lst_log.proofs.Looking.{reads_one, failed_so}
use Rattle.lst_log.proofs.Opens.{no_both}
use Rattle.lst_log.proofs.load.load.Goals as goal

pub returns-clause-reads : goal.returns-clause-reads
returns-clause-reads g c =
    let old = c.args.disk.now in
    reads_one g.D.Disk.content g.D.Disk.images g.D.Disk.clock g.D.Disk.images_since g.D.Disk.calls_left g.D.Disk.outcome g.D.Disk.faults old c.read.new.self (IsErr c.read.result) (λ image left. g.met.D.Disk.only_now old image left)
    c.read.ensures.content c.read.ensures.crash c.read.ensures.time c.read.ensures.left c.read.ensures.outcome c.read.ensures.cause.later
    (λ failed. failed_so c.read.result _ c.read.ensures.cause.failed failed) (λ told failed. no_both _ _ c.read.result (c.read.ensures.told told) failed)
