use Rattle.std.proofs.Common.{refl, arith}
use Rattle.lst_log.proofs.Crashes.{batch_length}
use Rattle.lst_log.proofs.Logging.{batch_within, memory_no_room}
use Rattle.lst_log.proofs.log.Log.stage.Goals as goal

pub overflow_add-used : goal.overflow_add-used
overflow_add-used g c =
    let log = c.args.self.now in
    let opened = c.requires.open in
    let staged = c.requires.staged in
    let within = batch_within g.D.Disk.content g.D.Disk.images log opened.0 opened.1 g.D.Disk.room_calls g.D.Disk.room_bytes staged.0 c.args.batch.now.items staged.1 in
    omega (arith, within, c.len.ensures, c.size-whole.ensures)

pub returns-in-Err-clause-full : goal.returns-in-Err-clause-full
returns-in-Err-clause-full g c = λ commits staged.
    let log = c.args.self.now in
    let opened = c.requires.open in
    let content = g.D.Disk.content log.disk in
    let within = batch_within g.D.Disk.content g.D.Disk.images log opened.0 opened.1 g.D.Disk.room_calls g.D.Disk.room_bytes commits c.args.batch.now.items staged in
    let long = batch_length log.columns commits c.args.batch.now.items staged.is_batch in (
      λ e. absurd (memory_no_room _ refl e),
      λ lacks. absurd (omega (arith, lacks, within, long, c.len.ensures, c.size-whole.ensures, c.record_size-size.ensures.size, c.if-whole-used.false)),
    )
