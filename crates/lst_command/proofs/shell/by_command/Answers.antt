use Rattle.lst_command.specs.Answers.{change}
use Rattle.lst_command.proofs.Leaving.{says_part}
use Rattle.lst_command.proofs.shell.by_command.Goals as goal

pub returns-in-Ok : goal.returns-in-Ok
returns-in-Ok g c = record {
  says = λ words names. says_part words
      (change (g.S.Source.left c.args.source.now) (g.S.Source.faults c.args.source.now) (g.S.Source.left c.output.new.source) (g.S.Source.faults c.output.new.source))
      (change (g.K.Sink.taken c.args.sink.now) (g.K.Sink.faults c.args.sink.now) (g.K.Sink.taken c.write_all.new.sink) (g.K.Sink.faults c.write_all.new.sink))
      c.args.command.now names c.in-Ok.field-0 c.as_bytes.result.now c.write_all.ensures.front.0 c.args.left.now c.leave.new.left
      c.in-Ok.ensures.output c.as_bytes.ensures c.write_all.ensures.front.1 c.in-Err-write_all.ensures.cause.failed c.leave.ensures.some c.leave.ensures.none;
}
