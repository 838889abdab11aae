use Rattle.std.proofs.Common.{drop, map, string_bytes}
use Rattle.std.specs.IoError.{error_kind}
use Rattle.lst_command.proofs.Processes.{of_process}
use Rattle.lst_command.proofs.ending.program.Goals as goal

pub returns : goal.returns
returns g c = (
  c.ended.ensures.0,
  c.ended.ensures.1,
  of_process c.arguments.result (λ all. map string_bytes (drop 1 all.items)) (λ error. error_kind error) c.ended.ensures.0 _ _ c.ended.ensures.2,
  c.ended.ensures.3,
)
