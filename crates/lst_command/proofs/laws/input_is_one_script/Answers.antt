use Rattle.std.proofs.Common.{Ok}
use Rattle.lst_script.proofs.Versions.{answers_script}
use Rattle.lst_command.proofs.laws.input_is_one_script.Goals as goal

pub returns : goal.returns
returns c limits input script other is is_other =
    let same = answers_script limits input (Ok script) is tt other is_other in
    cc
