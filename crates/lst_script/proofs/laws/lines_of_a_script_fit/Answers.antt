use Rattle.lst_script.proofs.Fitting.{script_fits}
use Rattle.lst_script.proofs.laws.lines_of_a_script_fit.Goals as goal

pub returns : goal.returns
returns c = script_fits
