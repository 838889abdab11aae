use Rattle.lst_report.proofs.Numbers.{script_holds}
use Rattle.lst_report.proofs.Fitting.{report_fits}
use Rattle.lst_script.specs.Texts.{text_lines}
use Rattle.lst_report.proofs.laws.legal_report_fits.Goals as goal

pub returns : goal.returns
returns c limits text report valid is = report_fits limits is.script report is.legal.0 (script_holds limits valid (text_lines text) is.script is.is_script) is.few is.legal.1
