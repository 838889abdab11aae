use Rattle.std.proofs.Common.{sym, subst}
use Rattle.lst_machine.specs.State.{opening}
use Rattle.lst_plain.specs.Lineages.{LineageState}
use Rattle.lst_plain.specs.Pages.{PagesTell}
use Rattle.lst_plain.proofs.Blank.{pages_opening}
use Rattle.lst_plain.proofs.plain.Plain.new.Goals as goal

pub returns-clause-opening : goal.returns-clause-opening
returns-clause-opening c = record {
  store = c.in_ok-engine.ensures.opening;
  pages = subst (λ (l : LineageState). PagesTell l c.args.layout.now.limits opening) (sym c.in_ok-lineage.ensures) (pages_opening c.args.layout.now.limits);
}
