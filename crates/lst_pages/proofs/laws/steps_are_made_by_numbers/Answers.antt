use Rattle.lst_pages.proofs.Tellings.{by_numbers}
use Rattle.lst_pages.proofs.laws.steps_are_made_by_numbers.Goals as goal

pub returns : goal.returns
returns c = by_numbers
