use Rattle.lst_pages.proofs.Pages.{right_blank}
use Rattle.lst_pages.proofs.laws.zeros_are_a_right_page.Goals as goal

pub returns : goal.returns
returns c = right_blank
