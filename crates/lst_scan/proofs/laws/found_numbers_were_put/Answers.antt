use Rattle.lst_scan.proofs.Putting.{numbers_were_put}
use Rattle.lst_scan.proofs.laws.found_numbers_were_put.Goals as goal

pub returns : goal.returns
returns c = numbers_were_put
