use Rattle.lst_scan.proofs.Dividing.{rows_have_places, places_agree}
use Rattle.lst_scan.proofs.laws.places_are_found.Goals as goal

pub returns-clause-some : goal.returns-clause-some
returns-clause-some c = rows_have_places

pub returns-clause-agree : goal.returns-clause-agree
returns-clause-agree c = places_agree
