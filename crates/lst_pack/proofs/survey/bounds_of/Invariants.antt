use Rattle.lst_pack.specs.Counts.{IsLeast, IsGreatest}
use Rattle.lst_pack.proofs.survey.bounds_of.Given as goal

abbrev pub invariant-loop-place : goal.invariant-loop-place
invariant-loop-place l = record {
  least : IsLeast l.values l.place l.least;
  greatest : IsGreatest l.values l.place l.greatest;
}
