use Rattle.lst_historic.proofs.Decoded.{IsOn}
use Rattle.lst_historic.proofs.decoding.long_number_in.Given as goal

abbrev pub invariant-loop-at : goal.invariant-loop-at
invariant-loop-at l = IsOn l.bytes l.place l.at l.number l.scale
