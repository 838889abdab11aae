use Rattle.lst_pack.proofs.Reading.{stands_for_one, rest_is_free, zeros_are_zeros}
use Rattle.lst_pack.proofs.laws.packed_words.Goals as goal

pub returns : goal.returns
returns c = record { one = stands_for_one; rest = rest_is_free; zeros = zeros_are_zeros }
