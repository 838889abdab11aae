use Rattle.std.proofs.Common.{refl}
use Rattle.lst_historic.proofs.Made.{all_numbers, all_wide}
use Rattle.lst_historic.proofs.laws.history_has_its_block.Goals as goal

pub returns : goal.returns
returns c = λ columns history sound fits. record { sound = sound; wide = all_wide columns history fits; numbers = all_numbers columns history fits; text = refl }
