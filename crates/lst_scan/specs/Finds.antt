-- Whether a find is refused.
use Rattle.std.specs.Prelude.{◌≡◌, ℕ, true, false}
use Rattle.lst_layout.specs.declared.limits.Limits.{Limits}
use Rattle.lst_machine.specs.Calls.{is_indexed}
use Rattle.lst_rule.specs.Seats.{Sitting}
use Rattle.lst_scan.specs.declared.finds.FindRefusal.{FindRefusal}
use Rattle.lst_scan.specs.declared.finds.FindRefusal.TheVariants.{NotIndexed, OutOfMemory}

-- NotIndexed where the layout names no index on the column, and then nothing was looked at; want of memory comes only where it names one
abbrev pub IsRefused : Limits → Sitting → Sitting → ℕ → FindRefusal → Type 0
IsRefused limits old new column NotIndexed = (is_indexed limits column ≡ false) × (new ≡ old)
IsRefused limits old new column OutOfMemory = is_indexed limits column ≡ true
